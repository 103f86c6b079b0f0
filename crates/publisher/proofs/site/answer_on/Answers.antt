use Rattle.std.proofs.Common.{◌∙◌, ap, Ok}
use Rattle.zknown.specs.Seen.{objects}
use Rattle.evaluator.specs.Facts.{look}
use Rattle.publisher.specs.Faults.{comes_to, told}
use Rattle.publisher.specs.Site.{request}
use Rattle.publisher.proofs.Limiting.{halts_at}
use Rattle.publisher.proofs.Undoing.{undo_begins}
use Rattle.publisher.proofs.site.answer_on.Goals as goal

pub returns-in-Ok-Undo-clause-progress : goal.returns-in-Ok-Undo-clause-progress
returns-in-Ok-Undo-clause-progress c =
    c.undo_on.ensures.progress (objects c.args.known.now) c.args.request.now
    (undo_begins c.args.known.now (look c.args.facts.now) c.args.request.now c.in-Ok-Undo.user c.in-Ok-Undo.tid c.new-far.result
    (c.in-Ok-Undo.ensures.answers ∙ ap Ok c.in-Ok-Undo.field-0-is) c.new-far.ensures)

pub returns-clause-value : goal.returns-clause-value
returns-clause-value c =
    c.refused.ensures ∙ halts_at (look c.args.facts.now) c.args.request.now (told c.in-Err.cause) (comes_to c.args.known.now (request c.args.request.now)) c.in_ok-halted-in-Err.halted c.in-Err.ensures.answers c.in_ok-halted-in-Err.ensures
