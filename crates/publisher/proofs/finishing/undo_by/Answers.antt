use Rattle.std.proofs.Common.{◌∙◌, ap, ℕ, List}
use Rattle.evaluator.specs.declared.outcome.Outcome.{Outcome}
use Rattle.evaluator.specs.Facts.{look}
use Rattle.publisher.proofs.Limiting.{not_undone, undone_to}
use Rattle.publisher.specs.Replies.{by_verb, done}
use Rattle.publisher.specs.Site.{drafted}
use Rattle.publisher.proofs.finishing.undo_by.Goals as goal

pub returns-in_ok-undone_so-in-Ok-clause-value : goal.returns-in_ok-undone_so-in-Ok-clause-value
returns-in_ok-undone_so-in-Ok-clause-value c = undone_to (look c.args.facts.now) c.args.request.now c.args.undoing.now.user c.args.undoing.now.tid c.in-Ok.change.entries c.in_ok-undone_so-in-Ok.field-0 c.in-Ok.ensures.change
    (c.in_ok-undone_so-in-Ok.ensures ∙ ap (λ (user : List ℕ). Outcome.Change (by_verb c.args.request.now.method done) (drafted c.args.request.now user c.in-Ok.change.entries)) c.in_ok-copy-in-Ok.ensures)

pub returns-in_ok-not_undone-in-Err-clause-value : goal.returns-in_ok-not_undone-in-Err-clause-value
returns-in_ok-not_undone-in-Err-clause-value c = not_undone (look c.args.facts.now) c.args.request.now c.args.undoing.now.user c.args.undoing.now.tid c.in-Err.cause c.in_ok-not_undone-in-Err.field-0 c.in-Err.ensures.change c.in_ok-not_undone-in-Err.ensures
