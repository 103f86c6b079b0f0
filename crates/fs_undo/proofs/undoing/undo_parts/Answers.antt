use Rattle.std.proofs.Common.{◌∙◌, ap, sym, subst}
use Rattle.zbase.specs.Query.{Answers}
use Rattle.evaluator.specs.Facts.{look}
use Rattle.fs_undo.specs.Undo as spec
use Rattle.fs_undo.proofs.Values.{all_known, needs_first}
use Rattle.fs_undo.proofs.undoing.undo_parts.Goals as goal

pub returns-in-Some-clause-entries : goal.returns-in-Some-clause-entries
returns-in-Some-clause-entries c = needs_first c.args.facts.now c.args.tid c.args.parts.now c.in-Some.oid (sym c.in-Some.is ∙ c.first_unknown.ensures.is ∙ ap (spec.first_unknown (look c.args.facts.now)) c.as_slice.ensures)

pub returns-in-None-clause-entries : goal.returns-in-None-clause-entries
returns-in-None-clause-entries c =
    subst (Answers spec.told (λ entries. entries) c.undo_known.result)
    (sym (all_known c.args.facts.now c.args.tid c.args.parts.now (sym c.in-None.is ∙ c.first_unknown.ensures.is ∙ ap (spec.first_unknown (look c.args.facts.now)) c.as_slice.ensures))) c.undo_known.ensures
