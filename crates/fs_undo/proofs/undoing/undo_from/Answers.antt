use Rattle.std.proofs.Common.{◌∙◌, ap, sym, List, Option, Some}
use Rattle.evaluator.specs.declared.fact.Fact.{Fact}
use Rattle.evaluator.specs.declared.fact.Part.{Part}
use Rattle.evaluator.specs.Facts.{look}
use Rattle.fs_undo.proofs.Parts.{far_there}
use Rattle.fs_undo.proofs.undoing.undo_from.Goals as goal

pub returns-in-Some-Transaction-default-Some-clause-far : goal.returns-in-Some-Transaction-default-Some-clause-far
returns-in-Some-Transaction-default-Some-clause-far c =
    let found = c.in-Some-Transaction-default-Some in
    far_there (look c.args.facts.now) c.args.tid found.field-0-0 c.undo_parts.new.far found.parts
    (sym (ap Some (found.field-0-is ∙ ap (λ (parts : Option (List Part)). Fact.Transaction found.field-0-0 parts) found.field-0-1-is)) ∙ found.ensures) c.undo_parts.ensures.known
