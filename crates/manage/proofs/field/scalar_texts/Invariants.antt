use Rattle.std.proofs.Common.{◌≡◌, ◌++◌, drop, map}
use Rattle.manage.specs.Fields.{scalar_text}
use Rattle.manage.proofs.field.scalar_texts.Given as goal

abbrev pub invariant-loop-scalar : goal.invariant-loop-scalar
invariant-loop-scalar l = l.texts ++ map scalar_text (drop l.scalar-index l.scalars) ≡ map scalar_text l.scalars
