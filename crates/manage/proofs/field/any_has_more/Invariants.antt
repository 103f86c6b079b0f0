use Rattle.std.proofs.Common.{◌≡◌, drop, map}
use Rattle.std.specs.List.{list_any}
use Rattle.manage.specs.Fields.{is_long, scalar_text}
use Rattle.manage.proofs.field.any_has_more.Given as goal

abbrev pub invariant-loop-scalar : goal.invariant-loop-scalar
invariant-loop-scalar l = list_any (is_long l.rule) (map scalar_text (drop l.scalar-index l.scalars)) ≡ list_any (is_long l.rule) (map scalar_text l.scalars)
