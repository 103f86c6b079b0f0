use Rattle.std.proofs.Common.{◌≡◌, drop, map}
use Rattle.std.specs.List.{list_all}
use Rattle.manage.specs.Fields.{is_like, scalar_text}
use Rattle.manage.proofs.field.all_likely.Given as goal

abbrev pub invariant-loop-scalar : goal.invariant-loop-scalar
invariant-loop-scalar l = list_all (is_like l.rule) (map scalar_text (drop l.scalar-index l.scalars)) ≡ list_all (is_like l.rule) (map scalar_text l.scalars)
