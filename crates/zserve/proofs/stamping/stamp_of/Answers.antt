use Rattle.std.proofs.Common.{ℤ, inl, rules, subst}
use Rattle.zserve.specs.Stamped.{IsStampAt}
use Rattle.zserve.proofs.stamping.stamp_of.Goals as goal

pub returns-in-Ok : goal.returns-in-Ok
returns-in-Ok g c =
    inl ((c.in-Ok.seconds, c.in-Ok.nanos), subst (λ (s : ℤ). IsStampAt (s, c.in-Ok.nanos) c.stamp_or_zero.result) (search rules) c.stamp_or_zero.ensures, c.in-Ok.ensures.value)
