use Rattle.std.proofs.Common.{ℤ, inl, inr, refl, subst}
use Rattle.std.proofs.Math.Facts.{to_z-of_z}
use Rattle.stamp.specs.Stamps.{IsOutOfRange, IsStamp}
use Rattle.zserve.proofs.stamping.stamp_or_zero.Goals as goal

pub returns-in-Ok : goal.returns-in-Ok
returns-in-Ok c = inl (subst (λ (s : ℤ). IsStamp s c.args.nanos c.in-Ok.stamp) (to_z-of_z c.ranges.seconds) c.in-Ok.ensures.ok)

pub returns-in-Err : goal.returns-in-Err
returns-in-Err c = inr (subst (λ (s : ℤ). IsOutOfRange s c.args.nanos) (to_z-of_z c.ranges.seconds) c.in-Err.ensures.err, refl)
