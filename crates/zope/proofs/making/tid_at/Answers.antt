use Rattle.std.proofs.Common.{rules, ◌≡◌, ℤ, inl, inr, max, refl, subst}
use Rattle.std.proofs.Math.Facts.{to_z-of_z}
use Rattle.stamp.specs.Stamps.{IsOutOfRange, IsStamp}
use Rattle.zope.proofs.Stamping.{first_of}
use Rattle.zope.proofs.making.tid_at.Goals as goal

pub returns-in-Ok : goal.returns-in-Ok
returns-in-Ok c =
    let is : c.max.result ≡ max c.in-Ok.tid 1 = search rules in
    let stamped : IsStamp c.args.seconds c.args.nanos c.in-Ok.tid = subst (λ (s : ℤ). IsStamp s c.args.nanos c.in-Ok.tid) (to_z-of_z c.ranges.seconds) c.in-Ok.ensures.ok in
    rw is (first_of c.args.seconds c.args.nanos c.in-Ok.tid stamped)

pub returns-in-Err : goal.returns-in-Err
returns-in-Err c =
    let none : IsOutOfRange c.args.seconds c.args.nanos = subst (λ (s : ℤ). IsOutOfRange s c.args.nanos) (to_z-of_z c.ranges.seconds) c.in-Err.ensures.err in
    inr (refl, inl none)
