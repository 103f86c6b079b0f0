-- The stamp 0 is no id: 1 comes in its place.
use Rattle.std.proofs.Common.{◌≡◌, ℕ, ℤ, zero, suc, max, inl, inr, refl, arith}
use Rattle.stamp.specs.Stamps.{IsStamp}
use Rattle.zope.specs.MakeCauses.{IsFirstAt}

pub first_of : (seconds : ℤ) (nanos stamp : ℕ) → IsStamp seconds nanos stamp → IsFirstAt (seconds, nanos) (max stamp 1)
first_of seconds nanos zero is = inr (refl, inr is)
first_of seconds nanos (suc n) is =
    let same : max (suc n) 1 ≡ suc n = omega arith in
    rw same (inl (omega arith, is))
