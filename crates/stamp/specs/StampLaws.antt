-- A moment has one stamp or none.
use Rattle.std.proofs.Common.{ℕ, ℤ, pos, ◌≡◌, ◌<◌, ◌≤◌, ◌<ℤ◌, ◌≤ℤ◌, ◌^◌, sym, ap, subst, ◌∙◌, arith, inl, inr}
use Rattle.std.specs.Prelude.{◌⊎◌}
use Rattle.std.proofs.lemmas.Int.{ints}
use Rattle.jiff.proofs.Family.{same_datetime}
use Rattle.jiff.specs.declared.civil.DateTime.{DateTime}
use Rattle.stamp.specs.Stamps.{HasStamp, IsMoment, IsOutOfRange, IsStamp, high, stamp_of}

one_date : (seconds : ℤ) (nanos : ℕ) (a b : DateTime) → IsMoment seconds nanos a → IsMoment seconds nanos b → a ≡ b
one_date seconds nanos a b p q = same_datetime a b (p ∙ sym q)

pub one_stamp : (seconds : ℤ) (nanos a b : ℕ) → IsStamp seconds nanos a → IsStamp seconds nanos b → a ≡ b
one_stamp seconds nanos a b p q = p.value ∙ ap stamp_of (one_date seconds nanos p.date q.date p.moment q.moment) ∙ sym q.value

too_early_or_late : (dt : DateTime) → HasStamp dt → (dt.date.year <ℤ pos 1900) ⊎ (2 ^ 32 ≤ high dt) → ⊥
too_early_or_late dt has (inl early) = let since : pos 1900 ≤ℤ dt.date.year = has.0 in omega (arith, ints, since, early)
too_early_or_late dt has (inr late) = omega (arith, has.1, late)

pub stamp_or_none : (seconds : ℤ) (nanos a : ℕ) → IsStamp seconds nanos a → IsOutOfRange seconds nanos → ⊥
stamp_or_none seconds nanos a p (inl outside) = outside p.instant
stamp_or_none seconds nanos a p (inr q) = too_early_or_late q.0 (subst HasStamp (one_date seconds nanos p.date q.0 p.moment q.1) p.has) q.2
