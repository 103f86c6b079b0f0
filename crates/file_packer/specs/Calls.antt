-- What a call makes of a shelf's count of faults and of its disks.
use Rattle.std.specs.Prelude.{◌⊎◌, ◌≤◌}
use Rattle.std.proofs.Common.{arith, inl, inr}
use Rattle.zbase.specs.Faults.{Counter, Rose}

-- The count never falls, and disks that can't fail stay so; where this fault is told, the count rose, or a disk could fail.
pub record Calls (were are : Type 0) (old new : Counter) (fault : Type 0) : Type 0 where
  pub later : old.count ≤ new.count
  pub sound : were → are
  pub cause : fault → Rose old new ⊎ (were → ⊥)

rose_later : (a b c : Counter) → a.count ≤ b.count → Rose b c → Rose a c
rose_later a b c le rose = omega (arith, le, rose)

rose_still : (a b c : Counter) → Rose a b → b.count ≤ c.count → Rose a c
rose_still a b c rose le = omega (arith, le, rose)

-- the same, where less is told
pub calls_as : {S T : Type 0} {a b : Counter} {F G : Type 0} → Calls S T a b F → (G → F) → Calls S T a b G
calls_as calls so = record { later = calls.later; sound = calls.sound; cause = λ g. calls.cause (so g) }

-- a call, and then another, before which this was so of the disks
pub calls_then : {S T V U : Type 0} {a b c : Counter} {F G H : Type 0} → Calls S T a b F → (S → V) → Calls V U b c G → (H → F ⊎ G) → Calls S U a c H
calls_then {S} {T} {V} {U} {a} {b} {c} {F} {G} {H} one between two which = record {
  later = omega (arith, one.later, two.later);
  sound = λ s. two.sound (between s);
  cause = λ h. by (which h);
}
  where
    first : Rose a b ⊎ (S → ⊥) → Rose a c ⊎ (S → ⊥)
    first (inl rose) = inl (rose_still a b c rose two.later)
    first (inr not) = inr not

    second : Rose b c ⊎ (V → ⊥) → Rose a c ⊎ (S → ⊥)
    second (inl rose) = inl (rose_later a b c one.later rose)
    second (inr not) = inr (λ s. not (between s))

    by : F ⊎ G → Rose a c ⊎ (S → ⊥)
    by (inl f) = first (one.cause f)
    by (inr g) = second (two.cause g)
