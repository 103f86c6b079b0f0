-- What is found through a wrapper, as questions over the shapes of objects. A wrapper is the list of the objects of an
-- expression from left to right, each at its first place.
--
-- Zope Developer's Guide, "Acquisition": containment before context.
use Rattle.std.specs.Prelude.{ℕ, zero, suc, ◌≡◌, nat_eq, Bool, false, List, [], ◌∷◌, ◌++◌, Option, Some, None, if◌then◌else◌}
use Rattle.std.specs.List.{list_any}
use Rattle.zbase.specs.Query.{Query, Done, Stops, Asks, Halt, Need, Cause, ◌>>=◌}
use Rattle.zobject.specs.Shapes.{child_in}
use Rattle.zknown.specs.Seen.{Seen, Here, Absent, Unreadable, Shapes}
use Rattle.acquisition.specs.declared.limits.TheConstants.{MOST_ON_PATH}
use Rattle.acquisition.specs.declared.refusal.AqRefusal.{AqRefusal}
use Rattle.acquisition.specs.declared.refusal.AqRefusal.TheVariants as refusal

-- why there is none, whatever is known
pub data Fault : Type 0 where
  Broken : ℕ → Fault
  TooDeep : Fault

abbrev pub present : {A : Type 0} → ℕ → Seen A → Query ℕ (Seen A) Fault A
present o (Here x) = Done x
present o Absent = Stops (Broken o)
present o Unreadable = Stops (Broken o)

-- the object, which must be there
abbrev pub here : {A : Type 0} → ℕ → Query ℕ (Seen A) Fault A
here o = Asks o (λ seen. present o seen)

-- the object and its containers, behind the path so far; n of them may be asked for
unfoldable pub upwards : ℕ → List ℕ → ℕ → Shapes Fault (List ℕ)
upwards zero path o = Stops TooDeep
upwards (suc n) path o = do
  object ← here o
  if nat_eq o 0 then Done (path ++ o ∷ []) else upwards n (path ++ o ∷ []) object.parent

-- the object and its containers, up to the root: at most MOST_ON_PATH objects
unfoldable pub containers : ℕ → Shapes Fault (List ℕ)
containers o = upwards MOST_ON_PATH [] o

-- the object that the wrapper is about
abbrev pub first : List ℕ → ℕ
first [] = 0
first (o ∷ os) = o

abbrev pub has : List ℕ → ℕ → Bool
has out o = list_any (λ p. nat_eq p o) out

abbrev pub put : List ℕ → ℕ → List ℕ
put out o = if has out o then out else out ++ o ∷ []

-- each object once
abbrev pub IsOnce : List ℕ → Type 0
IsOnce [] = Unit {0}
IsOnce (o ∷ os) = (has os o ≡ false) × IsOnce os

-- the objects at their first places, behind those so far
abbrev pub joined : List ℕ → List ℕ → List ℕ
joined out [] = out
joined out (o ∷ os) = joined (put out o) os

unfoldable pub reached : List ℕ → ℕ → Shapes Fault (List ℕ)
reached wrapper o = do
  path ← containers o
  Done (joined path wrapper)

abbrev pub or_search : Option ℕ → Shapes Fault (Option ℕ) → Shapes Fault (Option ℕ)
or_search None rest = rest
or_search (Some o) rest = Done (Some o)

-- the first of these objects that has such a child, and that child
unfoldable pub searched : List ℕ → List ℕ → Shapes Fault (Option ℕ)
searched [] name = Done None
searched (o ∷ os) name = do
  object ← here o
  or_search (child_in name object.form) (searched os name)

abbrev pub reached_if : List ℕ → Option ℕ → Shapes Fault (Option (List ℕ))
reached_if wrapper None = Done None
reached_if wrapper (Some o) = do
  found ← reached wrapper o
  Done (Some found)

unfoldable pub found : List ℕ → List ℕ → Shapes Fault (Option (List ℕ))
found wrapper name = do
  child ← searched wrapper name
  reached_if wrapper child

-- what a refusal says; nothing where memory ran out
abbrev pub told : AqRefusal → Option (Halt ℕ Fault)
told refusal.Memory = None
told (refusal.Need o) = Some (Need o)
told (refusal.Broken o) = Some (Cause (Broken o))
told refusal.TooDeep = Some (Cause TooDeep)
