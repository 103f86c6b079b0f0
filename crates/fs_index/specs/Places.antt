-- What an index has of an object.
use Rattle.std.specs.Prelude.{◌≡◌, ℕ, Bool, false, List, [], ◌∷◌, length, get_or, Option, Some, None, IsSome, nat_lt, ◌/◌, ◌%◌, ◌==◌, if◌then◌else◌}
use Rattle.std.specs.Ordering.{nat_cmp}
use Rattle.std.specs.BTreeMap.{is_at}
use Rattle.std.specs.Map.{lookup}

-- 0 is no place
abbrev pub known : ℕ → Option ℕ
known place = if place == 0 then None else Some place

abbrev pub known_in : Option ℕ → Option ℕ
known_in None = None
known_in (Some place) = known place

-- Rows of places, by what all ids of a row have in common but their last two bytes; a place stands in its row at the
-- number that these two bytes are. And the places of ids that are in no row, by their ids. A place is 0 where only room
-- is kept.
pub record Slots : Type 0 where
  pub rows : List (ℕ × List ℕ)
  pub few : List (ℕ × ℕ)

-- what a row, if there is one, keeps at a number; where it ends before, what is kept elsewhere
abbrev pub slot_in : Option (List ℕ) → ℕ → Option ℕ → Option ℕ
slot_in None number other = other
slot_in (Some places) number other = if nat_lt number (length places) then Some (get_or places number 0) else other

-- what is kept of the object
unfoldable pub slot_of : Slots → ℕ → Option ℕ
slot_of slots o = slot_in (lookup (is_at (nat_cmp (o / 65536))) slots.rows) (o % 65536) (lookup (is_at (nat_cmp o)) slots.few)

-- the object's place
abbrev pub place_of : Slots → ℕ → Option ℕ
place_of slots o = known_in (slot_of slots o)

-- a place can be put without memory
abbrev pub HasRoom : Slots → ℕ → Type 0
HasRoom slots o = IsSome (slot_of slots o)

-- whether a row reaches the number
abbrev pub reaches : Option (List ℕ) → ℕ → Bool
reaches None number = false
reaches (Some places) number = nat_lt number (length places)

-- whether the object's place stands in a row
unfoldable pub is_in_row : Slots → ℕ → Bool
is_in_row slots o = reaches (lookup (is_at (nat_cmp (o / 65536))) slots.rows) (o % 65536)

-- each object's place stays, and room that was kept
pub record Keeps (old new : Slots) : Type 0 where
  pub places : (o : ℕ) → place_of new o ≡ place_of old o
  pub room : (o : ℕ) → HasRoom old o → HasRoom new o

-- the row of this number alone, with what stands in no row
abbrev pub alone : ℕ → List ℕ → List (ℕ × ℕ) → Slots
alone number places few = record { rows = (number, places) ∷ []; few = few }

-- the place that the tree keeps of an id, or 0
abbrev pub or_zero : Option ℕ → ℕ
or_zero None = 0
or_zero (Some place) = place
