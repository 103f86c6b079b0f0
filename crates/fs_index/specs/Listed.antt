-- An index as a list, by rising ids.
use Rattle.std.specs.Prelude.{◌≡◌, ℕ, ◌+◌, ◌<◌, ◌≤◌, ◌^◌, ◌==◌, List, [], ◌∷◌, ◌++◌, find, Option, Some, None, option_map}
use Rattle.zbase.specs.declared.ids.Row.{Row}
use Rattle.fs_index.specs.Places.{Slots, known, place_of}

-- object ids rise, from n on
abbrev pub OidsRiseFrom : ℕ → List Row → Type 0
OidsRiseFrom n [] = Unit {0}
OidsRiseFrom n (row ∷ rs) = (n ≤ row.oid) × OidsRiseFrom (row.oid + 1) rs

-- the place that a list by rising object ids has for an object
abbrev pub place_for : ℕ → List Row → Option ℕ
place_for oid rs = option_map (λ (row : Row). row.place) (find (λ (row : Row). oid == row.oid) rs)

-- the list has each object's place, and no other; an id has eight bytes
pub record Lists (slots : Slots) (rows : List Row) : Type 0 where
  pub rise : OidsRiseFrom 0 rows
  pub each : (o : ℕ) → o < 2 ^ 64 → place_for o rows ≡ place_of slots o
  pub ids : (o : ℕ) → 2 ^ 64 ≤ o → place_for o rows ≡ None

-- ---- ids with what is kept of them

abbrev pub row_if : ℕ → Option ℕ → List Row
row_if oid None = []
row_if oid (Some place) = record { oid = oid; place = place } ∷ []

-- those that have a place
abbrev pub known_rows : List (ℕ × ℕ) → List Row
known_rows [] = []
known_rows (e ∷ es) = row_if e.0 (known e.1) ++ known_rows es

-- places of ids that follow one another from n on
abbrev pub numbered : ℕ → List ℕ → List (ℕ × ℕ)
numbered n [] = []
numbered n (place ∷ places) = (n, place) ∷ numbered (n + 1) places
