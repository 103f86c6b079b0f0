-- The records of a file by their numbers, in the file's order.
use Rattle.std.specs.Prelude.{◌≡◌, ℕ, ◌+◌, ◌-◌, ◌==◌, ◌∷◌, Bool, List, [], get_or, length, map, nat_lt, set, true, Option, None, Some, if◌then◌else◌}
use Rattle.zbase.specs.History.{Value}
use Rattle.fs_index.specs.Places.{Slots, known, place_of}
use Rattle.fs_record.specs.File.{Earlier, last_place, rows}

abbrev pub oids_of : List (ℕ × Value) → List ℕ
oids_of rs = map (λ (r : ℕ × Value). r.0) rs

-- The number of the object's last record among these, which begin behind n others and are counted from 1; where it has
-- none, the one that was found before.
abbrev pub last_number : ℕ → Option ℕ → ℕ → List ℕ → Option ℕ
last_number o found n [] = found
last_number o found n (p ∷ ps) = last_number o (if p == o then Some (n + 1) else found) (n + 1) ps

-- the index has of each object the number of its last record
abbrev pub AreNumbered : Slots → List ℕ → Type 0
AreNumbered newest os = (o : ℕ) → place_of newest o ≡ last_number o None 0 os

-- where the record with a number stands, by the places of all; none where there are not so many
abbrev pub placed_by : List ℕ → Option ℕ → Option ℕ
placed_by places None = None
placed_by places (Some n) = if nat_lt (n - 1) (length places) then Some (get_or places (n - 1) 0) else None

-- the index has the number of each object's last record, by which one of the places is its place
abbrev pub AreLast : List ℕ → Slots → List Earlier → Type 0
AreLast places newest records = (o : ℕ) → placed_by places (place_of newest o) ≡ known (last_place o 0 (rows records))

-- the mark of the record with this number is set
abbrev pub marked_at : Option ℕ → List Bool → List Bool
marked_at None ms = ms
marked_at (Some n) ms = set ms (n - 1) true
