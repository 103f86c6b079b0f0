-- Each object's last data record, and the greatest object id.
use Rattle.std.specs.Prelude.{◌≡◌, ℕ, ◌==◌, max, List, [], ◌∷◌, Option, Some, None, if◌then◌else◌}
use Rattle.zbase.specs.declared.ids.Row.{Row}
use Rattle.fs_index.specs.Places.{Slots, place_of}

-- the place of the object's last data record, else what was found before
abbrev pub last_row : ℕ → Option ℕ → List Row → Option ℕ
last_row oid found [] = found
last_row oid found (row ∷ rs) = last_row oid (if row.oid == oid then Some row.place else found) rs

abbrev pub or_greater : ℕ → Option ℕ → ℕ
or_greater oid None = oid
or_greater oid (Some other) = max oid other

-- the greatest object id among data records
abbrev pub greatest_of : List Row → Option ℕ
greatest_of [] = None
greatest_of (row ∷ rs) = Some (or_greater row.oid (greatest_of rs))

-- the index has where each object's last data record stands
abbrev pub IsNewest : List Row → Slots → Type 0
IsNewest all newest = (oid : ℕ) → place_of newest oid ≡ last_row oid None all

-- the place that was found, or 0
abbrev pub place_in : Option ℕ → ℕ
place_in None = 0
place_in (Some place) = place
