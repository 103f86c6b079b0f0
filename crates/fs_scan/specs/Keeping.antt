-- What is kept of the data records that were passed, and the records that the file's bytes say by it.
use Rattle.std.specs.Prelude.{◌≡◌, ◌≢◌, ℕ, ◌+◌, ◌==◌, ◌<◌, ◌≤◌, Bool, List, [], ◌∷◌, ◌++◌, length, get_or, map, Option}
use Rattle.std.specs.List.{list_any}
use Rattle.zbase.specs.declared.ids.Row.{Row}
use Rattle.fs_index.specs.Places.{Slots}
use Rattle.fs_record.specs.Reading.{u64_read}
use Rattle.fs_scan.specs.Newest.{IsNewest, greatest_of}

-- where each record stands, from the oldest to the newest; each object's newest place; the greatest id
pub record Keeping : Type 0 where
  pub places : List ℕ
  pub newest : Slots
  pub greatest : Option ℕ

-- places rise, from n on
abbrev pub PlacesRise : ℕ → List ℕ → Type 0
PlacesRise n [] = Unit {0}
PlacesRise n (place ∷ ps) = (n ≤ place) × PlacesRise (place + 1) ps

-- places rise, from n on and below end
abbrev pub PlacesWithin : ℕ → ℕ → List ℕ → Type 0
PlacesWithin n end [] = n ≤ end
PlacesWithin n end (place ∷ ps) = (n ≤ place) × PlacesWithin (place + 1) end ps

-- the record with this number begins at the place
pub record IsStart (ps : List ℕ) (place i : ℕ) : Type 0 where
  pub within : i < length ps
  pub stands : get_or ps i 0 ≡ place

-- no record begins there
abbrev pub NoStart : List ℕ → ℕ → Type 0
NoStart ps place = (i : ℕ) → i < length ps → get_or ps i 0 ≢ place

abbrev pub is_start : List ℕ → ℕ → Bool
is_start ps place = list_any (λ p. p == place) ps

-- the data record at a place: a record begins with its object's id
abbrev pub row_on : List ℕ → ℕ → Row
row_on bytes place = record { oid = u64_read place bytes; place = place }

-- the data records that the bytes say at these places
abbrev pub rows_on : List ℕ → List ℕ → List Row
rows_on bytes places = map (row_on bytes) places

abbrev pub starts : List Row → List ℕ
starts rows = map (λ (row : Row). row.place) rows

-- an id stands in the bytes at each place
abbrev pub Readable : List ℕ → List ℕ → Type 0
Readable bytes [] = Unit {0}
Readable bytes (place ∷ ps) = (place + 8 ≤ length bytes) × Readable bytes ps

-- each record's id stands in the bytes at its place
abbrev pub AreSaid : List ℕ → List Row → Type 0
AreSaid bytes [] = Unit {0}
AreSaid bytes (row ∷ rs) = ((row.place + 8 ≤ length bytes) × (u64_read row.place bytes ≡ row.oid)) × AreSaid bytes rs

-- Each object's newest place, and the greatest id, are those of the records that the bytes say at the places.
pub record KeepsOn (bytes : List ℕ) (kept : Keeping) : Type 0 where
  pub readable : Readable bytes kept.places
  pub newest_of : IsNewest (rows_on bytes kept.places) kept.newest
  pub greatest_in : kept.greatest ≡ greatest_of (rows_on bytes kept.places)

-- no record
pub record NoneKept (kept : Keeping) : Type 0 where
  pub places : kept.places ≡ []
  pub newest : IsNewest [] kept.newest
  pub greatest : kept.greatest ≡ greatest_of []

-- These records are kept behind the others: also by what any bytes say that say them.
pub record KeepsMore (old new : Keeping) (rows : List Row) : Type 0 where
  pub places : new.places ≡ old.places ++ starts rows
  pub still : (bytes : List ℕ) → KeepsOn bytes old → AreSaid bytes rows → KeepsOn bytes new
