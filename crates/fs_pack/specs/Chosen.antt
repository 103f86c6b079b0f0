-- What a plan holds, and which records it chooses.
use Rattle.std.specs.Prelude.{ℕ, ◌==◌, ◌&&◌, Bool, not, List, [], ◌∷◌, ◌++◌, drop, length, nat_le, if◌then◌else◌}
use Rattle.zbase.specs.History.{Value}
use Rattle.packing.specs.Packed.{has_record, is_empty, with_records}
use Rattle.fs_pack.specs.Entries.{Entry, as_packed}

-- a mark for each record up to the pack, from the oldest, that is set where the record stays; the id of the last
-- transaction up to then, which stays without records too
pub record Planned : Type 0 where
  pub before : ℕ
  pub until : ℕ
  pub marks : List Bool
  pub floor : ℕ
  pub count : ℕ
  pub size : ℕ

abbrev pub picked : List Bool → List (ℕ × Value) → List (ℕ × Value)
picked [] rs = []
picked (m ∷ ms) [] = []
picked (m ∷ ms) (r ∷ rs) = if m then r ∷ picked ms rs else picked ms rs

-- what stays of a transaction whose first record has the first of these marks
abbrev pub chosen : ℕ → ℕ → List Bool → Entry → List Entry
chosen before until marks e =
    if nat_le e.said.tid before then
    if is_empty (picked marks e.said.records) && not (e.said.tid == until) then []
    else as_packed (with_records e.said (picked marks e.said.records)) ∷ []
    else e ∷ []

abbrev pub chosen_of : ℕ → ℕ → List Bool → List Entry → List Entry
chosen_of before until marks [] = []
chosen_of before until marks (e ∷ es) = chosen before until marks e ++ chosen_of before until (drop (length e.said.records) marks) es

-- the mark of each record: its object is kept, and no record behind is of the same object
abbrev pub marks_of : (ℕ → Bool) → List (ℕ × Value) → List Bool
marks_of keep [] = []
marks_of keep (r ∷ rs) = (keep r.0 && not (has_record r.0 rs)) ∷ marks_of keep rs
