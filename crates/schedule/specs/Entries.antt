-- The entries that the items of a schedule arm, and how many of them a run has hit.
use Rattle.std.specs.Prelude.{◌≡◌, ℕ, ◌+◌, Bool, true, false, List, [], ◌∷◌, ◌++◌, flat_map, length}
use Rattle.zbase.specs.declared.faults.Arm.{Arm}
use Rattle.zbase.specs.Faults.{Arms}
use Rattle.schedule.specs.declared.item.Item2.{Item2}
use Rattle.schedule.specs.declared.line.Line.{Line}

-- the entry of an item, if it arms one
abbrev pub entry_of : Item2 → List Arm
entry_of (Item2.Stop n seed) = record { stops = true; calls = n; seed = seed } ∷ []
entry_of (Item2.Fail n seed) = record { stops = false; calls = n; seed = seed } ∷ []
entry_of _ = []

-- the entries that the items arm, in order
abbrev pub entries : List Item2 → List Arm
entries items = flat_map entry_of items

-- the lines that tell of a fault: a stop, a disk fault, an unknown outcome, a fault of an opening, and one of a pack
abbrev pub is_fault : Line → Bool
is_fault Line.Stop = true
is_fault (Line.DiskFault w) = true
is_fault (Line.Unknown w t) = true
is_fault Line.OpenFault = true
is_fault Line.PackFault = true
is_fault _ = false

abbrev pub one_if : Bool → ℕ
one_if true = 1
one_if false = 0

-- how many of the lines tell of a fault
abbrev pub faults : List Line → ℕ
faults [] = 0
faults (l ∷ ls) = one_if (is_fault l) + faults ls

-- The entries of the items so far were hit, in order, as many as there are lines of faults; the others wait still.
pub record Entered (items : List Item2) (lines : List Line) (arms : Arms) : Type 0 where
  pub all : arms.hits ++ arms.queue ≡ entries items
  pub count : length arms.hits ≡ faults lines

-- so many entries more were hit, and none was armed
pub record HitsMore (n : ℕ) (old new : Arms) : Type 0 where
  pub same : new.hits ++ new.queue ≡ old.hits ++ old.queue
  pub count : length new.hits ≡ n + length old.hits
