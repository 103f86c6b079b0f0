-- Several disks at once: what they tell, and which of them failed.
use Rattle.std.specs.Prelude.{◌≡◌, ◌⊎◌, ◌≤◌, ◌-◌, ℕ, true, List, [], ◌∷◌, ◌++◌, length, Option, None, Some, IfSome}
use Rattle.std.specs.Option.{option_map}
use Rattle.zbase.specs.Faults.{Counter, Counts}
use Rattle.zdisk.specs.Crashes.{Becomes}
use Rattle.zdisk.specs.Disk.{HasRange, Told, content, bytes_at}
use Rattle.md5.specs.Md5.{md5, Holds as Md5Holds}
use Rattle.md5.specs.declared.Md5.{Md5}
use Rattle.repozo.specs.declared.index.PieceRow.{PieceRow}
use Rattle.repozo.specs.declared.planning.BackupPlan.{BackupPlan}
use Rattle.repozo.specs.declared.planning.BackupPlan.TheVariants as plans
use Rattle.repozo.specs.Pieces.{is_right}

-- the disk tells, and reads give these bytes
abbrev pub Reads : Option Told → List ℕ → Type 0
Reads disk bytes = option_map content disk ≡ Some bytes

-- so does each of these disks
abbrev pub AllRead : List (Option Told) → List (List ℕ) → Type 0
AllRead [] [] = Unit {0}
AllRead [] (c ∷ cs) = ⊥
AllRead (d ∷ ds) [] = ⊥
AllRead (d ∷ ds) (c ∷ cs) = Reads d c × AllRead ds cs

-- each of these disks, where it tells, has the right piece for its row, for as many rows as there are disks
abbrev pub AllRight : List (Option Told) → List PieceRow → Type 0
AllRight [] rows = Unit {0}
AllRight (d ∷ ds) [] = ⊥
AllRight (d ∷ ds) (r ∷ rs) = IfSome d (λ told. is_right r (content told) ≡ true) × AllRight ds rs

-- none of the disks failed
abbrev pub AllCalm : List Counter → List Counter → Type 0
AllCalm [] [] = Unit {0}
AllCalm [] (n ∷ ns) = ⊥
AllCalm (o ∷ os) [] = ⊥
AllCalm (o ∷ os) (n ∷ ns) = Counts o n ⊥ × AllCalm os ns

-- one of the disks failed, where the call tells this fault, and no other; none of none
abbrev pub OneCounts : List Counter → List Counter → Type 0 → Type 0
OneCounts [] [] fault = fault → ⊥
OneCounts [] (n ∷ ns) fault = ⊥
OneCounts (o ∷ os) [] fault = ⊥
OneCounts (o ∷ os) (n ∷ ns) fault = (Counts o n fault × AllCalm os ns) ⊎ (Counts o n ⊥ × OneCounts os ns fault)

-- What the disk reads grew by these bytes at its end, where it tells, and needn't be synced; a disk doesn't begin to tell, or
-- stop.
abbrev pub Grows : Option Told → Option Told → List ℕ → Type 0
Grows None None bytes = Unit {0}
Grows (Some old) (Some new) bytes = content new ≡ content old ++ bytes
Grows (Some old) None bytes = ⊥
Grows None (Some new) bytes = ⊥

-- what is due to be copied stands in the file, where its disk tells
abbrev pub HasPart : Option Told → BackupPlan → Type 0
HasPart disk plans.Nothing = Unit {0}
HasPart disk (plans.Full n) = HasRange disk 0 n
HasPart disk (plans.More start n) = (start ≤ n) × HasRange disk start (n - start)

-- so many bytes of one disk from a place on were put behind what another one held, and into a digest
pub record Appended (from : Option Told) (start size : ℕ) (old new : Option Told) (before after : Md5) : Type 0 where
  pub bytes : List ℕ
  pub long : length bytes ≡ size
  pub read : IfSome from (λ told. bytes ≡ bytes_at told start size)
  pub grown : Grows old new bytes
  pub hashed : (m : List ℕ) → Md5Holds before m → Md5Holds after (m ++ bytes)

-- the same into an empty disk, which is synced then, with the digest
pub record Copied (file : Option Told) (start size : ℕ) (old new : Option Told) (digest : List ℕ) : Type 0 where
  pub bytes : List ℕ
  pub long : length bytes ≡ size
  pub read : IfSome file (λ told. bytes ≡ bytes_at told start size)
  pub kept : Becomes old new (λ _. bytes)
  pub is : digest ≡ md5 bytes
