-- Why a file isn't opened to be served, and what is left of it.
use Rattle.std.specs.Prelude.{◌≡◌, ◌⊎◌, ◌≤◌, ◌<◌, ℕ, List, length, IfSome, Option}
use Rattle.zdisk.specs.Disk.{Told, content}
use Rattle.zdisk.specs.Images.{IsImage}
use Rattle.fs_record.specs.File.{Front}
use Rattle.fs_record.specs.Opening.{Cut, Damaged}
use Rattle.fs_store.specs.Moments.{KeepsGiven, OpensTo}
use Rattle.fs_store.specs.Opened.{WhereTold}
use Rattle.fs_store.specs.Stores.{most_length}
use Rattle.file_server.specs.declared.refusal.FileRefusal.{FileRefusal}

-- what the file is refused for
abbrev pub OpeningCause : Option Told → FileRefusal → Type 0
OpeningCause disk (FileRefusal.Damaged kind place) = IfSome disk (λ told. (length (content told) ≤ most_length) × Damaged (content told) place kind)
OpeningCause disk (FileRefusal.TooLong n) = (most_length < n) × IfSome disk (λ told. n ≡ length (content told))
OpeningCause disk FileRefusal.Disk = Unit {0}
OpeningCause disk FileRefusal.Memory = Unit {0}
OpeningCause disk _ = ⊥

-- What may be read from a disk on which a file wasn't opened: what it was; or one of its images, or what is left of a file that opens
-- while its torn rest is cut off.
abbrev pub MayRead : FileRefusal → Told → Told → Type 0
MayRead (FileRefusal.Damaged kind place) before after = content after ≡ content before
MayRead (FileRefusal.TooLong n) before after = content after ≡ content before
MayRead _ before after = IsImage before.now (content after) ⊎ ((front : Front) × (end : ℕ) × Cut (content before) front end)

-- The file is refused for its cause. A history to which each image opens is kept at every moment.
pub record OpeningRefused (old new : Option Told) (refusal : FileRefusal) : Type 0 where
  pub cause : OpeningCause old refusal
  pub given : KeepsGiven old new
  pub told : WhereTold old new (MayRead refusal)

-- The bytes are as they were; or they open to a history, and what is left opens to it too, unless they are more than a file may have.
abbrev pub KeepsHistory : List ℕ → List ℕ → Type 0
KeepsHistory before after = (after ≡ before) ⊎ ((front : Front) × (end : ℕ) × Cut before front end × (length before ≤ most_length → OpensTo after front.history end))

-- what is left of a file that isn't opened: all that it was, or its history
abbrev pub LeavesFile : FileRefusal → List ℕ → List ℕ → Type 0
LeavesFile (FileRefusal.Damaged kind place) before after = after ≡ before
LeavesFile (FileRefusal.TooLong n) before after = after ≡ before
LeavesFile _ before after = KeepsHistory before after
