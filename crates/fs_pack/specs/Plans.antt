-- What a plan stands for, and what is written by it.
use Rattle.std.specs.Prelude.{◌≡◌, ℕ, ◌<◌, min, Bool, true, List, ◌++◌, length}
use Rattle.zbase.specs.History.{History}
use Rattle.fs_record.specs.File.{AreRight, bytes_of, front_of}
use Rattle.fs_record.specs.Opening.{is_end}
use Rattle.fs_record.specs.Spelling.{Block}
use Rattle.packing.specs.Packed.{packed}
use Rattle.packing.specs.Reachable.{AreReadable, IsKeep, IsUnreadable, Linking}
use Rattle.fs_pack.specs.Chosen.{Planned, chosen_of}
use Rattle.fs_pack.specs.Entries.{Entry, entries, packed_entries}
use Rattle.fs_pack.specs.Spelled.{file_of}
use Rattle.fs_pack.specs.declared.packed.Packed.{Packed}
use Rattle.packing.specs.Sizes.{full_size}

-- the bytes open to a history, of which a pack at t keeps these objects
pub record Packs (links : Linking) (bytes : List ℕ) (t : ℕ) : Type 0 where
  pub blocks : List Block
  pub right : AreRight blocks
  pub rest : List ℕ
  pub spelled : bytes ≡ bytes_of blocks ++ rest
  pub end : is_end rest ≡ true
  pub keep : ℕ → Bool
  pub is_keep : IsKeep links (front_of blocks).history t keep

abbrev pub history_of : {links : Linking} {bytes : List ℕ} {t : ℕ} → Packs links bytes t → History
history_of p = (front_of p.blocks).history

-- the transactions of the packed file, with their statuses
abbrev pub left : {links : Linking} {bytes : List ℕ} {t : ℕ} → Packs links bytes t → List Entry
left {links} {bytes} {t} p = packed_entries p.keep t (entries p.blocks)

-- what a plan without its numbers chooses is what the pack leaves, of objects that can be read
pub record Draws (links : Linking) (bytes : List ℕ) (p : Planned) : Type 0 where
  pub packs : Packs links bytes p.before
  pub readable : AreReadable links (history_of packs) p.before packs.keep
  pub chosen : chosen_of p.before p.until p.marks (entries packs.blocks) ≡ left packs

-- The plan chooses what the pack leaves, of objects that can be read.
pub record StandsFor (links : Linking) (bytes : List ℕ) (p : Planned) : Type 0 where
  pub packs : Packs links bytes p.before
  pub readable : AreReadable links (history_of packs) p.before packs.keep
  pub chosen : chosen_of p.before p.until p.marks (entries packs.blocks) ≡ left packs
  pub floor : p.floor ≡ (packed packs.keep (history_of packs) p.before).floor
  pub count : p.count ≡ length (packed packs.keep (history_of packs) p.before).transactions
  pub size : p.size ≡ full_size (packed packs.keep (history_of packs) p.before)

-- the least kept object that can't be read
abbrev pub LacksObject : Linking → List ℕ → ℕ → ℕ → Type 0
LacksObject links bytes t o = (p : Packs links bytes t) × IsUnreadable links (history_of p) t p.keep o

-- the packed file would be longer than the limit: by how much is told, as far as a number of 64 bits can
pub record PassesLimit (links : Linking) (bytes : List ℕ) (t need limit : ℕ) : Type 0 where
  pub packs : Packs links bytes t
  pub readable : AreReadable links (history_of packs) t packs.keep
  pub told : need ≡ min (full_size (packed packs.keep (history_of packs) t)) 18446744073709551615
  pub above : limit < full_size (packed packs.keep (history_of packs) t)

-- the file of what the pack leaves was written, and is told
pub record IsPacked {links : Linking} {bytes : List ℕ} {t : ℕ} (p : Packs links bytes t) (file : List ℕ) (told : Packed) : Type 0 where
  pub spelled : file ≡ file_of (left p)
  pub end : told.end ≡ length file
  pub floor : told.floor ≡ (packed p.keep (history_of p) t).floor
  pub count : told.count ≡ length (packed p.keep (history_of p) t).transactions
