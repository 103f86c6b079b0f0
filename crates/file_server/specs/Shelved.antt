-- What a shelf tells of the site's file and of the tape: before they are handed out, and once they are given back.
use Rattle.std.specs.Prelude.{◌≡◌, ◌⊎◌, ◌++◌, ℕ, List, [], ◌∷◌, IfSome, Option, None, Some}
use Rattle.std.specs.Option.{option_map}
use Rattle.zdisk.specs.Disk.{Told, synced}
use Rattle.zio.specs.Shelves.{Entry, TakesBack, file_at, with_bytes}

-- ---- handed out

abbrev pub IsThere : List Entry → List ℕ → Type 0
IsThere entries name = file_at entries name ≡ None → ⊥

-- the disk holds the bytes of the file
abbrev pub Holds : List Entry → List ℕ → Option Told → Type 0
Holds entries name disk = (bytes : List ℕ) × (file_at entries name ≡ Some bytes) × (disk ≡ Some (synced bytes))

-- The disk of the site holds its file, and the tape is a new file, which is empty.
pub record Lends (file record_ : List ℕ) (files files' : Option (List Entry)) (disk tape : Option Told) : Type 0 where
  pub holds : IfSome files (λ entries. Holds entries file disk)
  pub absent : IfSome files (λ entries. file_at entries record_ ≡ None)
  pub made : files' ≡ option_map (λ entries. entries ++ (record_, []) ∷ []) files
  pub empty : IfSome files (λ _. tape ≡ Some (synced []))

-- ---- given back

-- the disk of the site is taken back, and behind it that of the tape
abbrev pub TakesBoth : (file record_ : List ℕ) → Option (List Entry) → Option Told → Option Told → Option (List Entry) → Type 0
TakesBoth file record_ old disk tape new = (between : Option (List Entry)) × TakesBack old file disk between × TakesBack between record_ tape new

-- for want of memory one of them at most
abbrev pub TakesOne : (file record_ : List ℕ) → Option (List Entry) → Option Told → Option Told → Option (List Entry) → Type 0
TakesOne file record_ old disk tape new = TakesBack old file disk new ⊎ (TakesBack old record_ tape new ⊎ (new ≡ old))

-- No other file is changed: the site's has these bytes now, and the tape is a new one.
abbrev pub KeepsBeside : List Entry → (file left record_ tape : List ℕ) → Option (List Entry) → Type 0
KeepsBeside entries file left record_ tape now = (file_at entries record_ ≡ None) × (now ≡ Some (with_bytes file left entries ++ (record_, tape) ∷ []))
