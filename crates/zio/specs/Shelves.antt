-- Files by their names.
use Rattle.std.specs.Prelude.{◌≡◌, ◌&&◌, ◌++◌, Bool, filter, ℕ, List, [], ◌∷◌, Option, None, Some, IfSome, not, if◌then◌else◌}
use Rattle.std.specs.Str.{bytes_eq}
use Rattle.zdisk.specs.Disk.{Told, content, synced}

-- a file: its name and its bytes
abbrev pub Entry : Type 0
Entry = List ℕ × List ℕ

-- the bytes under a name, the first of that name
abbrev pub file_at : List Entry → List ℕ → Option (List ℕ)
file_at [] name = None
file_at (file ∷ files) name = if bytes_eq file.0 name then Some file.1 else file_at files name

-- the files, of which the first of a name has these bytes now
abbrev pub with_bytes : List ℕ → List ℕ → List Entry → List Entry
with_bytes name bytes [] = []
with_bytes name bytes (file ∷ files) = if bytes_eq file.0 name then (file.0, bytes) ∷ files else file ∷ with_bytes name bytes files

-- a shelf that tells, and takes back a disk over the file of a name, tells of this file what the disk holds, where that tells
abbrev pub TakesBack : Option (List Entry) → List ℕ → Option Told → Option (List Entry) → Type 0
TakesBack None name disk now = now ≡ None
TakesBack (Some all) name disk now = IfSome disk (λ told. now ≡ Some (with_bytes name (content told) all))

-- the disk holds the file of that name, as the shelf tells it, and all of it is synced
abbrev pub Holds : List Entry → List ℕ → Option Told → Type 0
Holds all name disk = (bytes : List ℕ) × (file_at all name ≡ Some bytes) × (disk ≡ Some (synced bytes))

-- each file that lasted before lasts still
abbrev pub Lasts : (List ℕ → Type 0) → (List ℕ → Type 0) → Type 0
Lasts old new = (name : List ℕ) → old name → new name

-- neither of these two names is the file's
abbrev pub is_other : List ℕ → List ℕ → Entry → Bool
is_other one two file = not (bytes_eq file.0 one) && not (bytes_eq file.0 two)

-- where the shelf tells, the file of the one name has that of the other, and no file has the one any more
abbrev pub Replaces : Option (List Entry) → List ℕ → List ℕ → Option (List Entry) → Type 0
Replaces old new main now = IfSome old (λ all. (bytes : List ℕ) × (file_at all new ≡ Some bytes) × (now ≡ Some (filter (is_other new main) all ++ (main, bytes) ∷ [])))
