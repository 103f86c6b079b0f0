-- What a pack makes of the files of a shelf, and why it doesn't.
--
-- The order of looking is: the file; its length; its plan; the new file; its writing; the putting in the other's place.
use Rattle.std.specs.Prelude.{◌≡◌, ◌⊎◌, ◌<◌, ◌≤◌, ℕ, List, [], ◌∷◌, ◌++◌, codes, length, if◌then◌else◌, IfSome, Option, None, Some}
use Rattle.std.specs.Str.{bytes_eq}
use Rattle.zio.specs.Shelves.{Entry, file_at}
use Rattle.fs_record.specs.declared.layout.TheConstants.{MAX_LENGTH}
use Rattle.fs_record.specs.Opening.{Damaged}
use Rattle.packing.specs.Packed.{packed}
use Rattle.packing.specs.Reachable.{AreReadable, Linking}
use Rattle.packing.specs.Sizes.{full_size}
use Rattle.fs_pack.specs.Plans.{IsPacked, LacksObject, Packs, PassesLimit, history_of}
use Rattle.fs_pack.specs.declared.packed.Packed.{Packed}
use Rattle.file_packer.specs.declared.refusal.FilePackRefusal.{FilePackRefusal}
use Rattle.file_packer.specs.declared.refusal.FilePackRefusal.TheVariants as refusals

-- ---- names and files

-- the name under which the packed file is written
abbrev pub pack_name : List ℕ → List ℕ
pack_name file = file ++ codes ".pack"

-- where the shelf tells, its files turn from the ones into the others
abbrev pub Turned : Option (List Entry) → Option (List Entry) → (List Entry → List Entry → Type 0) → Type 0
Turned old new P = IfSome old (λ all. (now : List Entry) × (new ≡ Some now) × P all now)

-- the same, and it doesn't begin to tell, or stop
abbrev pub Turns : Option (List Entry) → Option (List Entry) → (List Entry → List Entry → Type 0) → Type 0
Turns None new P = new ≡ None
Turns (Some all) new P = (now : List Entry) × (new ≡ Some now) × P all now

-- no longer than a file may be
abbrev pub Fits : List ℕ → Type 0
Fits bytes = length bytes ≤ MAX_LENGTH

-- the file of that name fits, and this holds of it
abbrev pub HasFile : List Entry → List ℕ → (List ℕ → Type 0) → Type 0
HasFile all name P = (bytes : List ℕ) × (file_at all name ≡ Some bytes) × Fits bytes × P bytes

-- ---- what is made

-- what a pack leaves of these bytes, of objects that can all be read; neither is longer than a file may be
pub record PacksTo (links : Linking) (bytes : List ℕ) (t : ℕ) (left : List ℕ) (done : Packed) : Type 0 where
  pub fits : Fits bytes
  pub packs : Packs links bytes t
  pub readable : AreReadable links (history_of packs) t packs.keep
  pub short : full_size (packed packs.keep (history_of packs) t) ≤ MAX_LENGTH
  pub is : IsPacked packs left done

-- The file is packed: in its place stands what the pack leaves of it; under the name of the packed file there is none, as
-- before, and every other file is as it was.
pub record PackedIn (links : Linking) (all now : List Entry) (file : List ℕ) (t : ℕ) (done : Packed) : Type 0 where
  pub bytes : List ℕ
  pub there : file_at all file ≡ Some bytes
  pub left : List ℕ
  pub packs : PacksTo links bytes t left done
  pub free : file_at all (pack_name file) ≡ None
  pub puts : (name : List ℕ) → file_at now name ≡ (if bytes_eq file name then Some left else file_at all name)

-- whatever else happens: each file stays, and there is at most one more, under the name of the packed one
abbrev pub LeavesOne : List ℕ → List Entry → List Entry → Type 0
LeavesOne name all now = (now ≡ all) ⊎ ((file_at all name ≡ None) × (bytes : List ℕ) × (now ≡ all ++ (name, bytes) ∷ []))

-- all that the pack leaves of the file stands beside it, and wasn't put in its place
pub record MadeBeside (links : Linking) (all now : List Entry) (file : List ℕ) (t : ℕ) (done : Packed) : Type 0 where
  pub bytes : List ℕ
  pub there : file_at all file ≡ Some bytes
  pub left : List ℕ
  pub packs : PacksTo links bytes t left done
  pub free : file_at all (pack_name file) ≡ None
  pub made : now ≡ all ++ (pack_name file, left) ∷ []

-- each file but the one of that name that lasted before lasts still
abbrev pub OthersLast : List ℕ → (List ℕ → Type 0) → (List ℕ → Type 0) → Type 0
OthersLast name old new = (other : List ℕ) → (other ≡ name → ⊥) → old other → new other

-- ---- why not

-- a pack of these bytes has a plan: its objects can be read, and what it leaves is no longer than a file may be
abbrev pub HasPlan : Linking → ℕ → List ℕ → Type 0
HasPlan links t bytes = (p : Packs links bytes t) × AreReadable links (history_of p) t p.keep × (full_size (packed p.keep (history_of p) t) ≤ MAX_LENGTH)

-- why a file was not packed, where the shelf told these files
abbrev pub FilePackCause : Linking → List ℕ → ℕ → Option (List Entry) → Type 0 → FilePackRefusal → Type 0
FilePackCause links file t files failed refusals.Missing = IfSome files (λ all. file_at all file ≡ None)
FilePackCause links file t files failed (refusals.TooLong n) =
    (MAX_LENGTH < n) × IfSome files (λ all. (bytes : List ℕ) × (file_at all file ≡ Some bytes) × (n ≡ length bytes))
FilePackCause links file t files failed (refusals.Damaged kind place) = IfSome files (λ all. HasFile all file (λ bytes. Damaged bytes place kind))
FilePackCause links file t files failed (refusals.Unreadable o) = IfSome files (λ all. HasFile all file (λ bytes. LacksObject links bytes t o))
FilePackCause links file t files failed (refusals.Full need limit) =
    (limit ≡ MAX_LENGTH) × IfSome files (λ all. HasFile all file (λ bytes. PassesLimit links bytes t need limit))
FilePackCause links file t files failed refusals.Exists = IfSome files (λ all. HasFile all file (HasPlan links t) × (file_at all (pack_name file) ≡ None → ⊥))
FilePackCause links file t files failed refusals.Disk = failed
FilePackCause links file t files failed refusals.Memory = Unit {0}

-- a refusal that comes before anything is made
abbrev pub IsBefore : FilePackRefusal → Type 0
IsBefore refusals.Disk = ⊥
IsBefore refusals.Memory = ⊥
IsBefore _ = Unit {0}

-- a refusal of the putting in the other's place, where the packed file was made
abbrev pub IsUnput : Linking → List ℕ → ℕ → Option (List Entry) → Option (List Entry) → FilePackRefusal → Type 0
IsUnput links file t old new refusal = (IsBefore refusal → ⊥) × (done : Packed) × Turns old new (λ all now. MadeBeside links all now file t done)
