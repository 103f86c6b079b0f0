-- What a pack of a file did, or why it did not end well.
--
-- The order of looking is: the file; its length; its plan; the new file; its writing; the putting in the file's place; the printing.
use Rattle.std.specs.Prelude.{◌≡◌, ◌⊎◌, ◌≤◌, ℕ, List, [], ◌∷◌, ◌++◌, length, Option, None, Some, codes, decimal}
use Rattle.std.specs.Io.KnownBytes.{append_known}
use Rattle.zbase.specs.Hex.{hex16_text}
use Rattle.zio.specs.Shelves.{Entry, file_at}
use Rattle.fs_record.specs.File.{Front}
use Rattle.fs_record.specs.Opening.{Cut}
use Rattle.fs_record.specs.declared.layout.TheConstants.{MAX_LENGTH}
use Rattle.fs_pack.specs.Plans.{LacksObject, PassesLimit}
use Rattle.fs_pack.specs.declared.packed.Packed.{Packed}
use Rattle.site_links.specs.Linked.{linked}
use Rattle.file_packer.specs.Packing as made
use Rattle.file_packer.specs.declared.refusal.FilePackRefusal.{FilePackRefusal}
use Rattle.file_packer.specs.declared.refusal.FilePackRefusal.TheVariants as refusals
use Rattle.zope.specs.declared.refusal.Refusal.{Refusal}
use Rattle.zope.specs.CheckCauses.{PrintCause}

-- the floor of the packed file, and how many transactions it has
abbrev pub packed_line : Packed → List ℕ
packed_line p = codes "packed " ++ (hex16_text p.floor ++ (32 ∷ (decimal p.count ++ 10 ∷ [])))

-- Where the shelf tells, the file is what the pack leaves of it, every other file is as it was, and a stop at any later moment leaves
-- it so; and its floor and length were printed.
pub record FilePacked (file : List ℕ) (t : ℕ) (files new_files : Option (List Entry)) (lasts : List ℕ → Type 0) (old new : Option (List ℕ)) : Type 0 where
  pub done : Packed
  pub packed : made.Turned files new_files (λ all now. made.PackedIn linked all now file t done)
  pub lasting : lasts file
  pub printed : new ≡ append_known old (packed_line done)

-- What a pack leaves in the files, however it ends, where the shelf tells: the file as it was, and beside it at most a part of the
-- packed one, which is under a name of its own; or the packed file in its place. Every other file is as it was.
abbrev pub LeavesPacked : (file : List ℕ) (t : ℕ) → Option (List Entry) → Option (List Entry) → Type 0
LeavesPacked file t old new =
    made.Turned old new (λ all now. made.LeavesOne (made.pack_name file) all now ⊎ ((done : Packed) × made.PackedIn linked all now file t done))

-- ---- why not

-- a refusal of a part, as one of the command
abbrev pub of_pack : FilePackRefusal → Refusal
of_pack refusals.Missing = Refusal.Missing
of_pack (refusals.TooLong n) = Refusal.TooLong n
of_pack (refusals.Damaged kind place) = Refusal.Damaged kind place
of_pack (refusals.Unreadable oid) = Refusal.Unreadable oid
of_pack (refusals.Full need limit) = Refusal.Full need limit
of_pack refusals.Exists = Refusal.PackExists
of_pack refusals.Disk = Refusal.Disk
of_pack refusals.Memory = Refusal.Memory

-- The pack is refused for its cause, and what it leaves is said: nothing new, but where a disk failed or memory was wanting.
pub record PackRefused (file : List ℕ) (t : ℕ) (files new_files : Option (List Entry)) (disk : Type 0) (e : Refusal) : Type 0 where
  pub refusal : FilePackRefusal
  pub is : e ≡ of_pack refusal
  pub cause : made.FilePackCause linked file t files disk refusal
  pub left : made.Turns files new_files (made.LeavesOne (made.pack_name file))
  pub unmade : made.IsBefore refusal → new_files ≡ files

-- it did all, but for the printing, of which a front was written
pub record PackUntold (file : List ℕ) (t : ℕ) (files new_files : Option (List Entry)) (sink : Type 0) (old new : Option (List ℕ)) (e : Refusal) : Type 0 where
  pub done : Packed
  pub packed : made.Turned files new_files (λ all now. made.PackedIn linked all now file t done)
  pub printed : PrintCause sink (packed_line done) old new e

-- the cause of a refusal: of the pack, before which nothing is written, or of the printing
abbrev pub PackCause : (file : List ℕ) (t : ℕ) (files new_files : Option (List Entry)) (sink disk : Type 0) (old new : Option (List ℕ)) → Refusal → Type 0
PackCause file t files new_files sink disk old new e =
    (PackRefused file t files new_files disk e × (new ≡ old)) ⊎ PackUntold file t files new_files sink old new e

-- Nothing that a pack looks at is a cause: the file is there, opens and isn't too long, none of its objects that are kept is bytes of
-- no object, what is left of it isn't too long, there is no file under the name of the packed one, and no count rose.
pub record NoPackCause (file : List ℕ) (t : ℕ) (files : Option (List Entry)) (sink disk : Type 0) : Type 0 where
  pub entries : List Entry
  pub shelf : files ≡ Some entries
  pub bytes : List ℕ
  pub there : file_at entries file ≡ Some bytes
  pub fits : length bytes ≤ MAX_LENGTH
  pub front : Front
  pub end : ℕ
  pub opens : Cut bytes front end
  pub readable : (o : ℕ) → LacksObject linked bytes t o → ⊥
  pub within : (need : ℕ) → PassesLimit linked bytes t need MAX_LENGTH → ⊥
  pub absent : file_at entries (made.pack_name file) ≡ None
  pub sink_calm : sink → ⊥
  pub disk_calm : disk → ⊥
