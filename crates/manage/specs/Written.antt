-- What is written of an object, while the ids of new objects aren't known yet.
--
-- A new object's id is known at the vote alone. Its record is written with zeros in its place, and a hole says where these
-- eight bytes stand.
use Rattle.std.specs.Prelude.{ℕ, ◌-◌, ◌<◌, ◌≡◌, ◌^◌, List, [], ◌∷◌, ◌++◌, length, map}
use Rattle.zobject.specs.declared.object.Child.{Child}
use Rattle.zobject.specs.declared.object.Object.{Object}
use Rattle.zobject.specs.declared.object.Part2.TheVariants as parts
use Rattle.zobject.specs.declared.version.Version.TheVariants.{Second}
use Rattle.zobject.specs.Changes.{with_part}
use Rattle.zobject.specs.Rules.{IsObject}
use Rattle.zcodec.specs.Record.{record_text}
use Rattle.evaluator.specs.declared.draft.Entry.{Entry}
use Rattle.evaluator.specs.declared.draft.Hole.{Hole}
use Rattle.evaluator.specs.declared.draft.Name.{Name}
use Rattle.evaluator.specs.Settle.{filled}
use Rattle.manage.specs.declared.changes.Change.{Change}

-- An object that is written: under which name, what it is once the first new object of the change has an id, and where ids
-- of new objects stand in its record.
pub record Written : Type 0 where
  pub name : Name
  pub object : ℕ → Object
  pub holes : List Hole

-- its record, with no ids of new objects yet
abbrev pub entry_of : Written → Entry
entry_of w = Entry.Write w.name (record_text Second (w.object 0)) w.holes

abbrev pub change_of : List Written → Change
change_of written = record { entries = map entry_of written }

-- ---- two kinds

-- an object in whose record no new object stands
abbrev pub whole : Name → Object → Written
whole name object = record { name = name; object = λ first. object; holes = [] }

-- the folder with one child more, the last one
abbrev pub with_child : Object → List Child → List ℕ → ℕ → Object
with_child folder children name oid = with_part (parts.Folder (children ++ record { name = name; oid = oid } ∷ [])) folder

-- A folder with New(0) as its last child. The children are the last field of its record, and an id stands last in a child:
-- so the last eight bytes of the record are the hole.
abbrev pub grown : ℕ → Object → List Child → List ℕ → Written
grown o folder children name = record {
  name = Name.Old o;
  object = λ first. with_child folder children name first;
  holes = record { at = length (record_text Second (with_child folder children name 0)) - 8; new = 0 } ∷ [];
}

-- ---- what it is for

-- Its settled record spells what it is, whichever id the first new object gets.
abbrev pub IsSettled : Written → Type 0
IsSettled w = (first : ℕ) → first < 2 ^ 64 → filled first (record_text Second (w.object 0)) w.holes ≡ record_text Second (w.object first)

-- it keeps the rules of objects
abbrev pub IsRight : Written → Type 0
IsRight w = (first : ℕ) → first < 2 ^ 64 → IsObject (w.object first)
