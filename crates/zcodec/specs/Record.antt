-- The record of an object: its one spelling in each of two versions.
--
-- In the first version a property is a text and there are no proxy roles.
use Rattle.std.specs.Prelude.{◌≡◌, ℕ, Bool, List, [], ◌∷◌, ◌++◌, length, if◌then◌else◌}
use Rattle.std.specs.List.{flat_map}
use Rattle.std.specs.Int.{w64, cast_unsigned}
use Rattle.zbase.specs.Numbers.{be16, be32, be64}
use Rattle.zobject.specs.declared.object.Setting.{Setting}
use Rattle.zobject.specs.declared.object.Local.{Local}
use Rattle.zobject.specs.declared.object.Property.{Property}
use Rattle.zobject.specs.declared.object.PropValue.{PropValue}
use Rattle.zobject.specs.declared.object.PropValue.TheVariants.{Line, Int, Lines}
use Rattle.zobject.specs.declared.object.Child.{Child}
use Rattle.zobject.specs.declared.object.User.{User}
use Rattle.zobject.specs.declared.object.Part2.{Part2}
use Rattle.zobject.specs.declared.object.Part2.TheVariants.{Folder, Method, Document, UserFolder}
use Rattle.zobject.specs.declared.object.Object.{Object}
use Rattle.zobject.specs.declared.version.Version.{Version}
use Rattle.zobject.specs.declared.version.Version.TheVariants.{First, Second}
use Rattle.zobject.specs.Texts.{letter}
use Rattle.zobject.specs.Rules.{IsOf, kind_of}

-- a text: its length in two bytes, and its bytes
unfoldable pub text : List ℕ → List ℕ
text t = be16 (length t) ++ t

-- a list: its length in two bytes, and its items
unfoldable pub list_of : {X : Type 0} → (X → List ℕ) → List X → List ℕ
list_of spelling xs = be16 (length xs) ++ flat_map spelling xs

abbrev pub roles : List (List ℕ) → List ℕ
roles = list_of text

abbrev pub flag : Bool → ℕ
flag b = if b then 1 else 0

abbrev pub setting : Setting → List ℕ
setting s = (s.permission ∷ []) ++ (flag s.acquire ∷ []) ++ roles s.roles

abbrev pub local_roles : Local → List ℕ
local_roles l = text l.user ++ roles l.roles

-- `s` and a text, `i` and a number in two's complement, or `l` and a list of texts; in the first version a text alone
abbrev pub value : Version → PropValue → List ℕ
value First (Line t) = text t
value First (Int n) = []
value First (Lines ts) = []
value Second (Line t) = (115 ∷ []) ++ text t
value Second (Int n) = (105 ∷ []) ++ be64 (cast_unsigned w64 n)
value Second (Lines ts) = (108 ∷ []) ++ list_of text ts

abbrev pub property : Version → Property → List ℕ
property version p = text p.name ++ value version p.value

abbrev pub child : Child → List ℕ
child c = text c.name ++ be64 c.oid

abbrev pub user : User → List ℕ
user u = text u.name ++ text u.password ++ roles u.roles

-- a source: its length in four bytes, and its bytes
unfoldable pub source_text : List ℕ → List ℕ
source_text source = be32 (length source) ++ source

abbrev pub proxy_text : Version → List (List ℕ) → List ℕ
proxy_text First proxy = []
proxy_text Second proxy = roles proxy

abbrev pub part_text : Version → Part2 → List ℕ
part_text version (Folder children) = list_of child children
part_text version (Method source proxy) = source_text source ++ proxy_text version proxy
part_text version (Document source proxy) = source_text source ++ proxy_text version proxy
part_text version (UserFolder users) = list_of user users

-- `Z1` or `Z2`
abbrev pub magic : Version → List ℕ
magic First = 90 ∷ 49 ∷ []
magic Second = 90 ∷ 50 ∷ []

-- the magic, the letter of the kind, and the fields
unfoldable pub record_text : Version → Object → List ℕ
record_text version o =
    magic version ++ (letter (kind_of o.part) ∷ []) ++ text o.id ++ be64 o.parent ++ text o.title
    ++ list_of setting o.settings ++ list_of local_roles o.locals ++ list_of (property version) o.properties ++ part_text version o.part

-- the bytes are the object's record of that version
pub record SpellsIn (version : Version) (o : Object) (bytes : List ℕ) : Type 0 where
  pub lawful : IsOf version o
  pub spelled : bytes ≡ record_text version o

-- the bytes are a record of the object
abbrev pub Spells : Object → List ℕ → Type 0
Spells o bytes = (version : Version) × SpellsIn version o bytes
