-- Which parts of an object decide where it is found, what is published and who may see it, and which are its contents.
--
-- Zope Developer's Guide, "Security": title, source and property values are protected, the rest protects.
use Rattle.std.specs.Prelude.{ℕ, List, Option, Some, None, map}
use Rattle.zobject.specs.declared.object.Setting.{Setting}
use Rattle.zobject.specs.declared.object.Local.{Local}
use Rattle.zobject.specs.declared.object.Property.{Property}
use Rattle.zobject.specs.declared.object.PropValue.{PropValue}
use Rattle.zobject.specs.declared.object.Child.{Child}
use Rattle.zobject.specs.declared.object.User.{User}
use Rattle.zobject.specs.declared.object.Part2.{Part2}
use Rattle.zobject.specs.declared.object.Part2.TheVariants as part
use Rattle.zobject.specs.declared.object.Object.{Object}
use Rattle.zobject.specs.Folders.{child_of}

-- a kind, with what decides
pub data Form : Type 0 where
  Folder : List Child → Form
  Method : List (List ℕ) → Form  -- its proxy roles
  Document : List (List ℕ) → Form
  UserFolder : List User → Form

-- what of an object decides
pub record Shape : Type 0 where
  pub id : List ℕ
  pub parent : ℕ
  pub settings : List Setting
  pub locals : List Local
  pub names : List (List ℕ)  -- of its properties
  pub form : Form

-- what of an object is shown to those who may view it
pub record Contents : Type 0 where
  pub title : List ℕ
  pub values : List PropValue
  pub source : Option (List ℕ)

abbrev pub form_of : Part2 → Form
form_of (part.Folder children) = Folder children
form_of (part.Method source proxy) = Method proxy
form_of (part.Document source proxy) = Document proxy
form_of (part.UserFolder users) = UserFolder users

abbrev pub source_of : Part2 → Option (List ℕ)
source_of (part.Folder children) = None
source_of (part.Method source proxy) = Some source
source_of (part.Document source proxy) = Some source
source_of (part.UserFolder users) = None

unfoldable pub shape_of : Object → Shape
shape_of o = record { id = o.id; parent = o.parent; settings = o.settings; locals = o.locals; names = map (λ (p : Property). p.name) o.properties; form = form_of o.part }

unfoldable pub contents_of : Object → Contents
contents_of o = record { title = o.title; values = map (λ (p : Property). p.value) o.properties; source = source_of o.part }

-- the child of that name, where it is a folder that lists one
abbrev pub child_in : List ℕ → Form → Option ℕ
child_in name (Folder children) = child_of name children
child_in name (Method proxy) = None
child_in name (Document proxy) = None
child_in name (UserFolder users) = None
