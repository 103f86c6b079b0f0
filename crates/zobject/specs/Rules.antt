-- The rules of an object's texts and lists, which each of its records keeps.
--
-- Zope Developer's Guide, "Security", and Zope Book, "Users and Security": permissions, roles, local and proxy roles,
-- users; the limits are this project's.
--
-- They are told by the version of the record: the first has permissions up to 12, properties of one line, and no proxy
-- roles.
use Rattle.std.specs.Prelude.{◌≡◌, ℕ, ◌≤◌, ◌<◌, ◌^◌, Bool, true, false, List, [], ◌∷◌, length, map, nat_lt, FitsSigned}
use Rattle.std.specs.List.{list_any, AllByRecursion}
use Rattle.std.specs.Str.{bytes_eq}
use Rattle.std.specs.Int.{w64}
use Rattle.std.specs.Ordering.{nat_cmp, is_lt}
use Rattle.std.specs.Cmp.Lexicographic.{slice_cmp}
use Rattle.zobject.specs.declared.limits.TheConstants.{MOST_CHILDREN, MOST_COUNTED, MOST_LINES, MOST_LOCALS, MOST_PROPERTIES, MOST_USERS}
use Rattle.zobject.specs.declared.object.Setting.{Setting}
use Rattle.zobject.specs.declared.object.Local.{Local}
use Rattle.zobject.specs.declared.object.Property.{Property}
use Rattle.zobject.specs.declared.object.PropValue.{PropValue}
use Rattle.zobject.specs.declared.object.PropValue.TheVariants.{Line, Int, Lines}
use Rattle.zobject.specs.declared.object.Child.{Child}
use Rattle.zobject.specs.declared.object.User.{User}
use Rattle.zobject.specs.declared.object.Part2.{Part2}
use Rattle.zobject.specs.declared.object.Part2.TheVariants as part
use Rattle.zobject.specs.declared.object.Object.{Object}
use Rattle.zobject.specs.declared.version.Kind.{Kind}
use Rattle.zobject.specs.declared.version.Kind.TheVariants as kind
use Rattle.zobject.specs.declared.version.Rule.{Rule}
use Rattle.zobject.specs.declared.version.Rule.TheVariants.{StoredId, ChildName, PropertyName, Value, Role, UserName, Password, Title, Source}
use Rattle.zobject.specs.declared.version.Version.{Version}
use Rattle.zobject.specs.declared.version.Version.TheVariants.{First, Second}
use Rattle.zobject.specs.Texts.{keeps}

abbrev pub Keeps : Rule → List ℕ → Type 0
Keeps rule text = keeps rule text ≡ true

-- ---- lists

-- by bytes
abbrev pub comes_before : List ℕ → List ℕ → Bool
comes_before a b = is_lt (slice_cmp nat_cmp a b)

-- each before the next
abbrev pub Rise : {X : Type 0} → (X → X → Bool) → List X → Type 0
Rise before [] = Unit {0}
Rise before (x ∷ []) = Unit {0}
Rise before (x ∷ y ∷ ys) = (before x y ≡ true) × Rise before (y ∷ ys)

-- each name once
abbrev pub AreDistinct : List (List ℕ) → Type 0
AreDistinct [] = Unit {0}
AreDistinct (n ∷ ns) = (list_any (bytes_eq n) ns ≡ false) × AreDistinct ns

-- from least to most items, each right
pub record AreMany {X : Type 0} (least most : ℕ) (IsRight : X → Type 0) (xs : List X) : Type 0 where
  pub enough : least ≤ length xs
  pub few : length xs ≤ most
  pub each : AllByRecursion IsRight xs

-- at least so many roles, by bytes and each once
pub record AreRoles (least : ℕ) (roles : List (List ℕ)) : Type 0 where
  pub many : AreMany least MOST_COUNTED (Keeps Role) roles
  pub rise : Rise comes_before roles

-- ---- fields

abbrev pub most_permission : Version → ℕ
most_permission First = 12
most_permission Second = 13

-- roles of its own, or those of the containers too
abbrev pub least_roles : Bool → ℕ
least_roles true = 1
least_roles false = 0

pub record IsSetting (version : Version) (s : Setting) : Type 0 where
  pub permission : (1 ≤ s.permission) × (s.permission ≤ most_permission version)
  pub roles : AreRoles (least_roles s.acquire) s.roles

pub record IsLocal (l : Local) : Type 0 where
  pub user : Keeps UserName l.user
  pub roles : AreRoles 1 l.roles

abbrev pub IsValue : Version → PropValue → Type 0
IsValue version (Line text) = Keeps Value text
IsValue First (Int n) = ⊥
IsValue Second (Int n) = FitsSigned w64 n
IsValue First (Lines texts) = ⊥
IsValue Second (Lines texts) = AreMany 0 MOST_LINES (Keeps Value) texts

pub record IsProperty (version : Version) (p : Property) : Type 0 where
  pub name : Keeps PropertyName p.name
  pub value : IsValue version p.value

pub record IsChild (c : Child) : Type 0 where
  pub name : Keeps ChildName c.name
  pub oid : c.oid < 2 ^ 64

pub record IsUser (u : User) : Type 0 where
  pub name : Keeps UserName u.name
  pub password : Keeps Password u.password
  pub roles : AreRoles 0 u.roles

abbrev pub IsProxy : Version → List (List ℕ) → Type 0
IsProxy First roles = roles ≡ []
IsProxy Second roles = AreRoles 0 roles

abbrev pub proxy_of : Part2 → List (List ℕ)
proxy_of (part.Folder children) = []
proxy_of (part.Method source proxy) = proxy
proxy_of (part.Document source proxy) = proxy
proxy_of (part.UserFolder users) = []

abbrev pub kind_of : Part2 → Kind
kind_of (part.Folder children) = kind.Folder
kind_of (part.Method source proxy) = kind.Method
kind_of (part.Document source proxy) = kind.Document
kind_of (part.UserFolder users) = kind.UserFolder

abbrev pub IsPart : Version → Part2 → Type 0
IsPart version (part.Folder children) = AreMany 0 MOST_CHILDREN IsChild children × AreDistinct (map (λ (c : Child). c.name) children)
IsPart version (part.Method source proxy) = Keeps Source source × IsProxy version proxy
IsPart version (part.Document source proxy) = Keeps Source source × IsProxy version proxy
IsPart version (part.UserFolder users) = AreMany 0 MOST_USERS IsUser users × Rise (λ (u v : User). comes_before u.name v.name) users

-- ---- the object

pub record IsOf (version : Version) (o : Object) : Type 0 where
  pub id : Keeps (StoredId (kind_of o.part)) o.id
  pub parent : o.parent < 2 ^ 64
  pub title : Keeps Title o.title
  pub settings : AreMany 0 MOST_COUNTED (IsSetting version) o.settings
  pub settings_rise : Rise (λ (s t : Setting). nat_lt s.permission t.permission) o.settings
  pub locals : AreMany 0 MOST_LOCALS IsLocal o.locals
  pub locals_rise : Rise (λ (l k : Local). comes_before l.user k.user) o.locals
  pub properties : AreMany 0 MOST_PROPERTIES (IsProperty version) o.properties
  pub properties_rise : Rise (λ (p q : Property). comes_before p.name q.name) o.properties
  pub part : IsPart version o.part

-- the rules of objects
abbrev pub IsObject : Object → Type 0
IsObject = IsOf Second

-- ---- what the first version has

abbrev pub IsLine : PropValue → Type 0
IsLine (Line text) = Unit {0}
IsLine (Int n) = ⊥
IsLine (Lines texts) = ⊥

-- it has nothing that came with the second version
pub record IsOlder (o : Object) : Type 0 where
  pub permissions : AllByRecursion (λ (s : Setting). s.permission ≤ most_permission First) o.settings
  pub lines : AllByRecursion (λ (p : Property). IsLine p.value) o.properties
  pub proxy : proxy_of o.part ≡ []
