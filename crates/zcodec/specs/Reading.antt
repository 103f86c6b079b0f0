-- Reading a record from left to right. A reader answers a field and the bytes behind it, or how many bytes were left
-- where the field starts that fits no rule.
use Rattle.std.specs.Prelude.{◌≡◌, ℕ, zero, suc, ◌-◌, ◌&&◌, Bool, true, false, List, [], ◌∷◌, length, take, drop, Option, Some, None, option_map, Result, Ok, Err, nat_lt, nat_le, ◌==◌, if◌then◌else◌}
use Rattle.std.specs.Int.{Width, w16, w32, w64, byte_len, from_be_bytes, cast_signed}
use Rattle.std.specs.List.{list_any}
use Rattle.std.specs.Str.{bytes_eq}
use Rattle.zobject.specs.declared.limits.TheConstants.{MOST_CHILDREN, MOST_COUNTED, MOST_LINES, MOST_LOCALS, MOST_PROPERTIES, MOST_USERS}
use Rattle.zobject.specs.declared.object.Setting.{Setting}
use Rattle.zobject.specs.declared.object.Local.{Local}
use Rattle.zobject.specs.declared.object.Property.{Property}
use Rattle.zobject.specs.declared.object.PropValue.{PropValue}
use Rattle.zobject.specs.declared.object.PropValue.TheVariants.{Line, Int, Lines}
use Rattle.zobject.specs.declared.object.Child.{Child}
use Rattle.zobject.specs.declared.object.User.{User}
use Rattle.zobject.specs.declared.object.Part2.{Part2}
use Rattle.zobject.specs.declared.object.Part2.TheVariants as part
use Rattle.zobject.specs.declared.object.Object.{Object}
use Rattle.zobject.specs.declared.refusal.CodecRefusal.{CodecRefusal}
use Rattle.zobject.specs.declared.refusal.CodecRefusal.TheVariants.{Memory, BadRecord}
use Rattle.zobject.specs.declared.version.Kind.{Kind}
use Rattle.zobject.specs.declared.version.Kind.TheVariants as kind
use Rattle.zobject.specs.declared.version.Rule.{Rule}
use Rattle.zobject.specs.declared.version.Rule.TheVariants.{StoredId, ChildName, PropertyName, Value, Role, UserName, Password, Title, Source}
use Rattle.zobject.specs.declared.version.Version.{Version}
use Rattle.zobject.specs.declared.version.Version.TheVariants.{First, Second}
use Rattle.zobject.specs.Texts.{keeps}
use Rattle.zobject.specs.Rules.{comes_before, least_roles, most_permission}
use Rattle.zcodec.specs.declared.unread.Unread.{Unread}
use Rattle.zcodec.specs.declared.unread.Unread.TheVariants as unread

abbrev pub Reads : Type 0 → Type 0
Reads X = Result (X × List ℕ) ℕ

infixl 10 ◌>>=◌
abbrev pub ◌>>=◌ : {A B : Type 0} → Result A ℕ → (A → Result B ℕ) → Result B ℕ
(Ok x) >>= next = next x
(Err left) >>= next = Err left

-- the field and what is behind it, where it keeps the rule
abbrev pub where_kept : {X : Type 0} → Bool → ℕ → X → Result X ℕ
where_kept true left x = Ok x
where_kept false left x = Err left

-- ---- numbers and texts

unfoldable pub byte_at : List ℕ → Reads ℕ
byte_at [] = Err 0
byte_at (b ∷ rest) = Ok (b, rest)

unfoldable pub number_at : Width → List ℕ → Reads ℕ
number_at w bytes = if nat_lt (length bytes) (byte_len w) then Err (length bytes) else Ok (from_be_bytes w (take (byte_len w) bytes), drop (byte_len w) bytes)

-- so many bytes, of a field that starts where so many were left
unfoldable pub front_at : ℕ → ℕ → List ℕ → Reads (List ℕ)
front_at left n bytes = if nat_lt (length bytes) n then Err left else Ok (take n bytes, drop n bytes)

-- a text that keeps the rule, behind its length
unfoldable pub text_at : Width → Rule → List ℕ → Reads (List ℕ)
text_at w rule bytes = do
  n ← number_at w bytes
  text ← front_at (length bytes) n.0 n.1
  where_kept (keeps rule text.0) (length bytes) text

-- 0 or 1
unfoldable pub flag_at : List ℕ → Reads Bool
flag_at [] = Err 0
flag_at (zero ∷ rest) = Ok (false, rest)
flag_at (suc zero ∷ rest) = Ok (true, rest)
flag_at (suc (suc b) ∷ rest) = Err (suc (length rest))

-- ---- lists

-- how many items there are, from least to most
unfoldable pub count_at : ℕ → ℕ → List ℕ → Reads ℕ
count_at least most bytes = do
  n ← number_at w16 bytes
  where_kept (nat_le least n.0 && nat_le n.0 most) (length bytes) n

-- so many items, of which each is read behind what is kept of those before
unfoldable pub items_at : {S X : Type 0} → (S → List ℕ → Reads X) → (S → X → S) → ℕ → S → List ℕ → Reads (List X)
items_at next keep zero earlier bytes = Ok ([], bytes)
items_at next keep (suc n) earlier bytes = do
  first ← next earlier bytes
  others ← items_at next keep n (keep earlier first.0) first.1
  Ok (first.0 ∷ others.0, others.1)

-- of the items before, the last one is kept
abbrev pub last_one : {X : Type 0} → Option X → X → Option X
last_one earlier x = Some x

-- a list of which each item is read behind the last one
unfoldable pub list_at : {X : Type 0} → ℕ → ℕ → (Option X → List ℕ → Reads X) → List ℕ → Reads (List X)
list_at least most next bytes = do
  n ← count_at least most bytes
  items_at next last_one n.0 None n.1

-- it comes behind the last one
abbrev pub rises : {X : Type 0} → (X → X → Bool) → Option X → X → Bool
rises before None x = true
rises before (Some last) x = before last x

unfoldable pub role_at : Option (List ℕ) → List ℕ → Reads (List ℕ)
role_at last bytes = do
  role ← text_at w16 Role bytes
  where_kept (rises comes_before last role.0) (length bytes) role

abbrev pub roles_at : ℕ → List ℕ → Reads (List (List ℕ))
roles_at least bytes = list_at least MOST_COUNTED role_at bytes

-- ---- the parts of an object

unfoldable pub permission_at : Version → Option Setting → List ℕ → Reads ℕ
permission_at version last bytes = do
  n ← byte_at bytes
  where_kept (nat_le 1 n.0 && nat_le n.0 (most_permission version) && rises nat_lt (option_map (λ (s : Setting). s.permission) last) n.0) (length bytes) n

unfoldable pub setting_at : Version → Option Setting → List ℕ → Reads Setting
setting_at version last bytes = do
  permission ← permission_at version last bytes
  acquire ← flag_at permission.1
  roles ← roles_at (least_roles acquire.0) acquire.1
  Ok (record { permission = permission.0; acquire = acquire.0; roles = roles.0 }, roles.1)

-- a name that comes behind the last one
unfoldable pub name_at : Rule → Option (List ℕ) → List ℕ → Reads (List ℕ)
name_at rule last bytes = do
  name ← text_at w16 rule bytes
  where_kept (rises comes_before last name.0) (length bytes) name

unfoldable pub local_at : Option Local → List ℕ → Reads Local
local_at last bytes = do
  user ← name_at UserName (option_map (λ (l : Local). l.user) last) bytes
  roles ← roles_at 1 user.1
  Ok (record { user = user.0; roles = roles.0 }, roles.1)

-- a line, whatever the last one is
unfoldable pub line_at : Option (List ℕ) → List ℕ → Reads (List ℕ)
line_at last bytes = text_at w16 Value bytes

unfoldable pub one_line_at : List ℕ → Reads PropValue
one_line_at bytes = text_at w16 Value bytes >>= λ line. Ok (Line line.0, line.1)

unfoldable pub int_at : List ℕ → Reads PropValue
int_at bytes = number_at w64 bytes >>= λ n. Ok (Int (cast_signed w64 n.0), n.1)

unfoldable pub lines_at : List ℕ → Reads PropValue
lines_at bytes = list_at 0 MOST_LINES line_at bytes >>= λ lines. Ok (Lines lines.0, lines.1)

-- behind a type that starts where so many bytes were left: `s`, `i` or `l`
abbrev pub typed_at : ℕ → ℕ → List ℕ → Reads PropValue
typed_at left type bytes = if type == 115 then one_line_at bytes else if type == 105 then int_at bytes else if type == 108 then lines_at bytes else Err left

unfoldable pub value_at : Version → List ℕ → Reads PropValue
value_at First bytes = one_line_at bytes
value_at Second bytes = byte_at bytes >>= λ type. typed_at (length bytes) type.0 type.1

unfoldable pub property_at : Version → Option Property → List ℕ → Reads Property
property_at version last bytes = do
  name ← name_at PropertyName (option_map (λ (p : Property). p.name) last) bytes
  value ← value_at version name.1
  Ok (record { name = name.0; value = value.0 }, value.1)

unfoldable pub user_at : Option User → List ℕ → Reads User
user_at last bytes = do
  name ← name_at UserName (option_map (λ (u : User). u.name) last) bytes
  password ← text_at w16 Password name.1
  roles ← roles_at 0 password.1
  Ok (record { name = name.0; password = password.0; roles = roles.0 }, roles.1)

-- a child's name that isn't one of the earlier ones
unfoldable pub new_name_at : List (List ℕ) → List ℕ → Reads (List ℕ)
new_name_at earlier bytes = do
  name ← text_at w16 ChildName bytes
  if list_any (bytes_eq name.0) earlier then Err (length bytes) else Ok name

unfoldable pub child_at : List (List ℕ) → List ℕ → Reads Child
child_at earlier bytes = do
  name ← new_name_at earlier bytes
  oid ← number_at w64 name.1
  Ok (record { name = name.0; oid = oid.0 }, oid.1)

abbrev pub and_name : List (List ℕ) → Child → List (List ℕ)
and_name earlier c = c.name ∷ earlier

unfoldable pub children_at : List ℕ → Reads (List Child)
children_at bytes = do
  n ← count_at 0 MOST_CHILDREN bytes
  items_at child_at and_name n.0 [] n.1

unfoldable pub proxy_at : Version → List ℕ → Reads (List (List ℕ))
proxy_at First bytes = Ok ([], bytes)
proxy_at Second bytes = roles_at 0 bytes

unfoldable pub folder_at : List ℕ → Reads Part2
folder_at bytes = children_at bytes >>= λ children. Ok (part.Folder children.0, children.1)

unfoldable pub method_at : Version → List ℕ → Reads Part2
method_at version bytes = do
  source ← text_at w32 Source bytes
  proxy ← proxy_at version source.1
  Ok (part.Method source.0 proxy.0, proxy.1)

unfoldable pub document_at : Version → List ℕ → Reads Part2
document_at version bytes = do
  source ← text_at w32 Source bytes
  proxy ← proxy_at version source.1
  Ok (part.Document source.0 proxy.0, proxy.1)

unfoldable pub user_folder_at : List ℕ → Reads Part2
user_folder_at bytes = list_at 0 MOST_USERS user_at bytes >>= λ users. Ok (part.UserFolder users.0, users.1)

abbrev pub part_at : Version → Kind → List ℕ → Reads Part2
part_at version kind.Folder bytes = folder_at bytes
part_at version kind.Method bytes = method_at version bytes
part_at version kind.Document bytes = document_at version bytes
part_at version kind.UserFolder bytes = user_folder_at bytes

-- ---- the object

-- `Z1` or `Z2`
unfoldable pub magic_at : List ℕ → Reads Version
magic_at bytes =
    if bytes_eq (90 ∷ 49 ∷ []) (take 2 bytes) then Ok (First, drop 2 bytes)
    else if bytes_eq (90 ∷ 50 ∷ []) (take 2 bytes) then Ok (Second, drop 2 bytes)
    else Err (length bytes)

abbrev pub kind_by : ℕ → Option Kind
kind_by letter = if letter == 70 then Some kind.Folder else if letter == 77 then Some kind.Method else if letter == 68 then Some kind.Document else if letter == 85 then Some kind.UserFolder else None

abbrev pub kind_or : ℕ → Option Kind → List ℕ → Reads Kind
kind_or left None rest = Err left
kind_or left (Some k) rest = Ok (k, rest)

-- `F`, `M`, `D` or `U`
unfoldable pub kind_at : List ℕ → Reads Kind
kind_at bytes = byte_at bytes >>= λ letter. kind_or (length bytes) (kind_by letter.0) letter.1

-- the version and the kind
pub record Start : Type 0 where
  pub version : Version
  pub kind : Kind

unfoldable pub start_at : List ℕ → Reads Start
start_at bytes = do
  version ← magic_at bytes
  kind ← kind_at version.1
  Ok (record { version = version.0; kind = kind.0 }, kind.1)

-- the id, the container and the title
pub record Names : Type 0 where
  pub id : List ℕ
  pub parent : ℕ
  pub title : List ℕ

unfoldable pub names_at : Kind → List ℕ → Reads Names
names_at kind bytes = do
  id ← text_at w16 (StoredId kind) bytes
  parent ← number_at w64 id.1
  title ← text_at w16 Title parent.1
  Ok (record { id = id.0; parent = parent.0; title = title.0 }, title.1)

-- the fields that every object has first
pub record Head : Type 0 where
  pub start : Start
  pub names : Names

unfoldable pub head_at : List ℕ → Reads Head
head_at bytes = do
  start ← start_at bytes
  names ← names_at start.0.kind start.1
  Ok (record { start = start.0; names = names.0 }, names.1)

-- the settings, the local roles and the properties
pub record Lists : Type 0 where
  pub settings : List Setting
  pub locals : List Local
  pub properties : List Property

unfoldable pub lists_at : Version → List ℕ → Reads Lists
lists_at version bytes = do
  settings ← list_at 0 MOST_COUNTED (setting_at version) bytes
  locals ← list_at 0 MOST_LOCALS local_at settings.1
  properties ← list_at 0 MOST_PROPERTIES (property_at version) locals.1
  Ok (record { settings = settings.0; locals = locals.0; properties = properties.0 }, properties.1)

abbrev pub object_of : Head → Lists → Part2 → Object
object_of head lists part = record { id = head.names.id; parent = head.names.parent; title = head.names.title; settings = lists.settings; locals = lists.locals; properties = lists.properties; part = part }

-- the version of the record, and the object
unfoldable pub object_at : List ℕ → Reads (Version × Object)
object_at bytes = do
  head ← head_at bytes
  lists ← lists_at head.0.start.version head.1
  part ← part_at head.0.start.version head.0.start.kind lists.1
  Ok ((head.0.start.version, object_of head.0 lists.0 part.0), part.1)

-- all of the bytes
unfoldable pub whole_at : List ℕ → Result Object ℕ
whole_at bytes = object_at bytes >>= λ o. where_kept (length o.1 == 0) (length o.1) o.0.1

-- the place from the front
abbrev pub placed : {X : Type 0} → ℕ → Result X ℕ → Result X ℕ
placed total (Ok x) = Ok x
placed total (Err left) = Err (total - left)

-- the object that the bytes spell, or where the first field starts that fits no rule
unfoldable pub read : List ℕ → Result Object ℕ
read bytes = placed (length bytes) (whole_at bytes)

-- ---- what code gave, against what is read

abbrev pub Fails : {Y : Type 0} → Unread → Result Y ℕ → Type 0
Fails unread.Memory r = Unit {0}
Fails (unread.Bad left) r = r ≡ Err left

-- the value, seen by view, or the field that fits no rule, unless memory ran out
abbrev pub Gives : {X Y : Type 0} → (X → Y) → Result X Unread → Result Y ℕ → Type 0
Gives view (Ok x) r = r ≡ Ok (view x)
Gives view (Err e) r = Fails e r

abbrev pub Decodes : Result Object CodecRefusal → Result Object ℕ → Type 0
Decodes (Ok o) r = r ≡ Ok o
Decodes (Err Memory) r = Unit {0}
Decodes (Err (BadRecord at)) r = r ≡ Err at
