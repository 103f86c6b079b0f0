-- What else than its fields a call is refused for.
use Rattle.std.specs.Prelude.{ℕ, ◌&&◌, Bool, true, not, List, length, map, Option, Some, None, Result, Ok, Err, nat_lt, nat_le, codes}
use Rattle.std.specs.List.{find}
use Rattle.acquisition.specs.declared.limits.TheConstants.{MOST_ON_PATH}
use Rattle.dtml_lex.specs.declared.refusal.DtmlRefusal.{DtmlRefusal}
use Rattle.dtml_parse.specs.TreeReading.{template}
use Rattle.zobject.specs.declared.limits.TheConstants.{MOST_CHILDREN, MOST_LINES, MOST_LOCALS, MOST_PROPERTIES, MOST_USERS}
use Rattle.zobject.specs.declared.object.Child.{Child}
use Rattle.zobject.specs.declared.object.Local.{Local}
use Rattle.zobject.specs.declared.object.Property.{Property}
use Rattle.zobject.specs.declared.object.PropValue.{PropValue}
use Rattle.zobject.specs.declared.object.PropValue.TheVariants as values
use Rattle.zobject.specs.declared.object.User.{User}
use Rattle.manage.specs.declared.refusal.FieldName.{FieldName}
use Rattle.manage.specs.declared.refusal.ManageRefusal.TheVariants as refusals
use Rattle.manage.specs.Becoming.{Situation, children, is_among, locals_with, new_value, text, users_in}
use Rattle.manage.specs.Fields.{Checked, Test, refuse_if}

-- ---- ids

abbrev pub child_names : Situation → List (List ℕ)
child_names s = map (λ (c : Child). c.name) (children s)

abbrev pub property_names : Situation → List (List ℕ)
property_names s = map (λ (p : Property). p.name) s.object.properties

abbrev pub user_names : Situation → List (List ℕ)
user_names s = map (λ (u : User). u.name) (users_in s.object.part)

abbrev pub local_names : Situation → List (List ℕ)
local_names s = map (λ (l : Local). l.user) s.object.locals

abbrev pub acl_users : Situation → List ℕ
acl_users s = codes "acl_users"

-- there is none of that name
abbrev pub is_free : (Situation → List (List ℕ)) → (Situation → List ℕ) → Situation → Test
is_free names name s = refuse_if (is_among (names s) (name s)) (refusals.Taken (name s))

abbrev pub none_unknown : Option (List ℕ) → Test
none_unknown None = Ok tt
none_unknown (Some id) = Err (refusals.NoSuchId id)

-- the first of the ids that isn't among the names
abbrev pub first_unknown : List (List ℕ) → List (List ℕ) → Option (List ℕ)
first_unknown names ids = find (λ id. not (is_among names id)) ids

-- each of them is there
abbrev pub are_known : (Situation → List (List ℕ)) → (Situation → List (List ℕ)) → Situation → Test
are_known names ids s = none_unknown (first_unknown (names s) (ids s))

-- ---- limits

-- a folder has at most MOST_CHILDREN children, and there are at most MOST_ON_PATH objects from one up to the root
abbrev pub has_room : Situation → Test
has_room s = refuse_if (not (nat_lt (length (children s)) MOST_CHILDREN && nat_lt s.depth MOST_ON_PATH)) refusals.TooMany

abbrev pub has_room_for_local : Situation → Test
has_room_for_local s = refuse_if (nat_lt MOST_LOCALS (length (locals_with s))) refusals.TooMany

abbrev pub has_room_for_user : Situation → Test
has_room_for_user s = refuse_if (not (nat_lt (length (users_in s.object.part)) MOST_USERS)) refusals.TooMany

-- a property has at most MOST_LINES lines
abbrev pub is_short : PropValue → Bool
is_short (values.Line text) = true
is_short (values.Int n) = true
is_short (values.Lines lines) = nat_le (length lines) MOST_LINES

abbrev pub has_room_for_property : Situation → Test
has_room_for_property s = refuse_if (not (nat_lt (length s.object.properties) MOST_PROPERTIES && is_short (new_value s.form))) refusals.TooMany

-- ---- sources

-- the value, where the source is a template
abbrev pub where_read : {A X : Type 0} → A → Result X DtmlRefusal → Checked A
where_read x (Ok tree) = Ok x
where_read x (Err refusal) = Err (refusals.BadSource refusal)

abbrev pub is_template : FieldName → Situation → Test
is_template field s = where_read tt (template (text field s))
