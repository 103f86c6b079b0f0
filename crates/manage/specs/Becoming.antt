-- What an object becomes by the fields of a form.
--
-- Zope Book, "Basic Zope Objects": editing, properties; "Users and Security": settings, local roles, proxy roles, users.
use Rattle.std.specs.Prelude.{ℕ, ℤ, pos, ◌==◌, ◌&&◌, Bool, not, List, [], ◌∷◌, ◌++◌, length, Option, Some, None, codes, if◌then◌else◌}
use Rattle.std.specs.List.{filter, list_any, slice_split}
use Rattle.std.specs.Str.{bytes_eq}
use Rattle.std.specs.Str.Lines.{strip_carriage_return}
use Rattle.form_fields.specs.declared.field.Field.{Field}
use Rattle.form_fields.specs.Numbers.{whole_number}
use Rattle.evaluator.specs.Named.{permission_named}
use Rattle.user_folder.specs.Users.{kept}
use Rattle.zobject.specs.declared.object.Setting.{Setting}
use Rattle.zobject.specs.declared.object.Local.{Local}
use Rattle.zobject.specs.declared.object.Property.{Property}
use Rattle.zobject.specs.declared.object.PropValue.{PropValue}
use Rattle.zobject.specs.declared.object.PropValue.TheVariants as values
use Rattle.zobject.specs.declared.object.Child.{Child}
use Rattle.zobject.specs.declared.object.User.{User}
use Rattle.zobject.specs.declared.object.Part2.{Part2}
use Rattle.zobject.specs.declared.object.Part2.TheVariants as parts
use Rattle.zobject.specs.declared.object.Object.{Object}
use Rattle.zobject.specs.Changes.{put_local, put_property, put_setting, put_user, with_locals, with_part, with_properties, with_settings, with_title, without_children}
use Rattle.zobject.specs.Sorting.{sorted}
use Rattle.manage.specs.declared.refusal.FieldName.{FieldName}
use Rattle.manage.specs.declared.refusal.FieldName.TheVariants as field
use Rattle.manage.specs.Fields.{text_of, texts_of}

-- What a call is judged by: the object called on, what the form says, and how many objects there are from it up to the
-- root.
pub record Situation : Type 0 where
  pub object : Object
  pub form : List Field
  pub depth : ℕ

-- where no call asks for the objects above
abbrev pub situation : Object → List Field → Situation
situation object form = record { object = object; form = form; depth = 0 }

abbrev pub text : FieldName → Situation → List ℕ
text field s = text_of field s.form

abbrev pub texts : FieldName → Situation → List (List ℕ)
texts field s = texts_of field s.form

-- one of the texts
abbrev pub is_among : List (List ℕ) → List ℕ → Bool
is_among ts t = list_any (bytes_eq t) ts

-- ---- of kinds

abbrev pub children_in : Part2 → List Child
children_in (parts.Folder children) = children
children_in (parts.Method source proxy) = []
children_in (parts.Document source proxy) = []
children_in (parts.UserFolder users) = []

abbrev pub users_in : Part2 → List User
users_in (parts.Folder children) = []
users_in (parts.Method source proxy) = []
users_in (parts.Document source proxy) = []
users_in (parts.UserFolder users) = users

abbrev pub with_source : List ℕ → Part2 → Part2
with_source source (parts.Folder children) = parts.Folder children
with_source source (parts.Method old proxy) = parts.Method source proxy
with_source source (parts.Document old proxy) = parts.Document source proxy
with_source source (parts.UserFolder users) = parts.UserFolder users

abbrev pub with_proxy : List (List ℕ) → Part2 → Part2
with_proxy roles (parts.Folder children) = parts.Folder children
with_proxy roles (parts.Method source old) = parts.Method source roles
with_proxy roles (parts.Document source old) = parts.Document source roles
with_proxy roles (parts.UserFolder users) = parts.UserFolder users

abbrev pub children : Situation → List Child
children s = children_in s.object.part

-- the form's roles, by bytes and each once
abbrev pub roles_in : List Field → List (List ℕ)
roles_in form = sorted (texts_of field.Roles form)

-- ---- editing

-- the new title, where the form has one
abbrev pub title_or : List ℕ → List (List ℕ) → List ℕ
title_or old [] = old
title_or old (new ∷ others) = new

abbrev pub edited_page : Situation → Object
edited_page s = with_title (title_or s.object.title (texts field.Title s)) (with_part (with_source (text field.Data s) s.object.part) s.object)

abbrev pub edited_folder : Situation → Object
edited_folder s = with_title (text field.Title s) s.object

-- ---- children

abbrev pub without_ids : Situation → Object
without_ids s = with_part (parts.Folder (without_children (texts field.Ids s) (children s))) s.object

-- the folder with that child last, under its new name
abbrev pub with_renamed : ℕ → Situation → Object
with_renamed child s = with_part (parts.Folder (without_children (text field.Id s ∷ []) (children s) ++ record { name = text field.NewId s; oid = child } ∷ [])) s.object

-- ---- permissions and roles

abbrev pub number_or_none : Option ℕ → ℕ
number_or_none None = 0
number_or_none (Some n) = n

-- the setting that a form gives
abbrev pub new_setting : List Field → Setting
new_setting form = record {
  permission = number_or_none (permission_named (text_of field.Permission form));
  acquire = bytes_eq (text_of field.Acquire form) (codes "1");
  roles = roles_in form;
}

abbrev pub other_settings : ℕ → List Setting → List Setting
other_settings permission settings = filter (λ (t : Setting). not (t.permission == permission)) settings

-- acquired roles alone are what there is without a setting
abbrev pub settings_with : Setting → List Setting → List Setting
settings_with s settings = if s.acquire && (length s.roles == 0) then other_settings s.permission settings else put_setting s settings

abbrev pub with_permission : Situation → Object
with_permission s = with_settings (settings_with (new_setting s.form) s.object.settings) s.object

-- the local roles that a form gives a user
abbrev pub new_local : List Field → Local
new_local form = record { user = text_of field.UserId form; roles = roles_in form }

abbrev pub locals_with : Situation → List Local
locals_with s = put_local (new_local s.form) s.object.locals

abbrev pub with_user_roles : Situation → Object
with_user_roles s = with_locals (locals_with s) s.object

abbrev pub without_user_roles : Situation → Object
without_user_roles s = with_locals (filter (λ (l : Local). not (is_among (texts field.UserIds s) l.user)) s.object.locals) s.object

abbrev pub with_proxy_roles : Situation → Object
with_proxy_roles s = with_part (with_proxy (roles_in s.form) s.object.part) s.object

-- ---- properties

-- a CR before an LF is dropped
abbrev pub without_cr : List (List ℕ) → List (List ℕ)
without_cr [] = []
without_cr (line ∷ []) = line ∷ []
without_cr (line ∷ next ∷ lines) = strip_carriage_return line ∷ without_cr (next ∷ lines)

-- the lines of a text, between LFs; an empty text has none
abbrev pub lines_of : List ℕ → List (List ℕ)
lines_of text = if length text == 0 then [] else without_cr (slice_split (λ b. b == 10) text)

abbrev pub number_of : Option ℤ → ℤ
number_of None = pos 0
number_of (Some n) = n

-- the value by its type, one line of text where none is told
abbrev pub value_by : List ℕ → List ℕ → PropValue
value_by type text =
    if bytes_eq type (codes "int") then values.Int (number_of (whole_number text))
    else if bytes_eq type (codes "lines") then values.Lines (lines_of text)
    else values.Line text

abbrev pub new_value : List Field → PropValue
new_value form = value_by (text_of field.ValueType form) (text_of field.Value form)

abbrev pub with_property : Situation → Object
with_property s = with_properties (put_property (record { name = text field.Id s; value = new_value s.form }) s.object.properties) s.object

abbrev pub without_properties : Situation → Object
without_properties s = with_properties (filter (λ (p : Property). not (is_among (texts field.Ids s) p.name)) s.object.properties) s.object

-- ---- users

-- the user that a form gives; what is kept of the password isn't the password
abbrev pub new_user : List Field → User
new_user form = record { name = text_of field.Name form; password = kept (text_of field.Password form); roles = roles_in form }

abbrev pub with_user : Situation → Object
with_user s = with_part (parts.UserFolder (put_user (new_user s.form) (users_in s.object.part))) s.object
