-- The table of calls: a row has the kinds of objects that it is a call on, the permission that it needs, its fields in
-- their order, what else it is refused for, in that order, and what is written.
--
-- Zope Developer's Guide, "Object Publishing"; Zope Book, "Basic Zope Objects" and "Users and Security".
use Rattle.std.specs.Prelude.{ℕ, ◌&&◌, Bool, true, false, List, [], ◌∷◌, Option, Some, None, option_map, codes, if◌then◌else◌}
use Rattle.std.specs.List.{find}
use Rattle.std.specs.Str.{bytes_eq}
use Rattle.evaluator.specs.declared.permission.TheConstants.{ADD_DOCUMENTS_IMAGES_AND_FILES, ADD_FOLDERS, ADD_USER_FOLDERS, CHANGE_DTML_DOCUMENTS, CHANGE_DTML_METHODS, CHANGE_PERMISSIONS, CHANGE_PROXY_ROLES, DELETE_OBJECTS, MANAGE_PROPERTIES, MANAGE_USERS, UNDO_CHANGES}
use Rattle.form_fields.specs.declared.field.Field.{Field}
use Rattle.http_in.specs.declared.message.Verb.{Verb}
use Rattle.zobject.specs.declared.object.Object.{Object}
use Rattle.zobject.specs.declared.object.Part2.{Part2}
use Rattle.zobject.specs.declared.object.Part2.TheVariants as parts
use Rattle.zobject.specs.declared.version.Kind.{Kind}
use Rattle.zobject.specs.declared.version.Kind.TheVariants as kind
use Rattle.manage.specs.declared.call.Call.{Call}
use Rattle.manage.specs.declared.call.Call.TheVariants as call
use Rattle.manage.specs.declared.refusal.FieldName.TheVariants.{Acquire, Data, File, Id, Ids, Name, NewId, Password, Permission, Roles, Title, UserId, UserIds, Value, ValueType}
use Rattle.manage.specs.declared.rule.FieldRow.{FieldRow}
use Rattle.manage.specs.declared.rule.FieldRule.{FieldRule}
use Rattle.manage.specs.declared.rule.FieldRule.TheVariants as rule
use Rattle.manage.specs.Becoming.{Situation, text, texts, edited_folder, edited_page, with_permission, with_property, with_proxy_roles, with_user, with_user_roles, without_ids, without_properties, without_user_roles}
use Rattle.manage.specs.Calls.{is_at, is_by}
use Rattle.manage.specs.Fields.{Test, list, maybe, maybe_list, one, text_of}
use Rattle.manage.specs.Refusing.{acl_users, are_known, child_names, has_room, has_room_for_local, has_room_for_property, has_room_for_user, is_free, is_template, local_names, property_names, user_names}

-- what is written
pub data Writes : Type 0 where
  -- the object, which becomes this one
  Itself : (Situation → Object) → Writes
  -- the folder with a child last, and the child, which is new: its id, its title and what only its kind has
  Adds : (Situation → List ℕ) → (Situation → List ℕ) → (Situation → Part2) → Writes
  -- the folder with the child last under its new name, and the child with its new id
  Renames : Writes

pub record Row : Type 0 where
  pub kinds : Kind → Bool
  pub permission : ℕ
  pub fields : List Field → List FieldRow
  pub further : List (Situation → Test)
  pub writes : Writes

abbrev pub row : (Kind → Bool) → ℕ → List FieldRow → List (Situation → Test) → Writes → Row
row kinds permission fields further writes = record { kinds = kinds; permission = permission; fields = λ form. fields; further = further; writes = writes }

-- a number is told by its type, which is another field
abbrev pub value_rule : List Field → FieldRule
value_rule form = if bytes_eq (text_of ValueType form) (codes "int") then rule.Number else rule.Value

abbrev pub no_text : Situation → List ℕ
no_text s = []

-- ---- kinds

abbrev pub is_folder : Kind → Bool
is_folder kind.Folder = true
is_folder kind.Method = false
is_folder kind.Document = false
is_folder kind.UserFolder = false

abbrev pub is_method : Kind → Bool
is_method kind.Folder = false
is_method kind.Method = true
is_method kind.Document = false
is_method kind.UserFolder = false

abbrev pub is_document : Kind → Bool
is_document kind.Folder = false
is_document kind.Method = false
is_document kind.Document = true
is_document kind.UserFolder = false

abbrev pub is_user_folder : Kind → Bool
is_user_folder kind.Folder = false
is_user_folder kind.Method = false
is_user_folder kind.Document = false
is_user_folder kind.UserFolder = true

-- what has a source
abbrev pub is_page : Kind → Bool
is_page kind.Folder = false
is_page kind.Method = true
is_page kind.Document = true
is_page kind.UserFolder = false

-- what has properties
abbrev pub is_holder : Kind → Bool
is_holder kind.Folder = true
is_holder kind.Method = false
is_holder kind.Document = true
is_holder kind.UserFolder = false

abbrev pub is_any : Kind → Bool
is_any k = true

-- ---- rows

abbrev pub add_folder : Row
add_folder = row is_folder ADD_FOLDERS (one Id rule.Id ∷ maybe Title rule.Title ∷ [])
    (is_free child_names (text Id) ∷ has_room ∷ [])
    (Adds (text Id) (text Title) (λ s. parts.Folder []))

abbrev pub add_method : Row
add_method = row is_folder ADD_DOCUMENTS_IMAGES_AND_FILES (one Id rule.Id ∷ maybe Title rule.Title ∷ maybe File rule.Source ∷ [])
    (is_free child_names (text Id) ∷ has_room ∷ is_template File ∷ [])
    (Adds (text Id) (text Title) (λ s. parts.Method (text File s) []))

abbrev pub add_document : Row
add_document = row is_folder ADD_DOCUMENTS_IMAGES_AND_FILES (one Id rule.Id ∷ maybe Title rule.Title ∷ maybe File rule.Source ∷ [])
    (is_free child_names (text Id) ∷ has_room ∷ is_template File ∷ [])
    (Adds (text Id) (text Title) (λ s. parts.Document (text File s) []))

abbrev pub add_user_folder : Row
add_user_folder = row is_folder ADD_USER_FOLDERS []
    (is_free child_names acl_users ∷ has_room ∷ [])
    (Adds acl_users no_text (λ s. parts.UserFolder []))

abbrev pub edit_method : Row
edit_method = row is_method CHANGE_DTML_METHODS (one Data rule.Source ∷ maybe Title rule.Title ∷ [])
    (is_template Data ∷ [])
    (Itself edited_page)

abbrev pub edit_document : Row
edit_document = row is_document CHANGE_DTML_DOCUMENTS (one Data rule.Source ∷ maybe Title rule.Title ∷ [])
    (is_template Data ∷ [])
    (Itself edited_page)

abbrev pub edit_folder : Row
edit_folder = row is_folder MANAGE_PROPERTIES (one Title rule.Title ∷ [])
    []
    (Itself edited_folder)

abbrev pub delete_objects : Row
delete_objects = row is_folder DELETE_OBJECTS (list Ids rule.Any ∷ [])
    (are_known child_names (texts Ids) ∷ [])
    (Itself without_ids)

abbrev pub rename_object : Row
rename_object = row is_folder DELETE_OBJECTS (one Id rule.ChildName ∷ one NewId rule.Id ∷ [])
    (are_known child_names (λ s. text Id s ∷ []) ∷ is_free child_names (text NewId) ∷ [])
    Renames

abbrev pub set_permission : Row
set_permission = row is_any CHANGE_PERMISSIONS (one Permission rule.Permission ∷ maybe_list Roles rule.Role ∷ maybe Acquire rule.Any ∷ [])
    []
    (Itself with_permission)

abbrev pub set_local_roles : Row
set_local_roles = row is_any CHANGE_PERMISSIONS (one UserId rule.UserName ∷ list Roles rule.Role ∷ [])
    (has_room_for_local ∷ [])
    (Itself with_user_roles)

abbrev pub delete_local_roles : Row
delete_local_roles = row is_any CHANGE_PERMISSIONS (list UserIds rule.Any ∷ [])
    (are_known local_names (texts UserIds) ∷ [])
    (Itself without_user_roles)

abbrev pub add_property : Row
add_property = record {
  kinds = is_holder;
  permission = MANAGE_PROPERTIES;
  fields = λ form. one Id rule.PropertyName ∷ one Value (value_rule form) ∷ maybe ValueType rule.PropertyType ∷ [];
  further = is_free property_names (text Id) ∷ has_room_for_property ∷ [];
  writes = Itself with_property;
}

abbrev pub delete_properties : Row
delete_properties = row is_holder MANAGE_PROPERTIES (list Ids rule.Any ∷ [])
    (are_known property_names (texts Ids) ∷ [])
    (Itself without_properties)

abbrev pub set_proxy_roles : Row
set_proxy_roles = row is_page CHANGE_PROXY_ROLES (maybe_list Roles rule.Role ∷ [])
    []
    (Itself with_proxy_roles)

abbrev pub add_user : Row
add_user = row is_user_folder MANAGE_USERS (one Name rule.UserName ∷ one Password rule.Password ∷ maybe_list Roles rule.Role ∷ [])
    (is_free user_names (text Name) ∷ has_room_for_user ∷ [])
    (Itself with_user)

-- ---- the table

-- the rows of a call, of which at most one is of a kind
abbrev pub table : Call → List Row
table call.AddFolder = add_folder ∷ []
table call.AddMethod = add_method ∷ []
table call.AddDocument = add_document ∷ []
table call.AddUserFolder = add_user_folder ∷ []
table call.Edit = edit_method ∷ edit_document ∷ edit_folder ∷ []
table call.DeleteObjects = delete_objects ∷ []
table call.RenameObject = rename_object ∷ []
table call.SetPermission = set_permission ∷ []
table call.SetLocalRoles = set_local_roles ∷ []
table call.DeleteLocalRoles = delete_local_roles ∷ []
table call.AddProperty = add_property ∷ []
table call.DeleteProperties = delete_properties ∷ []
table call.SetProxyRoles = set_proxy_roles ∷ []
table call.AddUser = add_user ∷ []
-- these two ask the history, and are built with undoing
table call.UndoTransactions = []
table call.ListTransactions = []

-- the row of a call on a kind of object, where it is a call on one
abbrev pub row_of : Call → Kind → Option Row
row_of c k = find (λ (r : Row). r.kinds k) (table c)

-- ---- permissions

abbrev pub its_permission : Option Row → Option ℕ
its_permission found = option_map (λ (r : Row). r.permission) found

-- the permission that a call needs on an object of a kind, where it is a call on one
abbrev pub permission_of : Call → Kind → Option ℕ
permission_of call.UndoTransactions k = if is_folder k then Some UNDO_CHANGES else None
permission_of call.ListTransactions k = if is_folder k then Some UNDO_CHANGES else None
permission_of c k = its_permission (row_of c k)

-- the permission that a call needs on an object of that id and kind, by a method; none where it is no call there
abbrev pub permission_for : Call → Verb → ℕ → Kind → Option ℕ
permission_for c verb o k = if is_by c verb && is_at c o then permission_of c k else None
