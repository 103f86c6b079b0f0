-- The calls of management: their names, the names of their fields, and by which methods and where each is a call.
--
-- Zope Developer's Guide, "Object Publishing".
use Rattle.std.specs.Prelude.{ℕ, ◌==◌, ◌||◌, Bool, true, false, not, List, [], ◌∷◌, Option, codes}
use Rattle.std.specs.List.{find}
use Rattle.std.specs.Str.{bytes_eq}
use Rattle.http_in.specs.declared.message.Verb.{Verb}
use Rattle.http_in.specs.declared.message.Verb.TheVariants as verb
use Rattle.manage.specs.declared.call.Call.{Call}
use Rattle.manage.specs.declared.call.Call.TheVariants as call
use Rattle.manage.specs.declared.refusal.FieldName.{FieldName}
use Rattle.manage.specs.declared.refusal.FieldName.TheVariants as fields

-- ---- names

abbrev pub name_of : Call → List ℕ
name_of call.AddFolder = codes "manage_addFolder"
name_of call.AddMethod = codes "manage_addDTMLMethod"
name_of call.AddDocument = codes "manage_addDTMLDocument"
name_of call.AddUserFolder = codes "manage_addUserFolder"
name_of call.Edit = codes "manage_edit"
name_of call.DeleteObjects = codes "manage_delObjects"
name_of call.RenameObject = codes "manage_renameObject"
name_of call.SetPermission = codes "manage_permission"
name_of call.SetLocalRoles = codes "manage_setLocalRoles"
name_of call.DeleteLocalRoles = codes "manage_delLocalRoles"
name_of call.AddProperty = codes "manage_addProperty"
name_of call.DeleteProperties = codes "manage_delProperties"
name_of call.SetProxyRoles = codes "manage_proxy"
name_of call.AddUser = codes "userFolderAddUser"
name_of call.UndoTransactions = codes "manage_undo_transactions"
name_of call.ListTransactions = codes "undoable_transactions"

abbrev pub all_calls : List Call
all_calls = call.AddFolder ∷ call.AddMethod ∷ call.AddDocument ∷ call.AddUserFolder ∷ call.Edit ∷ call.DeleteObjects ∷ call.RenameObject ∷ call.SetPermission
    ∷ call.SetLocalRoles ∷ call.DeleteLocalRoles ∷ call.AddProperty ∷ call.DeleteProperties ∷ call.SetProxyRoles ∷ call.AddUser ∷ call.UndoTransactions ∷ call.ListTransactions ∷ []

-- the call of that name, if it names one
abbrev pub call_named : List ℕ → Option Call
call_named name = find (λ call. bytes_eq (name_of call) name) all_calls

-- the name that a form gives a field
abbrev pub field_text : FieldName → List ℕ
field_text fields.Acquire = codes "acquire"
field_text fields.Data = codes "data"
field_text fields.File = codes "file"
field_text fields.Id = codes "id"
field_text fields.Ids = codes "ids"
field_text fields.Name = codes "name"
field_text fields.NewId = codes "new_id"
field_text fields.Password = codes "password"
field_text fields.Permission = codes "permission_to_manage"
field_text fields.Roles = codes "roles"
field_text fields.Tid = codes "tid"
field_text fields.Title = codes "title"
field_text fields.UserId = codes "userid"
field_text fields.UserIds = codes "userids"
field_text fields.Value = codes "value"
field_text fields.ValueType = codes "type"

-- ---- where it is a call

-- on the root alone, which has the id 0
abbrev pub is_of_root : Call → Bool
is_of_root call.UndoTransactions = true
is_of_root call.ListTransactions = true
is_of_root _ = false

abbrev pub is_at : Call → ℕ → Bool
is_at call o = not (is_of_root call) || (o == 0)

-- one that shows a page of its own
abbrev pub is_shown : Call → Bool
is_shown call.ListTransactions = true
is_shown _ = false

-- GET is as good as POST, and HEAD as GET where a page is shown
abbrev pub is_by : Call → Verb → Bool
is_by call verb.Get = true
is_by call verb.Post = true
is_by call verb.Head = is_shown call
