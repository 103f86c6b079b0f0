-- Worked rows: which call a name is, what it needs, its fields, and what it writes.
use lib.Utf8.{encode}
use Rattle.std.proofs.Common.{◌≡◌, ℕ, List, [], ◌∷◌, map, Option, Some, None, Result, Ok, Err, refl, codes, nat_eq, if◌then◌else◌}
use Rattle.std.specs.Prelude.{negsuc}
use Rattle.std.specs.Str.{is_utf8, chars}
use Rattle.std.specs.Str.Lossy.{utf8_lossy, utf8_valid_len}
use Rattle.zbase.specs.Hex.{hex16_text, hex_digits}
use Rattle.zbase.specs.Query.{◌>>=◌, run, Halt, Need, Cause}
use Rattle.zobject.specs.declared.object.Object.{Object}
use Rattle.zobject.specs.declared.object.Property.{Property}
use Rattle.zobject.specs.declared.object.PropValue.TheVariants.{Line, Int, Lines}
use Rattle.zobject.specs.declared.object.Part2.{Part2}
use Rattle.zobject.specs.declared.object.Part2.TheVariants as parts
use Rattle.zobject.specs.declared.version.Kind.TheVariants.{Folder, Method, Document, UserFolder}
use Rattle.zobject.specs.Likely.{is_like_id}
use Rattle.zobject.specs.Shapes.{Form, Shape, shape_of}
use Rattle.zobject.specs.Shapes as form
use Rattle.zknown.specs.Seen.{Seen, Here, Absent, Unreadable, Objects}
use Rattle.acquisition.specs.Acquiring.{containers, upwards}
use Rattle.evaluator.specs.declared.draft.Name.{Name}
use Rattle.evaluator.specs.declared.fact.LogRow.{LogRow}
use Rattle.evaluator.specs.declared.permission.TheConstants.{CHANGE_DTML_DOCUMENTS, CHANGE_DTML_METHODS, MANAGE_PROPERTIES, UNDO_CHANGES}
use Rattle.form_fields.specs.declared.field.Field.{Field}
use Rattle.form_fields.specs.declared.field.FieldValue.{FieldValue}
use Rattle.form_fields.specs.declared.field.Scalar.{Scalar}
use Rattle.form_fields.specs.Numbers.{whole_number}
use Rattle.http_in.specs.declared.message.Verb.TheVariants.{Get, Head, Post}
use Rattle.manage.specs.declared.call.Call.TheVariants as call
use Rattle.manage.specs.declared.refusal.FieldName.TheVariants.{Id, Ids, Tid, Value, ValueType}
use Rattle.manage.specs.declared.refusal.ManageRefusal.{ManageRefusal}
use Rattle.manage.specs.declared.refusal.ManageRefusal.TheVariants.{Missing, BadField, NotFound, Broken, NoSuchId, Taken}
use Rattle.manage.specs.Calls.{call_named}
use Rattle.manage.specs.Calling.{here, permission_at}
use Rattle.manage.specs.Changing.{by_row, judged, written}
use Rattle.manage.specs.Fields.{field_kept, fields_kept, text_of, texts_of}
use Rattle.manage.specs.Table.{Row, add_folder, add_property, delete_objects, permission_for, rename_object}
use Rattle.manage.specs.Undoing.{log_text, undone_id}
use Rattle.manage.specs.Written.{Written}

-- ---- names

names : map call_named (codes "manage_edit" ∷ codes "userFolderAddUser" ∷ codes "undoable_transactions" ∷ codes "manage_Edit" ∷ codes "manage_editx" ∷ [] ∷ []) ≡ Some call.Edit ∷ Some call.AddUser ∷ Some call.ListTransactions ∷ None ∷ None ∷ None ∷ []
names = refl

-- ---- permissions

-- an edit needs another permission of each kind, and is no call on a user folder
edits : map (permission_for call.Edit Post 7) (Method ∷ Document ∷ Folder ∷ UserFolder ∷ []) ≡ Some CHANGE_DTML_METHODS ∷ Some CHANGE_DTML_DOCUMENTS ∷ Some MANAGE_PROPERTIES ∷ None ∷ []
edits = refl

-- by HEAD nothing is changed
no_edits : map (permission_for call.Edit Head 7) (Method ∷ Document ∷ Folder ∷ UserFolder ∷ []) ≡ None ∷ None ∷ None ∷ None ∷ []
no_edits = refl

-- transactions are undone on the root alone, and shown there by HEAD too
on_the_root : map (λ c. permission_for c Get 0 Folder) (call.UndoTransactions ∷ call.ListTransactions ∷ []) ≡ Some UNDO_CHANGES ∷ Some UNDO_CHANGES ∷ []
on_the_root = refl

elsewhere : map (λ c. permission_for c Get 1 Folder) (call.UndoTransactions ∷ call.ListTransactions ∷ []) ≡ None ∷ None ∷ []
elsewhere = refl

by_head : map (λ c. permission_for c Head 0 Folder) (call.UndoTransactions ∷ call.ListTransactions ∷ []) ≡ None ∷ Some UNDO_CHANGES ∷ []
by_head = refl

-- ---- the object called on

shaped : Form → Seen Shape
shaped form = Here (record { id = []; parent = 0; settings = []; locals = []; names = []; form = form })

shapes_of : ℕ → Option (Seen Shape)
shapes_of o =
    if nat_eq o 0 then Some (shaped (form.Folder []))
    else if nat_eq o 1 then Some (shaped (form.Document []))
    else if nat_eq o 2 then Some (shaped (form.UserFolder []))
    else if nat_eq o 3 then Some Absent
    else if nat_eq o 4 then Some Unreadable
    else None

edited_where : map (λ (o : ℕ). run shapes_of (permission_at call.Edit Post o)) (0 ∷ 1 ∷ 2 ∷ 3 ∷ 4 ∷ 5 ∷ [])
    ≡ Ok MANAGE_PROPERTIES ∷ Ok CHANGE_DTML_DOCUMENTS ∷ Err (Cause (NotFound call.Edit)) ∷ Err (Cause (Broken 3)) ∷ Err (Cause (Broken 4)) ∷ Err (Need 5) ∷ []
unfolding permission_at shapes_of shaped
edited_where = refl

undone_where : map (λ (o : ℕ). run shapes_of (permission_at call.UndoTransactions Get o)) (0 ∷ 1 ∷ 2 ∷ []) ≡ Ok UNDO_CHANGES ∷ Err (Cause (NotFound call.UndoTransactions)) ∷ Err (Cause (NotFound call.UndoTransactions)) ∷ []
unfolding permission_at shapes_of shaped
undone_where = refl

-- ---- a site

abbrev said : List ℕ → List ℕ → Field
said name value = record { name = name; value = FieldValue.One (Scalar.Text value) }

abbrev listed : List ℕ → List (List ℕ) → Field
listed name values = record { name = name; value = FieldValue.List (map Scalar.Text values) }

abbrev held : List ℕ → Part2 → Object
held id part = record { id = id; parent = 0; title = []; settings = []; locals = []; properties = []; part = part }

-- the root lists a method, and itself
root : Object
root = held [] (parts.Folder (record { name = codes "m"; oid = 2 } ∷ record { name = codes "self"; oid = 0 } ∷ []))

site : ℕ → Option (Seen Object)
site o = if nat_eq o 0 then Some (Here root) else if nat_eq o 2 then Some (Here (held (codes "m") (parts.Method (codes "hi") []))) else None

-- what is written where the first new object has the id 7
abbrev told : Result (List Written) (Halt ℕ ManageRefusal) → Result (List (Name × Object)) (Halt ℕ ManageRefusal)
told (Ok ws) = Ok (map (λ (w : Written). (w.name, w.object 7)) ws)
told (Err halt) = Err halt

-- what the row writes on the root
abbrev tried : Row → List Field → Objects ManageRefusal (List Written)
tried row form = here 0 >>= λ object. by_row (Some row) call.Edit 0 object form

-- ---- a child more

add_refused : map (λ form. told (run site (tried add_folder form))) ((said (codes "id") (codes "m") ∷ []) ∷ (said (codes "id") (codes "_x") ∷ []) ∷ [] ∷ (listed (codes "id") (codes "a" ∷ []) ∷ []) ∷ [])
    ≡ Err (Cause (Taken (codes "m"))) ∷ Err (Cause (BadField Id)) ∷ Err (Cause (Missing Id)) ∷ Err (Cause (BadField Id)) ∷ []
unfolding written judged fields_kept field_kept texts_of text_of is_utf8 chars encode is_like_id containers upwards shape_of site root
add_refused = refl

added : told (run site (tried add_folder (said (codes "id") (codes "f") ∷ said (codes "title") (codes "T") ∷ [])))
    ≡ Ok ((Name.Old 0, held [] (parts.Folder (record { name = codes "m"; oid = 2 } ∷ record { name = codes "self"; oid = 0 } ∷ record { name = codes "f"; oid = 7 } ∷ [])))
    ∷ (Name.New 0, record { id = codes "f"; parent = 0; title = codes "T"; settings = []; locals = []; properties = []; part = parts.Folder [] }) ∷ [])
unfolding written judged fields_kept field_kept texts_of text_of is_utf8 chars encode is_like_id containers upwards shape_of site root
added = refl

-- ---- children less

deleted : map (λ form. told (run site (tried delete_objects form))) ((listed (codes "ids") (codes "m" ∷ codes "m" ∷ []) ∷ []) ∷ (listed (codes "ids") (codes "m" ∷ codes "y" ∷ codes "x" ∷ []) ∷ []) ∷ (said (codes "id") (codes "m") ∷ []) ∷ [])
    ≡ Ok ((Name.Old 0, held [] (parts.Folder (record { name = codes "self"; oid = 0 } ∷ []))) ∷ []) ∷ Err (Cause (NoSuchId (codes "y"))) ∷ Err (Cause (Missing Ids)) ∷ []
unfolding written judged fields_kept field_kept texts_of text_of site root
deleted = refl

-- ---- another name

abbrev renaming : List ℕ → List ℕ → List Field
renaming id new = said (codes "id") id ∷ said (codes "new_id") new ∷ []

rename_refused : map (λ form. told (run site (tried rename_object form))) (renaming (codes "x") (codes "y") ∷ renaming (codes "m") (codes "m") ∷ renaming (codes "acl_users") (codes "y") ∷ [])
    ≡ Err (Cause (NoSuchId (codes "x"))) ∷ Err (Cause (Taken (codes "m"))) ∷ Err (Cause (BadField Id)) ∷ []
unfolding written judged fields_kept field_kept texts_of text_of is_utf8 chars encode is_like_id site root
rename_refused = refl

renamed : told (run site (tried rename_object (renaming (codes "m") (codes "n"))))
    ≡ Ok ((Name.Old 0, held [] (parts.Folder (record { name = codes "self"; oid = 0 } ∷ record { name = codes "n"; oid = 2 } ∷ []))) ∷ (Name.Old 2, held (codes "n") (parts.Method (codes "hi") [])) ∷ [])
unfolding written judged fields_kept field_kept texts_of text_of is_utf8 chars encode is_like_id site root
renamed = refl

-- a folder that is its own child is written once
renamed_itself : told (run site (tried rename_object (renaming (codes "self") (codes "me"))))
    ≡ Ok ((Name.Old 0, held (codes "me") (parts.Folder (record { name = codes "m"; oid = 2 } ∷ record { name = codes "me"; oid = 0 } ∷ []))) ∷ [])
unfolding written judged fields_kept field_kept texts_of text_of is_utf8 chars encode is_like_id site root
renamed_itself = refl

-- ---- properties

abbrev property : List ℕ → List ℕ → List Field
property value type = said (codes "id") (codes "p") ∷ said (codes "value") value ∷ said (codes "type") type ∷ []

with_one : Property → Object
with_one p = record { id = []; parent = 0; title = []; settings = []; locals = []; properties = p ∷ []; part = root.part }

typed : map (λ form. told (run site (tried add_property form))) (property (codes "-7") (codes "int") ∷ property (codes "x") (codes "int") ∷ property (codes "x") (codes "float") ∷ (said (codes "id") (codes "p") ∷ said (codes "value") (codes "v") ∷ []) ∷ [])
    ≡ Ok ((Name.Old 0, with_one (record { name = codes "p"; value = Int (negsuc 6) })) ∷ []) ∷ Err (Cause (BadField Value)) ∷ Err (Cause (BadField ValueType))
    ∷ Ok ((Name.Old 0, with_one (record { name = codes "p"; value = Line (codes "v") })) ∷ []) ∷ []
unfolding written judged fields_kept field_kept texts_of text_of is_utf8 chars encode whole_number site root with_one
typed = refl

-- a CR before an LF is dropped, and a last LF leaves an empty line
lines : told (run site (tried add_property (property (97 ∷ 13 ∷ 10 ∷ 98 ∷ 13 ∷ 10 ∷ []) (codes "lines"))))
    ≡ Ok ((Name.Old 0, with_one (record { name = codes "p"; value = Lines ((97 ∷ []) ∷ (98 ∷ []) ∷ [] ∷ []) })) ∷ [])
unfolding written judged fields_kept field_kept texts_of text_of is_utf8 chars encode site root with_one
lines = refl

-- ---- the transaction that is undone

undone_ids : map undone_id ((said (codes "tid") (codes "0331620000000001") ∷ []) ∷ (said (codes "tid") (codes "0331620000000001 ") ∷ []) ∷ (said (codes "tid") (codes "033162000000000A") ∷ []) ∷ (listed (codes "tid") (codes "0331620000000001" ∷ []) ∷ []) ∷ [] ∷ [])
    ≡ Ok 230072808112128001 ∷ Err (BadField Tid) ∷ Err (BadField Tid) ∷ Err (BadField Tid) ∷ Err (Missing Tid) ∷ []
undone_ids = refl

-- ---- the newest transactions

abbrev logged : List ℕ → List ℕ → ℕ → LogRow
logged user description tid = record { tid = tid; user = user; description = description }

log_rows : log_text (logged [] (codes "init") 1 ∷ logged (codes "admin") (codes "/index_html/manage_edit") 2 ∷ []) ≡ codes "0000000000000002 admin /index_html/manage_edit\n0000000000000001  init\n"
unfolding log_text hex16_text hex_digits utf8_lossy utf8_valid_len is_utf8 chars encode
log_rows = refl

no_rows : log_text [] ≡ []
unfolding log_text
no_rows = refl
