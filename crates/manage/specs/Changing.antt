-- What a call writes, and what it comes to, as questions over objects.
use Rattle.std.specs.Prelude.{ℕ, ◌≡◌, nat_eq, List, [], ◌∷◌, length, Option, Some, None, Ok, Err, if◌then◌else◌}
use Rattle.std.specs.List.{AllByRecursion}
use Rattle.zbase.specs.Query.{Query, Done, Stops, ◌>>=◌, or_else}
use Rattle.zobject.specs.declared.object.Object.{Object}
use Rattle.zobject.specs.declared.object.Part2.{Part2}
use Rattle.zobject.specs.declared.object.Part2.TheVariants as parts
use Rattle.zobject.specs.Changes.{new_object, with_id}
use Rattle.zobject.specs.Folders.{child_of}
use Rattle.zobject.specs.Rules.{IsObject, kind_of}
use Rattle.zknown.specs.Seen.{Seen, Here, Objects, over_objects}
use Rattle.acquisition.specs.Acquiring as acquiring
use Rattle.acquisition.specs.Acquiring.{containers}
use Rattle.acquisition.specs.declared.refusal.AqRefusal.{AqRefusal}
use Rattle.acquisition.specs.declared.refusal.AqRefusal.TheVariants as aq
use Rattle.evaluator.specs.declared.ask.Ask.{Ask}
use Rattle.evaluator.specs.declared.draft.Name.{Name}
use Rattle.form_fields.specs.declared.field.Field.{Field}
use Rattle.manage.specs.declared.call.Call.{Call}
use Rattle.manage.specs.declared.call.Call.TheVariants as call
use Rattle.manage.specs.declared.changes.Called.{Called}
use Rattle.manage.specs.declared.changes.Called.TheVariants as called
use Rattle.manage.specs.declared.changes.Change.{Change}
use Rattle.manage.specs.declared.changes.NewChild.{NewChild}
use Rattle.manage.specs.declared.changes.Page.{Page}
use Rattle.manage.specs.declared.changes.Page.TheVariants as pages
use Rattle.manage.specs.declared.refusal.FieldName.TheVariants as field
use Rattle.manage.specs.declared.refusal.ManageRefusal.{ManageRefusal}
use Rattle.manage.specs.declared.refusal.ManageRefusal.TheVariants as refusals
use Rattle.manage.specs.Becoming.{Situation, children, children_in, situation, text, with_renamed}
use Rattle.manage.specs.Calling.{here}
use Rattle.manage.specs.Fields.{Checked, Test, fields_kept}
use Rattle.manage.specs.Fields as tests
use Rattle.manage.specs.Table.{Adds, Itself, Renames, Row, Writes, row_of, table}
use Rattle.manage.specs.Undoing.{undone_id}
use Rattle.manage.specs.Written.{Written, change_of, grown, whole}

-- a value or a refusal, as a question that asks for nothing
abbrev pub settled : {R A : Type 0} → Checked A → Query ℕ R ManageRefusal A
settled (Ok x) = Done x
settled (Err refusal) = Stops refusal

-- ---- what it is refused for

abbrev pub tested : {A : Type 0} → List (Situation → Test) → Situation → Checked A → Checked A
tested [] s further = further
tested (test ∷ others) s further = tests.◌>>=◌ (test s) (λ passed. tested others s further)

-- the fields in the order of the row, then what else it is refused for
unfoldable pub judged : {A : Type 0} → Row → Situation → Checked A → Checked A
judged row s further = tests.◌>>=◌ (fields_kept (row.fields s.form) s.form) (λ kept. tested row.further s further)

-- ---- what is written

-- what the object becomes, where the row refuses nothing
abbrev pub became : Row → (Situation → Object) → Object → List Field → Checked Object
became row new object form = judged row (situation object form) (Ok (new (situation object form)))

-- a child more: how many objects there are from the folder up to the root is asked for first
abbrev pub no_path : acquiring.Fault → ManageRefusal
no_path (acquiring.Broken o) = refusals.Broken o
no_path acquiring.TooDeep = refusals.TooDeep

abbrev pub depth_of : ℕ → Objects ManageRefusal ℕ
depth_of o = over_objects (or_else no_path (containers o)) >>= λ path. Done (length path)

abbrev pub wanted : (Situation → List ℕ) → (Situation → List ℕ) → (Situation → Part2) → Row → Situation → Checked NewChild
wanted id title part row s = judged row s (Ok (record { id = id s; title = title s; part = part s }))

abbrev pub added : ℕ → Object → NewChild → List Written
added o folder child = grown o folder (children_in folder.part) child.id ∷ whole (Name.New 0) (new_object child.id o child.title child.part) ∷ []

-- The child, which is asked for once its names are right. A folder may be its own child: then one object is written.
abbrev pub renamed_child : ℕ → Situation → Option ℕ → Objects ManageRefusal (List Written)
renamed_child o s None = Stops (refusals.NoSuchId (text field.Id s))
renamed_child o s (Some child) =
    if nat_eq child o then Done (whole (Name.Old o) (with_id (text field.NewId s) (with_renamed child s)) ∷ [])
    else here child >>= λ object. Done (whole (Name.Old o) (with_renamed child s) ∷ whole (Name.Old child) (with_id (text field.NewId s) object) ∷ [])

unfoldable pub written : Writes → Row → ℕ → Object → List Field → Objects ManageRefusal (List Written)
written (Itself new) row o object form = settled (became row new object form) >>= λ object. Done (whole (Name.Old o) object ∷ [])
written (Adds id title part) row o object form = depth_of o >>= λ depth.
    settled (wanted id title part row (record { object = object; form = form; depth = depth })) >>= λ child. Done (added o object child)
written Renames row o object form = settled (judged row (situation object form) (Ok (tt {0}))) >>= λ passed.
    renamed_child o (situation object form) (child_of (text field.Id (situation object form)) (children (situation object form)))

-- ---- the change

abbrev pub by_row : Option Row → Call → ℕ → Object → List Field → Objects ManageRefusal (List Written)
by_row None c o object form = Stops (refusals.NotFound c)
by_row (Some row) c o object form = written row.writes row o object form

abbrev pub change_by : Option Row → Call → ℕ → Object → List Field → Objects ManageRefusal Change
change_by found c o object form = by_row found c o object form >>= λ ws. Done (change_of ws)

abbrev pub by_call : Call → ℕ → Object → List Field → Objects ManageRefusal (List Written)
by_call c o object form = by_row (row_of c (kind_of object.part)) c o object form

-- where a row writes the object alone, what it becomes
abbrev pub IsItself : Writes → Type 0
IsItself (Itself new) = Unit {0}
IsItself (Adds id title part) = ⊥
IsItself Renames = ⊥

abbrev pub WritesItself : Call → Type 0
WritesItself c = AllByRecursion (λ (r : Row). IsItself r.writes) (table c)

abbrev pub itself_by : Writes → Row → Call → Object → List Field → Checked Object
itself_by (Itself new) row c object form = became row new object form
itself_by (Adds id title part) row c object form = Err (refusals.NotFound c)
itself_by Renames row c object form = Err (refusals.NotFound c)

abbrev pub itself : Option Row → Call → Object → List Field → Checked Object
itself None c object form = Err (refusals.NotFound c)
itself (Some row) c object form = itself_by row.writes row c object form

abbrev pub itself_written : Option Row → Call → ℕ → Object → List Field → Checked Change
itself_written found c o object form = tests.◌>>=◌ (itself found c object form) (λ new. Ok (change_of (whole (Name.Old o) new ∷ [])))

-- where a row adds a child, the child, and what is written
abbrev pub page_part : Page → List ℕ → Part2
page_part pages.Method source = parts.Method source []
page_part pages.Document source = parts.Document source []

abbrev pub wanted_by : Writes → Row → Call → Situation → Checked NewChild
wanted_by (Itself new) row c s = Err (refusals.NotFound c)
wanted_by (Adds id title part) row c s = wanted id title part row s
wanted_by Renames row c s = Err (refusals.NotFound c)

abbrev pub child_wanted : Option Row → Call → Situation → Checked NewChild
child_wanted None c s = Err (refusals.NotFound c)
child_wanted (Some row) c s = wanted_by row.writes row c s

abbrev pub child_added : Option Row → Call → ℕ → Situation → Checked Change
child_added found c o s = tests.◌>>=◌ (child_wanted found c s) (λ child. Ok (change_of (added o s.object child)))

abbrev pub AddsChild : Writes → Type 0
AddsChild (Itself new) = ⊥
AddsChild (Adds id title part) = Unit {0}
AddsChild Renames = ⊥

abbrev pub IsAdding : Option Row → Type 0
IsAdding None = ⊥
IsAdding (Some row) = AddsChild row.writes

-- why code knows no depth
abbrev pub no_depth : AqRefusal → ManageRefusal
no_depth aq.Memory = refusals.Memory
no_depth (aq.Need o) = refusals.Need (Ask.Object o)
no_depth (aq.Broken o) = refusals.Broken o
no_depth aq.TooDeep = refusals.TooDeep

-- where a child is renamed, what is written
abbrev pub child_renamed : ℕ → Situation → Option ℕ → Objects ManageRefusal Change
child_renamed o s found = renamed_child o s found >>= λ ws. Done (change_of ws)

-- what the call writes on an object
abbrev pub changed : Call → ℕ → Object → List Field → Objects ManageRefusal Change
changed c o object form = by_call c o object form >>= λ ws. Done (change_of ws)

-- what the call writes
unfoldable pub writes : Call → ℕ → List Field → Objects ManageRefusal (List Written)
writes c o form = here o >>= λ object. by_call c o object form

-- ---- what a call comes to

abbrev pub written_by : Objects ManageRefusal Change → Objects ManageRefusal Called
written_by q = q >>= λ change. Done (called.Writes change)

abbrev pub undoes : List Field → Checked Called
undoes form = tests.◌>>=◌ (undone_id form) (λ t. Ok (called.Undoes t))

-- the two calls on the history say what is asked of it, and all others what they write
abbrev pub called_by : Call → ℕ → Object → List Field → Objects ManageRefusal Called
called_by call.UndoTransactions o object form = settled (undoes form)
called_by call.ListTransactions o object form = Done called.Lists
called_by c o object form = written_by (changed c o object form)

-- what a call on an object comes to, by the fields of its form
unfoldable pub change : Call → ℕ → List Field → Objects ManageRefusal Called
change c o form = here o >>= λ object. called_by c o object form

-- each object that is here keeps the rules of objects
abbrev pub KeepRules : (ℕ → Option (Seen Object)) → Type 0
KeepRules known = (o : ℕ) (object : Object) → known o ≡ Some (Here object) → IsObject object
