-- What is asked of an object on which a call is named, before a user is looked for: whether it is a call there, and which
-- permission it needs.
use Rattle.std.specs.Prelude.{ℕ, Option, Some, None}
use Rattle.zbase.specs.Query.{Query, Done, Stops, Asks, Halt, Need, Cause, ◌>>=◌}
use Rattle.zobject.specs.declared.version.Kind.{Kind}
use Rattle.zobject.specs.declared.version.Kind.TheVariants as kind
use Rattle.zobject.specs.Shapes.{Form}
use Rattle.zobject.specs.Shapes as form
use Rattle.zknown.specs.Seen.{Seen, Here, Absent, Unreadable, Shapes}
use Rattle.evaluator.specs.declared.ask.Ask.{Ask}
use Rattle.http_in.specs.declared.message.Verb.{Verb}
use Rattle.manage.specs.declared.call.Call.{Call}
use Rattle.manage.specs.declared.refusal.ManageRefusal.{ManageRefusal}
use Rattle.manage.specs.declared.refusal.ManageRefusal.TheVariants as refusals
use Rattle.manage.specs.Table.{permission_for}

-- ---- the object called on

abbrev pub present : {A : Type 0} → ℕ → Seen A → Query ℕ (Seen A) ManageRefusal A
present o (Here x) = Done x
present o Absent = Stops (refusals.Broken o)
present o Unreadable = Stops (refusals.Broken o)

-- the object, which must be there
abbrev pub here : {A : Type 0} → ℕ → Query ℕ (Seen A) ManageRefusal A
here o = Asks o (λ seen. present o seen)

-- ---- whether it is a call there

abbrev pub kind_of : Form → Kind
kind_of (form.Folder children) = kind.Folder
kind_of (form.Method proxy) = kind.Method
kind_of (form.Document proxy) = kind.Document
kind_of (form.UserFolder users) = kind.UserFolder

abbrev pub if_lawful : Call → Option ℕ → Shapes ManageRefusal ℕ
if_lawful c None = Stops (refusals.NotFound c)
if_lawful c (Some permission) = Done permission

-- the permission that a call needs on an object
unfoldable pub permission_at : Call → Verb → ℕ → Shapes ManageRefusal ℕ
permission_at c verb o = here o >>= λ object. if_lawful c (permission_for c verb o (kind_of object.form))

-- ---- what code gave

abbrev pub told : ManageRefusal → Option (Halt Ask ManageRefusal)
told refusals.Memory = None
told (refusals.Need ask) = Some (Need ask)
told refusal = Some (Cause refusal)
