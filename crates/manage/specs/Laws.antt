-- What is true of every call and every change.
use Rattle.std.specs.Prelude.{ℕ, true, ◌≡◌, ◌≢◌, ◌+◌, ◌≤◌, ◌<◌, ◌^◌, List, [], ◌∷◌, length, map, Option, Some, Ok}
use Rattle.std.specs.List.{AllByRecursion}
use Rattle.zbase.specs.History.{History, Value}
use Rattle.zbase.specs.Query.{run}
use Rattle.zbase.specs.Values.{next}
use Rattle.zobject.specs.declared.object.Object.{Object}
use Rattle.zobject.specs.declared.version.Kind.{Kind}
use Rattle.zobject.specs.declared.version.Version.TheVariants.{Second}
use Rattle.zobject.specs.Changes.{new_object, with_id}
use Rattle.zobject.specs.Folders.{child_of}
use Rattle.zobject.specs.Rules.{IsObject, kind_of}
use Rattle.zcodec.specs.Record.{record_text}
use Rattle.zknown.specs.Seen.{Seen, Here}
use Rattle.evaluator.specs.declared.ask.Ask.{Ask}
use Rattle.evaluator.specs.declared.draft.Hole.{Hole}
use Rattle.evaluator.specs.declared.draft.Name.{Name}
use Rattle.evaluator.specs.declared.fact.Fact.{Fact}
use Rattle.evaluator.specs.Change.{HasKnownValue, IsChange, IsPermission, longest_text}
use Rattle.evaluator.specs.Settle.{oid_of, record_of}
use Rattle.form_fields.specs.declared.field.Field.{Field}
use Rattle.http_in.specs.declared.message.Verb.{Verb}
use Rattle.manage.specs.declared.call.Call.{Call}
use Rattle.manage.specs.declared.changes.Called.TheVariants as called
use Rattle.manage.specs.declared.changes.Change.{Change}
use Rattle.manage.specs.declared.refusal.FieldName.TheVariants.{Id, NewId}
use Rattle.manage.specs.Becoming.{Situation, children, text, with_renamed}
use Rattle.manage.specs.Changing.{change, judged, writes}
use Rattle.manage.specs.Fields.{Test}
use Rattle.manage.specs.Table.{Adds, Itself, Renames, Row, Writes, permission_for}
use Rattle.manage.specs.Written.{Written, change_of, with_child}

-- a call needs one of the permissions
abbrev pub AreNumbered : Type 0
AreNumbered = (c : Call) (verb : Verb) (o : ℕ) (kind : Kind) (permission : ℕ) → permission_for c verb o kind ≡ Some permission → IsPermission permission

-- The record of an object that is written, once the transaction has its ids: the object's own.
abbrev pub settled_row : History → Written → ℕ × Value
settled_row h w = (oid_of h w.name, Some (record_text Second (w.object (next h))))

-- What a call writes is settled to the records of the objects that the table has, over each history, so that the ids of new
-- objects stand where the objects have them.
abbrev pub SettlesRightly : Type 0
SettlesRightly = (known : ℕ → Option (Seen Object)) (c : Call) (o : ℕ) (form : List Field) (ws : List Written) (h : History) →
    run known (writes c o form) ≡ Ok ws → next h < 2 ^ 64 → map (record_of h) (change_of ws).entries ≡ map (settled_row h) ws

-- ---- the rules of objects

-- What is written in a situation keeps the rules of objects.
abbrev pub Rightly : Writes → ℕ → Situation → Type 0
Rightly (Itself new) o s = IsObject (new s)
Rightly (Adds id title part) o s = ((first : ℕ) → first < 2 ^ 64 → IsObject (with_child s.object (children s) (id s) first)) × IsObject (new_object (id s) o (title s) (part s))
Rightly Renames o s = ((child : ℕ) → child_of (text Id s) (children s) ≡ Some child → IsObject (with_renamed child s)) × ((object : Object) → IsObject object → IsObject (with_id (text NewId s) object))

-- What a row refuses for nothing keeps them, where the object called on does and is of a kind that the row names.
abbrev pub IsRightRow : Row → Type 0
IsRightRow row = (s : Situation) (o : ℕ) → IsObject s.object → row.kinds (kind_of s.object.part) ≡ true → o < 2 ^ 64
    → ◌≡◌ {A = Test} (judged row s (Ok tt)) (Ok tt) → Rightly row.writes o s

-- ---- the rules of a change

-- An object that is named by its id is here, and there is one new object at most.
abbrev pub IsHereName : (ℕ → Option (Seen Object)) → Name → Type 0
IsHereName known (Name.Old o) = (object : Object) × (known o ≡ Some (Here object))
IsHereName known (Name.New k) = k ≡ 0

-- Holes lie within the record, and are for that object.
abbrev pub HolesFit : Written → Type 0
HolesFit w = AllByRecursion (λ (hole : Hole). (hole.at + 8 ≤ length (record_text Second (w.object 0))) × (hole.new ≡ 0)) w.holes × (length w.holes ≤ 1)

-- No two are about the same object.
abbrev pub AreApart : List Written → Type 0
AreApart [] = Unit {0}
AreApart (w ∷ ws) = AllByRecursion (λ (v : Written). w.name ≢ v.name) ws × AreApart ws

pub record AreLawful (known : ℕ → Option (Seen Object)) (ws : List Written) : Type 0 where
  pub here : AllByRecursion (λ (w : Written). IsHereName known w.name) ws
  pub holes : AllByRecursion HolesFit ws
  pub apart : AreApart ws

abbrev pub WritesLawfully : Type 0
WritesLawfully = (known : ℕ → Option (Seen Object)) (c : Call) (o : ℕ) (form : List Field) (ws : List Written) → run known (writes c o form) ≡ Ok ws → AreLawful known ws

-- Each object that is here has a value in a known fact.
abbrev pub KnowsValues : (Ask → Option Fact) → (ℕ → Option (Seen Object)) → Type 0
KnowsValues facts known = (o : ℕ) (object : Object) → known o ≡ Some (Here object) → HasKnownValue facts o

-- What a call changes keeps the rules of a change, whoever makes it.
abbrev pub ChangesAreLawful : Type 0
ChangesAreLawful = (facts : Ask → Option Fact) (known : ℕ → Option (Seen Object)) → KnowsValues facts known → (c : Call) (o : ℕ) (form : List Field) (done : Change) → run known (change c o form) ≡ Ok (called.Writes done)
    → (user description : List ℕ) → length user ≤ longest_text → length description ≤ longest_text → IsChange facts (record { user = user; description = description; entries = done.entries })
