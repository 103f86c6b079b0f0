-- What undoes a transaction: each of its objects goes back to the value that it had before, where it still has the value
-- that the transaction gave it. Nothing is merged.
--
-- ZODB Programming Guide: undo. FileStorage writes a back pointer to what is put back.
use Rattle.std.specs.Prelude.{ℕ, ◌≡◌, ◌==◌, is_some, take, Bool, true, false, List, [], ◌∷◌, ◌++◌, map, Option, Some, None, Result, Ok, Err, if◌then◌else◌}
use Rattle.std.specs.List.{list_any}
use Rattle.std.specs.Option.{option_and_then}
use Rattle.std.specs.Str.{bytes_eq}
use Rattle.zbase.specs.History.{Value}
use Rattle.zbase.specs.Query.{Query, Done, Stops, Asks, Grows, Halt, Need, Cause, ◌>>=◌}
use Rattle.evaluator.specs.declared.ask.Ask.{Ask}
use Rattle.evaluator.specs.declared.draft.Entry.{Entry}
use Rattle.evaluator.specs.declared.fact.Fact.{Fact}
use Rattle.evaluator.specs.declared.fact.Part.{Part}
use Rattle.fs_undo.specs.declared.planning.Present.{Present}
use Rattle.fs_undo.specs.declared.planning.Restore.{Restore}
use Rattle.fs_undo.specs.declared.planning.UndoRefusal.{UndoRefusal}
use Rattle.fs_undo.specs.declared.planning.UndoRefusal.TheVariants as refusals
use Rattle.fs_undo.specs.declared.undoing.UndoHalt.{UndoHalt}
use Rattle.fs_undo.specs.declared.undoing.UndoHalt.TheVariants as halts

-- ---- the plan

abbrev pub same_value : Value → Value → Bool
same_value None None = true
same_value None (Some b) = false
same_value (Some a) None = false
same_value (Some a) (Some b) = bytes_eq a b

-- the first part whose object has another value now than the transaction gave it
abbrev pub first_changed : List Part → List Value → Option ℕ
first_changed [] values = None
first_changed (p ∷ ps) [] = None
first_changed (p ∷ ps) (v ∷ vs) = if same_value p.after v then first_changed ps vs else Some p.oid

abbrev pub restore_of : Part → Restore
restore_of p = record { oid = p.oid; to = p.before_serial }

abbrev pub by_changed : List Part → Option ℕ → Result (List Restore) ℕ
by_changed parts None = Ok (map restore_of parts)
by_changed parts (Some oid) = Err oid

-- what is put back, by the parts of the transaction and the present values of their objects; or the first object that has
-- changed since
abbrev pub undone : List Part → List Value → Result (List Restore) ℕ
undone parts values = by_changed parts (first_changed parts values)

-- ---- what code gave

abbrev pub values_of : List Present → List Value
values_of rows = map (λ r. r.value) rows

abbrev pub Plans : Result (List Restore) UndoRefusal → Result (List Restore) ℕ → Type 0
Plans (Ok restores) r = r ≡ Ok restores
Plans (Err (refusals.Changed oid)) r = r ≡ Err oid
Plans (Err refusals.Memory) r = Unit {0}

-- ---- what is written

-- an entry, unless there was one of the object
abbrev pub entry_of : Bool → Restore → List Entry
entry_of true r = []
entry_of false r = Entry.Restore r.oid r.to ∷ []

abbrev pub is_among : ℕ → List Restore → Bool
is_among o restores = list_any (λ r. r.oid == o) restores

-- One entry a restore. No history has two parts of one transaction for an object; of such ones the first counts.
abbrev pub entries_behind : List Restore → List Restore → List Entry
entries_behind earlier [] = []
entries_behind earlier (r ∷ rs) = entry_of (is_among r.oid earlier) r ++ entries_behind (earlier ++ r ∷ []) rs

abbrev pub entries_of : List Restore → List Entry
entries_of restores = entries_behind [] restores

-- ---- the question

-- why nothing is undone
pub data Fault : Type 0 where
  -- no transaction that can be undone has this id
  NoTransaction : ℕ → Fault
  -- the object has another value now than the transaction gave it
  Changed : ℕ → Fault

abbrev pub value_told : Fact → Value
value_told (Fact.Object o v s) = v
value_told (Fact.Transaction t ps) = None
value_told (Fact.Log rows) = None

abbrev pub parts_told : Fact → Option (List Part)
parts_told (Fact.Object o v s) = None
parts_told (Fact.Transaction t ps) = ps
parts_told (Fact.Log rows) = None

-- the present value of each part's object, in the order of the parts, behind those that were found
unfoldable pub present : List Value → List Part → Query Ask Fact Fault (List Value)
present found [] = Done found
present found (p ∷ ps) = Asks (Ask.Object p.oid) (λ f. present (found ++ value_told f ∷ []) ps)

abbrev pub planned : Result (List Restore) ℕ → Query Ask Fact Fault (List Entry)
planned (Ok restores) = Done (entries_of restores)
planned (Err oid) = Stops (Changed oid)

-- all present values are asked for before the first is compared
unfoldable pub undo_parts : ℕ → Option (List Part) → Query Ask Fact Fault (List Entry)
undo_parts t None = Stops (NoTransaction t)
undo_parts t (Some parts) = present [] parts >>= λ values. planned (undone parts values)

-- the entries that undo a transaction
unfoldable pub undo : ℕ → Query Ask Fact Fault (List Entry)
undo t = Asks (Ask.Transaction t) (λ f. undo_parts t (parts_told f))

-- ---- what is known of the present values

-- the value that a fact has of an object
abbrev pub object_value : Fact → Option Value
object_value (Fact.Object o v s) = Some v
object_value (Fact.Transaction t ps) = None
object_value (Fact.Log rows) = None

abbrev pub value_known : (Ask → Option Fact) → ℕ → Option Value
value_known known o = option_and_then object_value (known (Ask.Object o))

-- the first object of the parts that isn't known
abbrev pub first_unknown : (Ask → Option Fact) → List Part → Option ℕ
first_unknown known [] = None
first_unknown known (p ∷ ps) = if is_some (value_known known p.oid) then first_unknown known ps else Some p.oid

-- The objects of so many of the transaction's parts are known, wherever more is known than here. Before the transaction is
-- known itself, it has none of them.
abbrev pub IsFar : ℕ → (Ask → Option Fact) → ℕ → Type 0
IsFar t known n =
    (later : Ask → Option Fact) (u : ℕ) (parts : List Part) → Grows known later → later (Ask.Transaction t) ≡ Some (Fact.Transaction u (Some parts)) →
    first_unknown later (take n parts) ≡ None

abbrev pub or_none : Option Value → Value
or_none None = None
or_none (Some value) = value

abbrev pub value_now : (Ask → Option Fact) → Part → Value
value_now known p = or_none (value_known known p.oid)

-- ---- what code gave

abbrev pub told : UndoHalt → Option (Halt Ask Fault)
told halts.Memory = None
told (halts.Need ask) = Some (Need ask)
told (halts.NoTransaction t) = Some (Cause (NoTransaction t))
told (halts.Changed oid) = Some (Cause (Changed oid))

abbrev pub halt_of : UndoRefusal → UndoHalt
halt_of refusals.Memory = halts.Memory
halt_of (refusals.Changed oid) = halts.Changed oid
