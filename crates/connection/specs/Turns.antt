-- What a turn makes of an attempt.
use Rattle.std.specs.Prelude.{ℕ, ◌≡◌, List, [], ◌∷◌, ◌++◌, Some, None}
use Rattle.zbase.specs.Values.{upto}
use Rattle.evaluator.specs.declared.ask.Ask.{Ask}
use Rattle.evaluator.specs.declared.draft.Draft.{Draft}
use Rattle.evaluator.specs.declared.fact.Fact.{Fact}
use Rattle.evaluator.specs.declared.outcome.Outcome.{Outcome}
use Rattle.evaluator.specs.declared.reply.Reply.{Reply}
use Rattle.evaluator.specs.Exec.{Eval}
use Rattle.evaluator.specs.Facts.{ask_of, fact, look}
use Rattle.schedule.specs.Moments.{Attempt}
use Rattle.connection.specs.declared.turned.Turned.{Turned}
use Rattle.fs_store.specs.Stores.{IsTold, Settles, StoreView}
use Rattle.connection.specs.States.{ActiveView, AreSeen}

-- the fact answers the ask, as the store's history up to a transaction gives it, where the store tells
abbrev pub IsFactOf : StoreView → ℕ → Ask → Fact → Type 0
IsFactOf s at ask found = (ask_of found ≡ ask) × (IsTold s → found ≡ fact (upto s.history at) ask)

-- one fact more is known, which answers the ask
abbrev pub Learns : StoreView → ℕ → Ask → List Fact → List Fact → Type 0
Learns s at ask old new = (found : Fact) × IsFactOf s at ask found × (new ≡ old ++ found ∷ [])

-- the attempt that knows these facts
abbrev pub knowing : {R : Type 0} → Attempt R → List Fact → Attempt R
knowing a facts = record { request = a.request; clashes = a.clashes; snapshot = a.snapshot; facts = facts }

-- what the evaluation of an attempt comes to, over what it knows
abbrev pub comes_to : {R : Type 0} → Eval R → Attempt R → Outcome
comes_to eval a = eval (look a.facts) a.request

-- one evaluation of an attempt over a store: a fact was fetched, the answer was given, or the change is ready
abbrev pub IsTurn : {E R S : Type 0} → Eval R → StoreView → ActiveView R → Turned E R S → Type 0
IsTurn eval s a (Turned.Fetched new ask) = (comes_to eval a.attempt ≡ Outcome.Need ask) × Learns s a.attempt.snapshot ask a.attempt.facts new.attempt.facts × (new.attempt ≡ knowing a.attempt new.attempt.facts) × (new.ready ≡ None)
IsTurn eval s a (Turned.Answered x t) = (comes_to eval a.attempt ≡ Outcome.Answer x) × (t ≡ a.attempt.snapshot)
IsTurn eval s a (Turned.Ready new) = (x : Reply) × (d : Draft) × (comes_to eval a.attempt ≡ Outcome.Change x d) × (new ≡ record { attempt = a.attempt; reads = a.reads; ready = Some (x, d) })

-- what the attempt has read is right of the store
abbrev pub ReadsStand : {E R S : Type 0} → StoreView → Turned E R S → Type 0
ReadsStand s (Turned.Fetched new ask) = AreSeen s new.reads
ReadsStand s (Turned.Answered x t) = Unit {0}
ReadsStand s (Turned.Ready new) = AreSeen s new.reads

-- What a turn makes of the store: it is opened again where a fact was fetched from a stale one, and else left alone.
abbrev pub TurnsStore : {E R S : Type 0} → StoreView → StoreView → Turned E R S → Type 0
TurnsStore old new (Turned.Fetched a ask) = IsTold old → Settles old new
TurnsStore old new (Turned.Answered x t) = new ≡ old
TurnsStore old new (Turned.Ready a) = new ≡ old
