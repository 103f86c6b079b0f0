-- What the slots of a core stand for.
use Rattle.std.specs.Prelude.{ℕ, ◌≡◌, ◌≤◌, ◌⊎◌, Bool, false, true, List, [], map, length, slice_get, slice_set, Option, Some, None}
use Rattle.zbase.specs.Faults.{Counter, Counts}
use Rattle.zbase.specs.Values.{last, upto}
use Rattle.zdisk.specs.Disk.{Told}
use Rattle.evaluator.specs.declared.draft.Draft.{Draft}
use Rattle.evaluator.specs.declared.outcome.Outcome.{Outcome}
use Rattle.evaluator.specs.declared.reply.Kind.{Kind}
use Rattle.evaluator.specs.declared.reply.Reply.{Reply}
use Rattle.evaluator.specs.Exec.{Eval}
use Rattle.evaluator.specs.Facts.{TrueOf, ask_of}
use Rattle.schedule.specs.Moments.{Terms, Attempt, Doing, Free, Waiting, Asking, Computed, Vote, Moment, clocked}
use Rattle.schedule.specs.Stepping.{Steps}
use Rattle.fs_store.specs.Stores.{IsTold, IsVoteOf, Out, StoreView, settled, staled, voting}
use Rattle.schedule.specs.Asks.{asks_at}
use Rattle.connection.specs.States.{ActiveView, AreSeen, PendingView, clashes_of}
use Rattle.connection.specs.Telling.{TellsOn}
use Rattle.connection.specs.Turns.{comes_to}
use Rattle.connection.specs.Votes.{IsHeldBy}
use Rattle.txn_core.specs.declared.slot.Slot.{Slot}
use Rattle.txn_core.specs.declared.step_line.StepLine.{StepLine}
use Rattle.txn_core.specs.Counting.{EndsVote, Lowers, Paces, left_of}
use Rattle.txn_core.specs.Passing.{Passes}
use Rattle.txn_core.specs.StepLines.{step_lines}

abbrev pub no_draft : Draft
no_draft = record { user = []; description = []; entries = [] }

abbrev pub no_reply : Reply
no_reply = record { status = 0; kind = Kind.Plain; head_only = false; body = []; shown = []; denied = None }

-- the draft of a change
abbrev pub draft_of : Outcome → Draft
draft_of (Outcome.Need ask) = no_draft
draft_of (Outcome.Answer x) = no_draft
draft_of (Outcome.Change x d) = d

abbrev pub computed_of : {R : Type 0} → Attempt R → Option (Reply × Draft) → Doing R
computed_of a None = Asking a
computed_of a (Some (x, d)) = Computed a x d

-- what a slot's worker is doing; a change that has voted is the one that its facts give
abbrev pub doing_of : {E R S : Type 0} → Eval R → Slot E R S → Doing R
doing_of eval Slot.Idle = Free
doing_of eval (Slot.Fresh f) = Waiting f.request (clashes_of f.conflicts)
doing_of eval (Slot.Active a) = Asking a.attempt
doing_of eval (Slot.Computed a) = computed_of a.attempt a.ready
doing_of eval (Slot.Pending p) = Computed p.attempt p.reply (draft_of (comes_to eval p.attempt))

-- the reply that waits in a slot
abbrev pub reply_at : {E R S : Type 0} → Option (Slot E R S) → Reply
reply_at None = no_reply
reply_at (Some Slot.Idle) = no_reply
reply_at (Some (Slot.Fresh f)) = no_reply
reply_at (Some (Slot.Active a)) = no_reply
reply_at (Some (Slot.Computed a)) = no_reply
reply_at (Some (Slot.Pending p)) = p.reply

-- the vote that is out, with the reply of its holder
abbrev pub vote_of : {E R S : Type 0} → List (Slot E R S) → Option Out → Option Vote
vote_of slots None = None
vote_of slots (Some o) = Some (record { holder = o.holder; reply = reply_at (slice_get slots o.holder); transaction = o.transaction; size = o.size })

-- the moment of a store and its workers, the clock aside
abbrev pub moment_of : {E R S : Type 0} → Eval R → StoreView → List (Slot E R S) → Moment R
moment_of eval store slots = record { standing = store.history; end = store.end; clock = 0; vote = vote_of slots store.out; workers = map (doing_of eval) slots }

-- what an attempt has fetched is true of the history up to its snapshot, a part of the store's
pub record FactsStand {R : Type 0} (store : StoreView) (a : Attempt R) : Type 0 where
  pub below : a.snapshot ≤ last store.history
  pub facts : TrueOf a.facts (upto store.history a.snapshot)

-- an attempt that is decided has fetched all that its evaluation asks for at its snapshot, and nothing else
pub record AsksStand {R : Type 0} (eval : Eval R) (store : StoreView) (a : Attempt R) : Type 0 where
  pub below : a.snapshot ≤ last store.history
  pub asks : map ask_of a.facts ≡ asks_at eval (upto store.history a.snapshot) a.request

-- an attempt under way: it isn't ready, what it read was read so, and its facts are true where the store tells
abbrev pub ActiveStands : {R : Type 0} → StoreView → ActiveView R → Type 0
ActiveStands store a = (a.ready ≡ None) × AreSeen store a.reads × (IsTold store → FactsStand store a.attempt)

-- the change that is ready is the one that its facts give, and what its attempt read was read so
abbrev pub ComputedStands : {R : Type 0} → Eval R → StoreView → ActiveView R → Type 0
ComputedStands eval store a = (x : Reply) × (d : Draft) × (a.ready ≡ Some (x, d)) × (comes_to eval a.attempt ≡ Outcome.Change x d) × AreSeen store a.reads × (IsTold store → AsksStand eval store a.attempt)

-- the worker holds the vote that is out
abbrev pub PendingStands : {R : Type 0} → StoreView → ℕ → PendingView R → Type 0
PendingStands store w p = (o : Out) × (store.out ≡ Some o) × (o.holder ≡ w) × (o.transaction.tid ≡ p.tid)

-- what has voted is the change that its facts give
abbrev pub ChangeStands : {R : Type 0} → Eval R → StoreView → PendingView R → Type 0
ChangeStands eval store p = (d : Draft) × (comes_to eval p.attempt ≡ Outcome.Change p.reply d) × (IsTold store → AsksStand eval store p.attempt)

-- what is true of a worker's slot, whatever the others do
abbrev pub SlotStands : {E R S : Type 0} → Eval R → StoreView → ℕ → Slot E R S → Type 0
SlotStands eval store w Slot.Idle = Unit {0}
SlotStands eval store w (Slot.Fresh f) = Unit {0}
SlotStands eval store w (Slot.Active a) = ActiveStands store a
SlotStands eval store w (Slot.Computed a) = ComputedStands eval store a
SlotStands eval store w (Slot.Pending p) = PendingStands store w p × ChangeStands eval store p

-- A store that may stand behind this one: itself, or with the transaction whose finish failed, which it takes in when
-- it is opened again.
abbrev pub Possible : StoreView → StoreView → Type 0
Possible store may = (may ≡ store) ⊎ ((o : Out) × (store.undecided ≡ Some o) × (may ≡ settled store (Some o) store.disk))

-- the vote that is out has its worker
abbrev pub HasVoter : {E R S : Type 0} → StoreView → List (Slot E R S) → Type 0
HasVoter {E} {R} {S} store slots = (o : Out) → store.out ≡ Some o → (p : PendingView R) × (slice_get slots o.holder ≡ Some (Slot.Pending p))

-- Sixteen slots, each of which stands, and the vote that is out has its worker. This is so whether the store tells or not.
pub record CoreStands {E R S : Type 0} (eval : Eval R) (store : StoreView) (slots : List (Slot E R S)) : Type 0 where
  pub count : length slots ≡ 16
  pub each : (v : ℕ) (s : Slot E R S) → slice_get slots v ≡ Some s → SlotStands eval store v s
  pub voter : HasVoter store slots

-- the worker waits for the vote that is out
abbrev pub Waits : StoreView → StepLine → Type 0
Waits store (StepLine.Busy v) = IsHeldBy store v
Waits store _ = Unit {0}

abbrev pub HasAll : {E R S : Type 0} → Eval R → StoreView → Slot E R S → Type 0
HasAll eval store (Slot.Active a) = AsksStand eval store a.attempt
HasAll eval store (Slot.Pending p) = AsksStand eval store p.attempt
HasAll eval store _ = ⊥

-- a reply rests on all that the evaluation of its request asks for at the attempt's snapshot, and on nothing else
abbrev pub RestsOn : {E R S : Type 0} → Eval R → StoreView → StepLine → Slot E R S → Type 0
RestsOn eval store (StepLine.Read x t) slot = HasAll eval store slot
RestsOn eval store (StepLine.Commit x t) slot = HasAll eval store slot
RestsOn eval store _ slot = Unit {0}

-- Whatever the other slots are, whichever store may stand behind the new one: that a worker's slot becomes the next is a
-- step of the table, from a moment of a store that might have stood behind the old one.
abbrev pub Moves : {E R S : Type 0} → Eval R → ℕ → ℕ → StoreView → StoreView → Slot E R S → Slot E R S → StepLine → Type 0
Moves {E} {R} {S} eval w now old new slot next line = (sl : List (Slot E R S)) → slice_get sl w ≡ Some slot → HasVoter old sl → (terms : Terms R) → terms.eval ≡ eval → terms.limit ≡ old.limit → (may : StoreView) → Possible new may
    → (was : StoreView) × Possible old was × Steps terms (clocked (moment_of eval was sl) now) w (step_lines terms.answer w line) (clocked (moment_of eval may (slice_set sl w next)) now)

-- A worker's slot becomes the next, as the answer says: all slots keep standing, the worker's number is lowered, and where the
-- store tells, that is a step of the table.
pub record Advances {E R S : Type 0} (eval : Eval R) (w now : ℕ) (old new : StoreView) (slot next : Slot E R S) (line : StepLine) : Type 0 where
  pub passes : Passes eval line slot next
  pub lowers : Lowers line (left_of slot) (left_of next)
  pub ends : EndsVote line slot next
  pub paces : Paces line slot next
  pub waits : Waits old line
  pub asked : IsTold old → RestsOn eval old line slot
  pub stands : (sl : List (Slot E R S)) → slice_get sl w ≡ Some slot → CoreStands eval old sl → CoreStands eval new (slice_set sl w next)
  pub moves : IsTold old → Moves eval w now old new slot next line

-- a slot can be ended: what it has voted for is the store's vote
abbrev pub CanEnd : {E R S : Type 0} → StoreView → Slot E R S → Type 0
CanEnd store Slot.Idle = Unit {0}
CanEnd store (Slot.Fresh f) = Unit {0}
CanEnd store (Slot.Active a) = Unit {0}
CanEnd store (Slot.Computed a) = Unit {0}
CanEnd store (Slot.Pending p) = IsVoteOf store p.tid

-- the store after it: a vote that was out is gone, and where the disk failed in that, the store is stale
abbrev pub Ended : {E R S : Type 0} → StoreView → Slot E R S → Bool → StoreView → Type 0
Ended old (Slot.Pending p) true new = new ≡ staled old new.disk
Ended old (Slot.Pending p) false new = new ≡ voting old None new.disk
Ended old Slot.Idle fault new = (fault ≡ false) × (new ≡ old)
Ended old (Slot.Fresh f) fault new = (fault ≡ false) × (new ≡ old)
Ended old (Slot.Active a) fault new = (fault ≡ false) × (new ≡ old)
Ended old (Slot.Computed a) fault new = (fault ≡ false) × (new ≡ old)

-- The store once all slots are ended: as it was, or without the vote that was out. Where the disk failed in that, the
-- store is stale.
abbrev pub Closes : StoreView → Bool → StoreView → Type 0
Closes old true new = new ≡ staled old new.disk
Closes old false new = (new ≡ old) ⊎ (new ≡ voting old None new.disk)

-- What is left of a disk once all slots are ended: what it told it tells still, and its count rose where it failed in that.
pub record IsLeft (old : StoreView) (told : Option Told) (counter : Counter) : Type 0 where
  pub fault : Bool
  pub closed : StoreView
  pub closes : Closes old fault closed
  pub told_is : told ≡ closed.disk.told
  pub counter_is : counter ≡ closed.disk.counter
  pub tells : TellsOn old.disk.told told
  pub counts : Counts old.disk.counter counter (fault ≡ true)

-- the slots that are left while a core is closed: the vote that is out has its slot among them
pub record Closing {E R S : Type 0} (store : StoreView) (slots : List (Slot E R S)) : Type 0 where
  pub each : (v : ℕ) (p : PendingView R) → slice_get slots v ≡ Some (Slot.Pending p) → PendingStands store v p
  pub voter : HasVoter store slots
