-- In which order the answers of a worker come: what each answer makes of the worker's slot, whatever the disk tells.
use Rattle.std.specs.Prelude.{◌≡◌, ◌<◌, [], ◌∷◌, ◌++◌, length, Some}
use Rattle.zbase.specs.declared.ids.Clash.{Clash}
use Rattle.evaluator.specs.declared.draft.Draft.{Draft}
use Rattle.evaluator.specs.declared.fact.Fact.{Fact}
use Rattle.evaluator.specs.declared.outcome.Outcome.{Outcome}
use Rattle.evaluator.specs.declared.reply.Reply.{Reply}
use Rattle.evaluator.specs.Exec.{Eval}
use Rattle.evaluator.specs.Facts.{ask_of}
use Rattle.connection.specs.States.{ActiveView, FreshView, PendingView, begun, clashes_of}
use Rattle.connection.specs.Turns.{comes_to, knowing}
use Rattle.txn_core.specs.declared.slot.Slot.{Slot}
use Rattle.txn_core.specs.declared.step_line.StepLine.{StepLine}

-- the worker has a request, and hasn't voted
abbrev pub HasUnvoted : {E R S : Type 0} → Slot E R S → Type 0
HasUnvoted Slot.Idle = ⊥
HasUnvoted (Slot.Fresh f) = Unit {0}
HasUnvoted (Slot.Active a) = Unit {0}
HasUnvoted (Slot.Computed a) = Unit {0}
HasUnvoted (Slot.Pending p) = ⊥

-- The worker passes by this answer from one slot to the next: a request begins an attempt, which fetches what its evaluation
-- needs, one fact by one, until that answers, which ends the request, or has a change; the change waits for another's vote,
-- meets a conflict, by which the request begins anew or is given up at the fourth, is refused, or votes; and what has voted
-- commits, or its outcome isn't known. A fault and want of memory end a request that hasn't voted.
abbrev pub Passes : {E R S : Type 0} → Eval R → StepLine → Slot E R S → Slot E R S → Type 0
Passes eval StepLine.Idle old next = (old ≡ Slot.Idle) × (next ≡ Slot.Idle)
Passes {R = R} eval (StepLine.Begun t) old next = (f : FreshView R) × (old ≡ Slot.Fresh f) × (next ≡ Slot.Active (begun f t))
Passes {R = R} eval (StepLine.Fetched ask) old next = (a b : ActiveView R) × (found : Fact) × (old ≡ Slot.Active a) × (comes_to eval a.attempt ≡ Outcome.Need ask) × (ask_of found ≡ ask) × (b.attempt ≡ knowing a.attempt (a.attempt.facts ++ found ∷ [])) × (next ≡ Slot.Active b)
Passes {R = R} eval StepLine.Computed old next = (a : ActiveView R) × (x : Reply) × (d : Draft) × (old ≡ Slot.Active a) × (comes_to eval a.attempt ≡ Outcome.Change x d) × (next ≡ Slot.Computed (record { attempt = a.attempt; reads = a.reads; ready = Some (x, d) }))
Passes {R = R} eval (StepLine.Busy v) old next = (a : ActiveView R) × (old ≡ Slot.Computed a) × (next ≡ Slot.Computed a)
Passes {R = R} eval (StepLine.Voted t) old next = (a : ActiveView R) × (x : Reply) × (d : Draft) × (old ≡ Slot.Computed a) × (a.ready ≡ Some (x, d)) × (next ≡ Slot.Pending (record { attempt = a.attempt; reply = x; tid = t }))
Passes {R = R} eval (StepLine.Conflict c) old next = (a : ActiveView R) × (f : FreshView R) × (old ≡ Slot.Computed a) × (length a.attempt.clashes < 3) × (f.request ≡ a.attempt.request) × (clashes_of f.conflicts ≡ a.attempt.clashes ++ c ∷ []) × (next ≡ Slot.Fresh f)
Passes {R = R} eval (StepLine.GivenUp cs) old next = (a : ActiveView R) × (c : Clash) × (old ≡ Slot.Computed a) × (length a.attempt.clashes ≡ 3) × (cs ≡ a.attempt.clashes ++ c ∷ []) × (next ≡ Slot.Idle)
Passes {R = R} eval (StepLine.Read x t) old next = (a : ActiveView R) × (old ≡ Slot.Active a) × (comes_to eval a.attempt ≡ Outcome.Answer x) × (t ≡ a.attempt.snapshot) × (next ≡ Slot.Idle)
Passes {R = R} eval (StepLine.Commit x t) old next = (p : PendingView R) × (old ≡ Slot.Pending p) × (x ≡ p.reply) × (t ≡ p.tid) × (next ≡ Slot.Idle)
Passes {R = R} eval (StepLine.Spent s) old next = (a : ActiveView R) × (old ≡ Slot.Computed a) × (next ≡ Slot.Idle)
Passes eval StepLine.DiskFault old next = HasUnvoted old × (next ≡ Slot.Idle)
Passes eval StepLine.Memory old next = HasUnvoted old × (next ≡ Slot.Idle)
Passes {R = R} eval (StepLine.Unknown t) old next = (p : PendingView R) × (old ≡ Slot.Pending p) × (t ≡ p.tid) × (next ≡ Slot.Idle)
