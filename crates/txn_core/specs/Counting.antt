-- How many steps of a worker may be left, at most: a number that its steps lower.
use Rattle.std.specs.Prelude.{ℕ, ◌≡◌, ◌+◌, ◌-◌, ◌*◌, ◌<◌, List, [], length, Option, Some, None, slice_get}
use Rattle.evaluator.specs.declared.fact.Fact.{Fact}
use Rattle.evaluator.specs.Exec.{most_asks}
use Rattle.connection.specs.States.{PendingView, clashes_of}
use Rattle.txn_core.specs.declared.slot.Slot.{Slot}
use Rattle.txn_core.specs.declared.step_line.StepLine.{StepLine}

-- an attempt begins, fetches each fact that it asks for, evaluates once more, votes and finishes
abbrev pub attempt_steps : ℕ
attempt_steps = most_asks + 4

-- the attempts that are left behind so many conflicts, beside this one
abbrev pub further_steps : ℕ → ℕ
further_steps conflicts = (3 - conflicts) * attempt_steps

abbrev pub left_of : {E R S : Type 0} → Slot E R S → ℕ
left_of Slot.Idle = 0
left_of (Slot.Fresh f) = (4 - length (clashes_of f.conflicts)) * attempt_steps
left_of (Slot.Active a) = further_steps (length a.attempt.clashes) + (most_asks - length a.attempt.facts) + 3
left_of (Slot.Computed a) = further_steps (length a.attempt.clashes) + 2
left_of (Slot.Pending p) = 1

abbrev pub left_at : {E R S : Type 0} → Option (Slot E R S) → ℕ
left_at None = 0
left_at (Some s) = left_of s

-- the number of a worker
abbrev pub left : {E R S : Type 0} → List (Slot E R S) → ℕ → ℕ
left slots w = left_at (slice_get slots w)

-- a step lowers the number, but where the worker has no request or waits for another's vote
abbrev pub Lowers : StepLine → ℕ → ℕ → Type 0
Lowers StepLine.Idle old new = (old ≡ 0) × (new ≡ old)
Lowers (StepLine.Busy v) old new = new ≡ old
Lowers _ old new = new < old

-- the facts that a slot's attempt has fetched
abbrev pub facts_of : {E R S : Type 0} → Slot E R S → List Fact
facts_of Slot.Idle = []
facts_of (Slot.Fresh f) = []
facts_of (Slot.Active a) = a.attempt.facts
facts_of (Slot.Computed a) = a.attempt.facts
facts_of (Slot.Pending p) = p.attempt.facts

-- how many steps an attempt has had: it began, fetched each of its facts, computed its change, and voted
abbrev pub steps_of : {E R S : Type 0} → Slot E R S → ℕ
steps_of Slot.Idle = 0
steps_of (Slot.Fresh f) = 0
steps_of (Slot.Active a) = 1 + length a.attempt.facts
steps_of (Slot.Computed a) = 2 + length a.attempt.facts
steps_of (Slot.Pending p) = 3 + length p.attempt.facts

-- Each step of an attempt is one more of these. So an answer comes in the second step beside those that fetched its
-- facts, and a commit, or a finish of unknown outcome, in the fourth.
abbrev pub Paces : {E R S : Type 0} → StepLine → Slot E R S → Slot E R S → Type 0
Paces (StepLine.Begun t) old new = steps_of new ≡ 1
Paces (StepLine.Fetched ask) old new = steps_of new ≡ steps_of old + 1
Paces StepLine.Computed old new = steps_of new ≡ steps_of old + 1
Paces (StepLine.Voted t) old new = steps_of new ≡ steps_of old + 1
Paces (StepLine.Read x t) old new = steps_of old + 1 ≡ length (facts_of old) + 2
Paces (StepLine.Commit x t) old new = steps_of old + 1 ≡ length (facts_of old) + 4
Paces (StepLine.Unknown t) old new = steps_of old + 1 ≡ length (facts_of old) + 4
Paces _ old new = Unit {0}

-- a finish commits what was voted for, or whether it stands isn't known
abbrev pub IsOutcome : {R : Type 0} → PendingView R → StepLine → Type 0
IsOutcome p (StepLine.Commit x t) = (x ≡ p.reply) × (t ≡ p.tid)
IsOutcome p (StepLine.Unknown t) = t ≡ p.tid
IsOutcome p _ = ⊥

abbrev pub IsFinishLine : StepLine → Type 0
IsFinishLine (StepLine.Commit x t) = Unit {0}
IsFinishLine (StepLine.Unknown t) = Unit {0}
IsFinishLine _ = ⊥

-- where the worker has voted, this step finishes, which ends its request; and no other step does
abbrev pub EndsVote : {E R S : Type 0} → StepLine → Slot E R S → Slot E R S → Type 0
EndsVote line (Slot.Pending p) next = (next ≡ Slot.Idle) × IsOutcome p line
EndsVote line Slot.Idle next = IsFinishLine line → ⊥
EndsVote line (Slot.Fresh f) next = IsFinishLine line → ⊥
EndsVote line (Slot.Active a) next = IsFinishLine line → ⊥
EndsVote line (Slot.Computed a) next = IsFinishLine line → ⊥
