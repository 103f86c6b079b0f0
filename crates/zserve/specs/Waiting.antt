-- Which workers wait for a reply, and what a step makes of a core.
use Rattle.std.specs.Prelude.{◌≡◌, ◌≢◌, ℕ, ◌+◌, ◌<◌, List, [], ◌∷◌, length, slice_get, Option, Some}
use Rattle.evaluator.specs.Exec.{Eval}
use Rattle.http_out.specs.Replies.{answer}
use Rattle.schedule.specs.declared.item.Item2.{Item2}
use Rattle.txn_core.specs.declared.slot.Slot.{Slot}
use Rattle.txn_core.specs.declared.step_line.StepLine.{StepLine}
use Rattle.txn_core.specs.Cores.{CoreView, HasVoted, IsIdle}
use Rattle.txn_core.specs.Counting.{Lowers, left, left_of}
use Rattle.txn_core.specs.Passing.{Passes}
use Rattle.txn_core.specs.StepLines.{step_lines}
use Rattle.http_clients.specs.Numbers.{Among}
use Rattle.zserve.specs.Going.{Goes}

-- ---- some workers

-- each is one of the sixteen
abbrev pub AreWorkers : List ℕ → Type 0
AreWorkers ws = (w : ℕ) → Among w ws → w < 16

-- exactly these workers have a request
abbrev pub Wait : {E R S : Type 0} → CoreView E R S → List ℕ → Type 0
Wait core ws = (v : ℕ) → v < 16 → (Among v ws → IsIdle core v → ⊥) × ((Among v ws → ⊥) → IsIdle core v)

-- ---- steps

-- how many steps are left to all workers, at most
abbrev pub total : {E R S : Type 0} → List (Slot E R S) → ℕ
total [] = 0
total (s ∷ ss) = left_of s + total ss

-- the worker made a step, which answered so
pub record Stepped {E R S : Type 0} (takes : List ℕ → Option R) (eval : Eval R) (old new : CoreView E R S) (w now : ℕ) (line : StepLine) : Type 0 where
  pub goes : Goes takes eval old now ((Item2.Step w, step_lines answer w line) ∷ []) new now
  pub passes : (a b : Slot E R S) → slice_get old.slots w ≡ Some a → slice_get new.slots w ≡ Some b → Passes eval line a b
  pub lowers : Lowers line (left old.slots w) (left new.slots w)
  pub waits : (v : ℕ) → line ≡ StepLine.Busy v → HasVoted old v
  pub others : (v : ℕ) → v ≢ w → slice_get new.slots v ≡ slice_get old.slots v
  pub sixteen : (length old.slots ≡ 16) × (length new.slots ≡ 16)
