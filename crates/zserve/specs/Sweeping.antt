-- What a turn makes of the core, of the workers that wait, and of the replies.
use Rattle.std.specs.Prelude.{◌≡◌, ◌⊎◌, ℕ, ◌<◌, List, [], ◌∷◌, ◌++◌, length, map, slice_get, slice_set, Option, Some, None}
use Rattle.evaluator.specs.Exec.{Eval}
use Rattle.schedule.specs.declared.item.Item2.{Item2}
use Rattle.txn_core.specs.Cores.{CoreView}
use Rattle.txn_core.specs.declared.step_line.StepLine.{StepLine}
use Rattle.zserve.specs.Going.{Goes}
use Rattle.zserve.specs.Happened.{Happening, items}
use Rattle.txn_core.specs.Replying.{final}
use Rattle.zserve.specs.Turns.{GotReply, lines_in, reply_among, waiting}
use Rattle.http_clients.specs.Numbers.{Among, Distinct}
use Rattle.zserve.specs.Waiting.{AreWorkers, Wait, total}

-- each worker's reply is kept, the first that was printed; none while it waits
abbrev pub Replied : List (Option (List ℕ)) → List Happening → Type 0
Replied replies done = (w : ℕ) → w < length replies → slice_get replies w ≡ Some (reply_among w (lines_in done))

-- these workers have no reply
abbrev pub Unanswered : List ℕ → List Happening → Type 0
Unanswered ws done = (w : ℕ) → Among w ws → reply_among w (lines_in done) ≡ None

-- where the step ended the request, its reply is kept; else the worker waits still
abbrev pub Filed : StepLine → ℕ → List (Option (List ℕ)) → List (Option (List ℕ)) → List ℕ → List ℕ → Type 0
Filed line w old new still more =
    ((final line ≡ None) × (more ≡ still ++ w ∷ []) × (new ≡ old))
    ⊎ ((reply : List ℕ) × (final line ≡ Some reply) × (more ≡ still) × (new ≡ slice_set old w (Some reply)))

-- exactly these workers have a request, each once, and none of them has a reply
pub record Waits {E R S : Type 0} (core : CoreView E R S) (ws : List ℕ) : Type 0 where
  pub wait : Wait core ws
  pub distinct : Distinct ws
  pub workers : AreWorkers ws

-- One turn of these workers: each took a step, those that are left wait still, and whoever waited has one step less at least.
pub record Turned {E R S : Type 0} (takes : List ℕ → Option R) (eval : Eval R) (old new : CoreView E R S) (now : ℕ) (ws left : List ℕ) (turn : List Happening) (replies replies' : List (Option (List ℕ))) : Type 0 where
  pub goes : Goes takes eval old now turn new now
  pub steps : items turn ≡ map Item2.Step ws
  pub rest : left ≡ waiting turn
  pub answered : (w : ℕ) → Among w ws → Among w left ⊎ GotReply w turn
  pub waits : Waits new left
  pub long : length replies' ≡ length replies
  pub replied : (done : List Happening) → Replied replies done → Unanswered ws done → Replied replies' (done ++ turn) × Unanswered left (done ++ turn)
  pub falls : (ws ≡ [] → ⊥) → total new.slots < total old.slots
