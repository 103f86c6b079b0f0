-- What a round makes of a core, its clock and the replies, from its messages on.
use Rattle.std.specs.Prelude.{◌≡◌, ◌⊎◌, ℕ, List, [], ◌∷◌, ◌++◌, length, Option}
use Rattle.evaluator.specs.Exec.{Eval}
use Rattle.schedule.specs.declared.item.Item2.{Item2}
use Rattle.txn_core.specs.Cores.{CoreView}
use Rattle.zserve.specs.Going.{Goes}
use Rattle.zserve.specs.Happened.{Happening}
use Rattle.zserve.specs.Sweeping.{Replied, Unanswered, Waits}
use Rattle.zserve.specs.Tapes.{given_from, workers_from}
use Rattle.zserve.specs.Turns.{AreTurns, GotReply, all_in}
use Rattle.http_clients.specs.Numbers.{Among}

-- Turns so far: these workers wait still, and whatever turns they take, all together are turns of those that waited at first.
pub record TurnedSoFar {E R S : Type 0} (takes : List ℕ → Option R) (eval : Eval R) (old new : CoreView E R S) (now : ℕ) (ws left : List ℕ) (turns : List (List Happening)) (replies replies' : List (Option (List ℕ))) : Type 0 where
  pub goes : Goes takes eval old now (all_in turns) new now
  pub goes_on : (more : List (List Happening)) → AreTurns left more → AreTurns ws (turns ++ more)
  pub waits : Waits new left
  pub answered : (w : ℕ) → Among w ws → Among w left ⊎ GotReply w (all_in turns)
  pub long : length replies' ≡ length replies
  pub replied : (done : List Happening) → Replied replies done → Unanswered ws done → Replied replies' (done ++ all_in turns) × Unanswered left (done ++ all_in turns)

-- these messages were given to the workers from 0 on, and no other has a request
pub record AllGiven {E R S : Type 0} (takes : List ℕ → Option R) (eval : Eval R) (old new : CoreView E R S) (now : ℕ) (ms : List (List ℕ)) : Type 0 where
  pub goes : Goes takes eval old now (given_from 0 ms) new now
  pub waits : Waits new (workers_from 0 ms)

-- what happens in a round with these messages
abbrev pub round_of : List (List ℕ) → ℕ → List (List Happening) → List Happening
round_of ms stamp turns = given_from 0 ms ++ (Item2.Clock stamp, []) ∷ all_in turns

-- A round is done: its workers took their turns, and each one's reply is the one that was printed.
pub record RoundDone {E R S : Type 0} (takes : List ℕ → Option R) (eval : Eval R) (old new : CoreView E R S) (since stamp : ℕ) (ms : List (List ℕ)) (turns : List (List Happening)) (replies : List (Option (List ℕ))) : Type 0 where
  pub goes : Goes takes eval old since (round_of ms stamp turns) new stamp
  pub turns_are : AreTurns (workers_from 0 ms) turns
  pub idle : Waits new []
  pub answered : (w : ℕ) → Among w (workers_from 0 ms) → GotReply w (all_in turns)
  pub long : length replies ≡ 16
  pub replied : Replied replies (all_in turns)
