-- The schedule that a number draws.
use Rattle.std.specs.Prelude.{ℕ, zero, suc, ◌+◌, ◌*◌, ◌%◌, List, [], ◌∷◌, ◌++◌, replicate}
use Rattle.schedule.specs.declared.item.Item2.{Item2}
use Rattle.drawn_runs.specs.Drawing.{draw, reached}
use Rattle.drawn_runs.specs.Messages.{message}
use Rattle.drawn_runs.specs.declared.message.TheConstants.{KINDS}
use Rattle.drawn_runs.specs.declared.rounds.TheConstants.{DRAWN_WORKERS, ROUNDS, STEPS_AHEAD, TURNS}

-- the lists of 0, 1, 2 and so on, n of them, one behind another
unfoldable pub in_order : {A : Type 0} → (n : ℕ) → (ℕ → List A) → List A
in_order zero list = []
in_order (suc n) list = in_order n list ++ list n

-- requests are numbered from 1 on through all rounds, and each draws its message
abbrev pub request : (number round worker : ℕ) → Item2
request number round worker = Item2.Request worker (message (draw number worker % KINDS) (DRAWN_WORKERS * round + worker + 1))

-- each worker is given a request
abbrev pub requests : (number round : ℕ) → List Item2
requests number round = in_order DRAWN_WORKERS (λ worker. request number round worker ∷ [])

-- each worker has a step
abbrev pub turn : List Item2
turn = in_order DRAWN_WORKERS (λ worker. Item2.Step worker ∷ [])

abbrev pub turns : List Item2
turns = in_order TURNS (λ _. turn)

-- a round, where the number is what the drawings before it have reached: requests, then the steps of one worker, which is
-- drawn, ahead of the others, then steps of all in turns
abbrev pub round_from : (number round : ℕ) → List Item2
round_from number round =
    requests number round ++ replicate STEPS_AHEAD (Item2.Step (draw number DRAWN_WORKERS % DRAWN_WORKERS)) ++ turns

-- a round draws a message for each worker, and a worker
abbrev pub drawings_of_a_round : ℕ
drawings_of_a_round = DRAWN_WORKERS + 1

unfoldable pub drawn_run : (number : ℕ) → List Item2
drawn_run number = in_order ROUNDS (λ round. round_from (reached number (drawings_of_a_round * round)) round)
