-- Rows worked by hand: the first of two connections fails in a read, and the second asks for a page.
use Rattle.std.proofs.Common.{◌≡◌, ℕ, List, [], ◌∷◌, Option, Some, None, refl, sym, ◌∙◌, false, if◌then◌else◌, length, nat_lt, take, arith}
use Rattle.schedule.specs.declared.item.Item2.{Item2}
use Rattle.schedule.specs.declared.line.Line.{Line}
use Rattle.zserve.specs.Happened.{Happening, items}
use Rattle.http_clients.specs.Clients.{Client, heard}
use Rattle.zserve.specs.Tapes.{IsAnswered, Round, Takes, assigned, happened_in, messages, workers_from}
use Rattle.zserve.specs.Turns.{AreTurns, all_in, lines_in, reply_among}

-- any three bytes are a message
abbrev begins : List ℕ → Option (List ℕ)
begins bytes = if nat_lt 2 (length bytes) then Some (take 3 bytes) else None

-- a read of it failed behind two bytes
abbrev broken : Client
broken = record { given = 7 ∷ 1 ∷ []; end = record { number = 0; left = 2 ∷ []; written = []; open_ = false; read_faults = 1; write_faults = 0 } }

abbrev whole : Client
whole = record { given = 7 ∷ 1 ∷ 2 ∷ 9 ∷ []; end = record { number = 0; left = []; written = 5 ∷ []; open_ = false; read_faults = 0; write_faults = 0 } }

abbrev first_turn : List Happening
first_turn = (Item2.Step 0, Line.Begin 0 3 ∷ []) ∷ []

abbrev second_turn : List Happening
second_turn = (Item2.Step 0, Line.ReplyRead 0 3 (5 ∷ []) ∷ []) ∷ []

abbrev round : Round
round = record { clients = broken ∷ whole ∷ []; stamp = 4; turns = first_turn ∷ second_turn ∷ [] }

heard_before : heard broken ≡ 7 ∷ 1 ∷ []
heard_before = refl

one_request : messages begins round.clients ≡ (7 ∷ 1 ∷ 2 ∷ []) ∷ []
one_request = refl

-- the tape has one request
tape_is : items (happened_in begins round) ≡ Item2.Request 0 (7 ∷ 1 ∷ 2 ∷ []) ∷ Item2.Clock 4 ∷ Item2.Step 0 ∷ Item2.Step 0 ∷ []
tape_is = refl

-- only the second gets a reply
workers_are : assigned begins 0 round.clients ≡ (broken, None) ∷ (whole, Some 0) ∷ []
workers_are = refl

reply_is : reply_among 0 (lines_in (all_in round.turns)) ≡ Some (5 ∷ [])
reply_is = refl

turns_are : AreTurns (workers_from 0 (messages begins round.clients)) round.turns
turns_are = (refl, (refl, tt))

-- ---- what isn't a tape

-- one connection a round, where two may come: the hub would have had no more
one_by_one : (no_more : Type 0) → Takes 2 2 no_more (1 ∷ 1 ∷ []) → no_more
one_by_one no_more takes = (takes.2 (omega arith)).0

one_isnt_none : (k : ℕ) (ks : List ℕ) → k ∷ ks ≡ [] → ⊥
one_isnt_none k ks e = cc

-- and then it were the last round
one_by_one_refuted : (no_more : Type 0) → Takes 2 2 no_more (1 ∷ 1 ∷ []) → ⊥
one_by_one_refuted no_more takes = one_isnt_none 1 [] (takes.2 (omega arith)).1

-- a worker that has its reply takes no further step
step_behind_its_reply : AreTurns (0 ∷ []) (second_turn ∷ first_turn ∷ []) → ⊥
step_behind_its_reply turns = turns.1

-- a turn leaves nobody out
turn_of_one : AreTurns (0 ∷ 1 ∷ []) (first_turn ∷ []) → ⊥
turn_of_one turns = (let e : Item2.Step 0 ∷ [] ≡ Item2.Step 0 ∷ Item2.Step 1 ∷ [] = turns.0 in cc)

-- the turns don't end before the reply
too_few_turns : AreTurns (0 ∷ []) (first_turn ∷ []) → ⊥
too_few_turns turns = turns.1

-- a connection whose bytes begin with a message isn't closed without its reply
unanswered_refuted : (lines : List Line) → IsAnswered lines (record { given = 7 ∷ 1 ∷ 2 ∷ []; end = record { number = 0; left = []; written = []; open_ = false; read_faults = 0; write_faults = 0 } }, Some 0) → reply_among 0 lines ≡ Some (5 ∷ []) → ⊥
unanswered_refuted lines a is =
    let same : Some a.0 ≡ Some (5 ∷ []) = sym a.1 ∙ is in
    let none : a.2.0 ≡ [] = a.2.2 refl in
    let e : a.0 ≡ a.2.0 = a.2.1 in
    one_isnt_none 5 [] (same_list (sym same) ∙ e ∙ none)
  where
    same_list : {x y : List ℕ} → Some x ≡ Some y → x ≡ y
    same_list e = cc
