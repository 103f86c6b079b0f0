use Rattle.std.proofs.Common.{◌≡◌, ◌++◌}
use Rattle.drawn_runs.specs.Rounds.{in_order, turn}
use Rattle.drawn_runs.proofs.rounds.put_turns.Given as goal

-- the turns so far
abbrev pub invariant-loop-turn : goal.invariant-loop-turn
invariant-loop-turn l = l.items ≡ l.fn.items ++ in_order l._turn (λ _. turn)
