use Rattle.std.proofs.Common.{◌≡◌, ◌++◌, [], ◌∷◌}
use Rattle.schedule.specs.declared.item.Item2.{Item2}
use Rattle.drawn_runs.specs.Rounds.{in_order}
use Rattle.drawn_runs.proofs.rounds.put_turn.Given as goal

-- the steps so far
abbrev pub invariant-loop-worker : goal.invariant-loop-worker
invariant-loop-worker l = l.items ≡ l.fn.items ++ in_order l.worker (λ worker. Item2.Step worker ∷ [])
