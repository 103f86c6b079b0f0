use Rattle.std.proofs.Common.{◌≡◌, ◌++◌, replicate}
use Rattle.schedule.specs.declared.item.Item2.{Item2}
use Rattle.drawn_runs.proofs.rounds.put_steps_ahead.Given as goal

-- the steps so far
abbrev pub invariant-loop-step : goal.invariant-loop-step
invariant-loop-step l = l.items ≡ l.fn.items ++ replicate l._step (Item2.Step l.worker)
