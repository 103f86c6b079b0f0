use Rattle.std.proofs.Common.{[], ◌∷◌}
use Rattle.schedule.specs.declared.item.Item2.{Item2}
use Rattle.drawn_runs.proofs.Steps.{nothing_yet, one_list_more}
use Rattle.drawn_runs.proofs.rounds.put_turn.Goals as goal

pub loop-worker-init : goal.loop-worker-init
loop-worker-init c = nothing_yet c.args.items.now _

pub loop-worker-preserved : goal.loop-worker-preserved
loop-worker-preserved c = one_list_more c.loop-worker.worker c.args.items.now c.loop-worker.items c.push.new.self (λ worker. Item2.Step worker ∷ [])
    c.loop-worker.invariant c.in_ok-push.ensures.ok
