use Rattle.drawn_runs.specs.Rounds.{turn}
use Rattle.drawn_runs.proofs.Steps.{nothing_yet, one_list_more}
use Rattle.drawn_runs.proofs.rounds.put_turns.Goals as goal

pub loop-turn-init : goal.loop-turn-init
loop-turn-init c = nothing_yet c.args.items.now _

pub loop-turn-preserved : goal.loop-turn-preserved
loop-turn-preserved c = one_list_more c.loop-turn._turn c.args.items.now c.loop-turn.items c.put_turn.new.items (λ _. turn) c.loop-turn.invariant c.in_ok-put_turn.ensures
