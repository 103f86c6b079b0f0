use Rattle.std.proofs.Common.{◌≡◌, ◌++◌, List, take, drop, flat_map}
use Rattle.schedule.specs.Items.{item_text}
use Rattle.zserve.specs.Happened.{Happening, items}
use Rattle.zserve.proofs.Sweeps.{Swept}
use Rattle.zserve.proofs.turning.turn.Given as goal

-- the workers that were seen took their steps
abbrev pub invariant-loop-worker : goal.invariant-loop-worker
invariant-loop-worker g l = record {
  swept : (turn : List Happening) × Swept g.E.Evaluator.takes g.E.Evaluator.meaning l.fn.core l.core l.now (take l.worker-index l.waiting) (drop l.worker-index l.waiting) l.still.items turn l.fn.replies.items l.replies.items × (l.text ≡ l.fn.text ++ flat_map item_text (items turn));
}
