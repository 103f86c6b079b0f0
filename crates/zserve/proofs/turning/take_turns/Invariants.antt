use Rattle.std.proofs.Common.{◌≡◌, ◌++◌, List, flat_map}
use Rattle.schedule.specs.Items.{item_text}
use Rattle.zserve.specs.Happened.{Happening, items}
use Rattle.zserve.specs.Rounds.{TurnedSoFar}
use Rattle.zserve.specs.Turns.{all_in}
use Rattle.zserve.specs.Waiting.{total}
use Rattle.zserve.proofs.turning.take_turns.Given as goal

-- the turns so far, and who waits still
abbrev pub invariant-taking : goal.invariant-taking
invariant-taking g l = record {
  so : (turns : List (List Happening)) × TurnedSoFar g.E.Evaluator.takes g.E.Evaluator.meaning l.fn.core l.core l.now l.fn.waiting.items l.waiting.items turns l.fn.replies.items l.replies.items × (l.text ≡ l.fn.text ++ flat_map item_text (items (all_in turns)));
}

abbrev pub decreases-taking : goal.decreases-taking
decreases-taking g l = total l.core.slots
