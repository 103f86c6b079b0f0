use Rattle.std.proofs.Common.{◌++◌, ◌∷◌, [], List, Option, None, ℕ, arith, ap, ◌∙◌}
use Rattle.std.proofs.lemmas.Grind.{common_steps}
use Rattle.zserve.proofs.Handing.{none_more_yet}
use Rattle.zserve.proofs.running.no_replies.Goals as goal

pub loop-preserved : goal.loop-preserved
loop-preserved c = record {
  counted = grind (arith, common_steps);
  room = grind (arith, common_steps);
  none = c.push_reserved.ensures.items ∙ ap (λ (xs : List (Option (List ℕ))). xs ++ None ∷ []) c.loop.invariant.none ∙ none_more_yet c.loop.counter;
}
