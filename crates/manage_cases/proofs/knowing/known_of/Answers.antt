use Rattle.manage_cases.proofs.Known.{same_keep}
use Rattle.manage_cases.proofs.knowing.known_of.Goals as goal
use Rattle.manage_cases.proofs.knowing.known_of.Goals.{then-is_known+in_ok-add_part, else-is_known}

pub loop-part-preserved : goal.loop-part-preserved
loop-part-preserved c = elim c.if-is_known.branch [
  | then-is_known+in_ok-add_part w ↦ same_keep c.if-is_known.known w.add_part.new.known w.known-is w.in_ok-add_part.ensures
  | else-is_known w ↦ same_keep c.if-is_known.known c.loop-part.known w.known-is c.loop-part.invariant
]
