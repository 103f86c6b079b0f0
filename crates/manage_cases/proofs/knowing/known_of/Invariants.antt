use Rattle.zknown.specs.Seen.{objects}
use Rattle.manage.specs.Changing.{KeepRules}
use Rattle.manage_cases.proofs.knowing.known_of.Given as goal

abbrev pub invariant-loop-part : goal.invariant-loop-part
invariant-loop-part l = KeepRules (objects l.known)
