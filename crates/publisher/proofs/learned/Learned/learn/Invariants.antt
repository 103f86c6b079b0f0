use Rattle.std.proofs.Common.{◌≤◌, length, take}
use Rattle.zbase.specs.Query.{Grows}
use Rattle.zknown.specs.Seen.{objects}
use Rattle.publisher.specs.Keeping.{Holds}
use Rattle.publisher.proofs.learned.Learned.learn.Given as goal

-- the facts before this place are taken over, and what was known is known still
abbrev pub invariant-loop-at : goal.invariant-loop-at
invariant-loop-at l = record { within : l.at ≤ length l.facts; holds : Holds l.self (take l.at l.facts); grows : Grows (objects l.initial.self.known) (objects l.self.known) }
