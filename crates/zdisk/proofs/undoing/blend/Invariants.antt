use Rattle.zdisk.specs.Undoing.{Going}
use Rattle.zdisk.proofs.undoing.blend.Given as goal

-- so many calls are left to take back
abbrev pub invariant-loop-count : goal.invariant-loop-count
invariant-loop-count l = record { going : Going l.seed (record { bytes = l.fn.bytes; len = l.len; covered = l.kept }) l.entries l.count l.rest l.was l.bytes }

abbrev pub decreases-loop-count : goal.decreases-loop-count
decreases-loop-count l = l.count
