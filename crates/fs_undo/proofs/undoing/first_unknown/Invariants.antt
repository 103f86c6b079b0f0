use Rattle.std.proofs.Common.{◌≡◌, ◌-◌, None, length, take}
use Rattle.evaluator.specs.Facts.{look}
use Rattle.fs_undo.specs.Undo as spec
use Rattle.fs_undo.proofs.undoing.first_unknown.Given as goal

-- the objects of the parts before that place are known
abbrev pub invariant-loop-far : goal.invariant-loop-far
invariant-loop-far l = spec.first_unknown (look l.facts) (take l.far-inside.parts l.parts) ≡ None

abbrev pub decreases-loop-far : goal.decreases-loop-far
decreases-loop-far l = length l.parts - l.far-inside.parts
