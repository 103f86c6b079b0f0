use Rattle.std.proofs.Common.{◌≡◌, map, take}
use Rattle.evaluator.specs.Facts.{look}
use Rattle.fs_undo.specs.Undo as spec
use Rattle.fs_undo.proofs.undoing.present_of.Given as goal

abbrev pub invariant-loop-part : goal.invariant-loop-part
invariant-loop-part l = spec.values_of l.present ≡ map (spec.value_now (look l.facts)) (take l.part-index l.parts)
