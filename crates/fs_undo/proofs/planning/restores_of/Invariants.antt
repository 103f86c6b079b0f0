use Rattle.std.proofs.Common.{◌≡◌, map, take}
use Rattle.fs_undo.specs.Undo as spec
use Rattle.fs_undo.proofs.planning.restores_of.Given as goal

abbrev pub invariant-loop-part : goal.invariant-loop-part
invariant-loop-part l = l.restores ≡ map spec.restore_of (take l.part-index l.parts)
