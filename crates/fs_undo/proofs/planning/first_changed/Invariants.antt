use Rattle.std.proofs.Common.{◌≡◌, drop}
use Rattle.fs_undo.specs.Undo as spec
use Rattle.fs_undo.proofs.planning.first_changed.Given as goal

-- the first that changed is among those that are left
abbrev pub invariant-loop-at : goal.invariant-loop-at
invariant-loop-at l = spec.first_changed (drop l.at l.parts) (spec.values_of (drop l.at l.present)) ≡ spec.first_changed l.parts (spec.values_of l.present)
