use Rattle.std.proofs.Common.{◌≡◌, ◌++◌, ℕ, drop, take}
use Rattle.std.specs.Ordering.{nat_cmp}
use Rattle.std.specs.BTreeSet.{contains}
use Rattle.fs_undo.specs.Undo as spec
use Rattle.fs_undo.proofs.undoing.entries_of.Given as goal

-- the entries so far and those of the restores that are left, and which objects had a restore
abbrev pub invariant-loop-restore : goal.invariant-loop-restore
invariant-loop-restore l = record {
  entries : l.entries ++ spec.entries_behind (take l.restore-index l.restores) (drop l.restore-index l.restores) ≡ spec.entries_of l.restores;
  seen : (o : ℕ) → contains nat_cmp l.seen o ≡ spec.is_among o (take l.restore-index l.restores);
}
