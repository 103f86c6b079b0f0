use Rattle.std.proofs.Common.{◌≤◌, ◌-◌, length}
use Rattle.fs_scan.proofs.ValuesRead.{ValuesTo}
use Rattle.fs_scan.specs.OnlyReads.{OnlyReads}
use Rattle.fs_scan.proofs.valued.read_values.Given as goal

-- the records so far have their values and what these cost, and nothing was changed
abbrev pub invariant-loop-at : goal.invariant-loop-at
invariant-loop-at g l = record {
  read : ValuesTo (g.D.Disk.told l.fn.disk) l.area l.at l.values (g.D.Disk.counter l.fn.disk).calls (g.D.Disk.counter l.disk).calls;
  within : l.at ≤ length l.area;
  only : OnlyReads g.D.Disk l.fn.disk l.disk ⊥;
}

abbrev pub decreases-loop-at : goal.decreases-loop-at
decreases-loop-at g l = length l.area - l.at
