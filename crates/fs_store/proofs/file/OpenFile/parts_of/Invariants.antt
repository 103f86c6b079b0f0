use Rattle.std.proofs.Common.{◌≡◌, ◌-◌, ◌≤◌, ◌==◌, ℕ, IfSome, drop, length, map, reverse}
use Rattle.std.specs.List.{list_any}
use Rattle.std.specs.Ordering.{nat_cmp}
use Rattle.std.specs.BTreeSet.{contains}
use Rattle.zbase.specs.Values.{before}
use Rattle.evaluator.specs.Facts.{last_records, part_of}
use Rattle.fs_scan.specs.Wholes.{records_in}
use Rattle.fs_store.specs.Seeking.{CostsLoads, objects_of}
use Rattle.fs_store.specs.Fronts.{history_at}
use Rattle.fs_scan.specs.OnlyReads.{OnlyReads}
use Rattle.fs_store.proofs.file.OpenFile.parts_of.Given as goal

-- the parts of the records behind, from the last, their objects, and what it cost to load these; nothing was changed
abbrev pub invariant-loop-left : goal.invariant-loop-left
invariant-loop-left g l = record {
  within : l.left ≤ length l.values;
  parts : IfSome (g.D.Disk.told l.fn.disk) (λ told. reverse l.parts.items ≡ map (part_of (before (history_at told l.self.end) l.tid)) (last_records (records_in (drop l.left l.values))));
  seen : (o : ℕ) → contains nat_cmp l.seen o ≡ list_any (λ s. s.0 == o) (records_in (drop l.left l.values));
  costs : IfSome (g.D.Disk.told l.fn.disk) (λ told. CostsLoads told l.self.end (l.tid - 1) (objects_of (reverse l.parts.items)) (g.D.Disk.counter l.fn.disk).calls (g.D.Disk.counter l.disk).calls);
  only : OnlyReads g.D.Disk l.fn.disk l.disk ⊥;
}

abbrev pub decreases-loop-left : goal.decreases-loop-left
decreases-loop-left g l = l.left
