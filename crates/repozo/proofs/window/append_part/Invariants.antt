use Rattle.std.proofs.Common.{◌≡◌, ◌+◌, ◌-◌, ◌*◌, ◌<◌, ◌≤◌}
use Rattle.std.specs.Prelude.{is_some}
use Rattle.zbase.specs.Faults.{Counts}
use Rattle.repozo.specs.Disks.{Appended}
use Rattle.repozo.proofs.window.append_part.Given as goal

-- What was copied so far; each window that was full cost a call, and only the last one may not be.
abbrev pub invariant-copying : goal.invariant-copying
invariant-copying g l = record {
  within : l.done ≤ l.size;
  appended : Appended (g.D.Disk.told l.fn.from) l.start l.done (g.O.Disk.told l.fn.to) (g.O.Disk.told l.to) l.fn.hasher l.hasher;
  tells : is_some (g.O.Disk.told l.to) ≡ is_some (g.O.Disk.told l.fn.to);
  same : g.D.Disk.told l.from ≡ g.D.Disk.told l.fn.from;
  calls : l.done < l.size → 65536 * g.O.Disk.spare_calls l.fn.to ≤ 65536 * g.O.Disk.spare_calls l.to + l.done;
  spent : 65536 * g.O.Disk.spare_calls l.fn.to ≤ 65536 * g.O.Disk.spare_calls l.to + l.done + 65535;
  bytes : g.O.Disk.spare_bytes l.fn.to ≤ g.O.Disk.spare_bytes l.to + l.done;
  from_counts : Counts (g.D.Disk.counter l.fn.from) (g.D.Disk.counter l.from) ⊥;
  to_counts : Counts (g.O.Disk.counter l.fn.to) (g.O.Disk.counter l.to) ⊥;
}

abbrev pub decreases-copying : goal.decreases-copying
decreases-copying g l = l.size - l.done
