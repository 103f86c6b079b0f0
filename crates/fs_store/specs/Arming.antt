-- What arming makes of what is known of a disk in memory.
use Rattle.zbase.specs.declared.faults.Arm.{Arm}
use Rattle.zdisk.specs.Arming.{armed, disarmed}
use Rattle.fs_store.specs.Stores.{DiskView}

-- one entry more is armed
abbrev pub arming : DiskView → Arm → DiskView
arming d entry = record { told = d.told; counter = armed d.counter entry; spare_calls = d.spare_calls; spare_bytes = d.spare_bytes }

-- no entry waits any more
abbrev pub disarming : DiskView → DiskView
disarming d = record { told = d.told; counter = disarmed d.counter; spare_calls = d.spare_calls; spare_bytes = d.spare_bytes }
