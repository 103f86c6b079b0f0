use Rattle.std.proofs.Common.{refl}
use Rattle.zdisk.specs.Keeping.{told_in}
use Rattle.zdisk.proofs.memory.MemoryDiskDisk.read_at.Goals as goal

pub read-requires : goal.read-requires
read-requires c = record { within = c.requires.within (told_in c.args.self.now.file) refl }
