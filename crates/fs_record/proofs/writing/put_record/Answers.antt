use Rattle.std.proofs.Common.{arith}
use Rattle.zbase.specs.NumberLaws.{length-be64}
use Rattle.fs_record.proofs.writing.put_record.Goals as goal

pub put_u64-requires : goal.put_u64-requires
put_u64-requires c = let room = rw c.in-Back-body.is at c.requires.room in omega (arith, length-be64 c.in-Back-body.place, room)
