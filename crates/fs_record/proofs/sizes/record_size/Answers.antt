use Rattle.std.proofs.Common.{arith}
use Rattle.zbase.specs.NumberLaws.{length-be64}
use Rattle.fs_record.proofs.sizes.record_size.Goals as goal

pub returns-in-Back : goal.returns-in-Back
returns-in-Back c = rw c.in-Back.is (omega (arith, length-be64 c.in-Back.field-0))
