use Rattle.std.proofs.Common.{arith}
use Rattle.zbase.specs.NumberLaws.{length-be64}
use Rattle.fs_store.proofs.file.OpenFile.item_of.Goals as goal

pub returns-in_ok-place-in-Restore-clause-size : goal.returns-in_ok-place-in-Restore-clause-size
returns-in_ok-place-in-Restore-clause-size g c = rw c.in-Restore.is (omega (arith, length-be64 c.in_ok-place-in-Restore.place))
