use Rattle.std.proofs.Common.{sym}
use Rattle.zbase.specs.NumberLaws.{length-be64}
use Rattle.fs_pack.proofs.writing.body_size.Goals as goal

pub returns-in-Back : goal.returns-in-Back
returns-in-Back c = rw c.in-Back.is (sym (length-be64 c.in-Back.field-0))
