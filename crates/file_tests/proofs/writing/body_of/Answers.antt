use Rattle.std.proofs.Common.{arith}
use Rattle.zbase.specs.NumberLaws.{length-be64}
use Rattle.file_tests.proofs.writing.body_of.Goals as goal

pub returns-in-Back-clause-size : goal.returns-in-Back-clause-size
returns-in-Back-clause-size c = omega (arith, length-be64 c.in-Back.place)
