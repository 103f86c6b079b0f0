use Rattle.fs_record.specs.WrittenLaws.{history-transaction}
use Rattle.fs_record.proofs.Growing.{written}
use Rattle.fs_record.proofs.laws.written_behind.Goals as goal

pub returns : goal.returns
returns c = record { file = written; history = history-transaction }
