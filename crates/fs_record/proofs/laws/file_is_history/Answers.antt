use Rattle.fs_record.specs.FileLaws.{file_history, file_place}
use Rattle.fs_record.proofs.laws.file_is_history.Goals as goal

pub returns : goal.returns
returns c = record { history = file_history; place = file_place }
