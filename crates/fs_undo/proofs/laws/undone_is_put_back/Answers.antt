use Rattle.fs_undo.proofs.Back.{is_put_back}
use Rattle.fs_undo.proofs.Refused.{changed_is_refused}
use Rattle.fs_undo.proofs.laws.undone_is_put_back.Goals as goal

pub returns : goal.returns
returns c = record { back = is_put_back; refused = changed_is_refused }
