use Rattle.manage.specs.ChangingLaws.{settle_rightly}
use Rattle.manage.proofs.laws.written_records_settle.Goals as goal

pub returns : goal.returns
returns c = settle_rightly
