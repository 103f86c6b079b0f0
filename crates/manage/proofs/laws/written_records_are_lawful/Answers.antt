use Rattle.manage.specs.ChangingLaws.{changes_lawful, write_lawfully}
use Rattle.manage.proofs.laws.written_records_are_lawful.Goals as goal

pub returns : goal.returns
returns c = record { here = write_lawfully; change = changes_lawful }
