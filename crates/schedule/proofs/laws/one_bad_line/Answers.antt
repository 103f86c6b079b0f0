use Rattle.schedule.proofs.BadLineLaws.{one_number, schedule_or_bad}
use Rattle.schedule.proofs.ReadOrBad.{either}
use Rattle.schedule.proofs.laws.one_bad_line.Goals as goal

pub returns-clause-either : goal.returns-clause-either
returns-clause-either c = either

pub returns-clause-not_both : goal.returns-clause-not_both
returns-clause-not_both c = schedule_or_bad

pub returns-clause-number : goal.returns-clause-number
returns-clause-number c = one_number
