use Rattle.stamp.specs.StampLaws.{one_stamp, stamp_or_none}
use Rattle.stamp.proofs.one_stamp.Goals as goal

pub returns-clause-one : goal.returns-clause-one
returns-clause-one c = one_stamp

pub returns-clause-or_none : goal.returns-clause-or_none
returns-clause-or_none c = stamp_or_none
