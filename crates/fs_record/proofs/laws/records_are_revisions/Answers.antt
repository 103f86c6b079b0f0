use Rattle.fs_record.specs.StandingLaws.{each_stands, last_stands}
use Rattle.fs_record.proofs.laws.records_are_revisions.Goals as goal

pub returns : goal.returns
returns c = record { each = each_stands; last = last_stands }
