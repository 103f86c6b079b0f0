use Rattle.fs_record.specs.WalkLaws.{whole, is_file, grows, none, none_at_all, leads, same, other}
use Rattle.fs_record.proofs.laws.records_lead_back.Goals as goal

pub returns : goal.returns
returns c = record { whole = whole; is_file = is_file; grows = grows; none = none; none_at_all = none_at_all; leads = leads; same = same; other = other }
