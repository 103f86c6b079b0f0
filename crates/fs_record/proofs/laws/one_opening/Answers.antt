use Rattle.fs_record.specs.OpeningLaws.{one_cut, not_both, one_damage}
use Rattle.fs_record.specs.ReadingLaws.{either}
use Rattle.fs_record.proofs.laws.one_opening.Goals as goal

pub returns : goal.returns
returns c = record { either = either; cut = one_cut; not_both = not_both; damage = one_damage }
