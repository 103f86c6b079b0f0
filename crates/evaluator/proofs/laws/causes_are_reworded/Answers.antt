use Rattle.zbase.specs.QueryLaws.{or_else_goes, or_else_passes}
use Rattle.evaluator.proofs.laws.causes_are_reworded.Goals as goal

pub returns : goal.returns
returns g c = record { goes = or_else_goes; passes = or_else_passes }
