use Rattle.zbase.specs.QueryLaws.{run_goes, run_passes, run_then}
use Rattle.evaluator.proofs.laws.questions_follow_one_another.Goals as goal

pub returns : goal.returns
returns g c = record { then = run_then; goes = run_goes; passes = run_passes }
