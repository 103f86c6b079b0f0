use Rattle.schedule.specs.Alone.{serial_request, serial_then}
use Rattle.schedule.proofs.laws.serial_runs_join.Goals as goal

pub returns-clause-pieces : goal.returns-clause-pieces
returns-clause-pieces c = serial_then

pub returns-clause-request : goal.returns-clause-request
returns-clause-request c = serial_request
