use Rattle.schedule.specs.Armed.{IsArmed}
use Rattle.schedule.proofs.Running.{explained_by}
use Rattle.schedule.proofs.laws.runs_are_serial.Goals as goal

pub returns : goal.returns
returns g c = λ terms h0 trace end lawful is course faults. explained_by terms IsArmed h0 trace end lawful is course faults
