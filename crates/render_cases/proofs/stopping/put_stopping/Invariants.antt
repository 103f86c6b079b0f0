use Rattle.render_cases.specs.Stopping.{Stands}
use Rattle.render_cases.proofs.stopping.put_stopping.Given as goal

-- the page stands as it stopped
abbrev pub invariant-stops : goal.invariant-stops
invariant-stops l = Stands l.page l.resting
