use Rattle.schedule.specs.Armed.{IsArmed}
use Rattle.schedule.proofs.Sectioning.{first_section, from_one, in_one}
use Rattle.schedule.proofs.laws.reports_fall_into_sections.Goals as goal

pub returns-clause-in_one : goal.returns-clause-in_one
returns-clause-in_one g c = λ terms h0 s r all e. in_one terms IsArmed h0 s r all e

pub returns-clause-from_one : goal.returns-clause-from_one
returns-clause-from_one g c = λ terms h0 s r all e. from_one terms IsArmed h0 s r all e

pub returns-clause-first : goal.returns-clause-first
returns-clause-first g c = first_section
