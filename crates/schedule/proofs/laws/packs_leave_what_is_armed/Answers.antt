use Rattle.schedule.specs.Openings.{pack_fault_queued, pack_restart_queued}
use Rattle.schedule.specs.PackLaws.{packed_faultless, packed_licensed}
use Rattle.schedule.proofs.laws.packs_leave_what_is_armed.Goals as goal

pub returns-clause-done : goal.returns-clause-done
returns-clause-done c = packed_licensed

pub returns-clause-none : goal.returns-clause-none
returns-clause-none c = packed_faultless

pub returns-clause-failed : goal.returns-clause-failed
returns-clause-failed c = pack_fault_queued

pub returns-clause-stopped : goal.returns-clause-stopped
returns-clause-stopped c = pack_restart_queued
