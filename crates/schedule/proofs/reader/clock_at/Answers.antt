use Rattle.std.proofs.Common.{rules}
use Rattle.schedule.proofs.BadItems.{a_clock}
use Rattle.schedule.proofs.reader.clock_at.Goals as goal

pub returns-in_err-stamp-clause-bad : goal.returns-in_err-stamp-clause-bad
returns-in_err-stamp-clause-bad c = λ bad begins.
    (let parts = a_clock c.args.fields.now begins in
    c.id_at.ensures.bad (search rules) parts.0 parts.1 parts.2 parts.3)
