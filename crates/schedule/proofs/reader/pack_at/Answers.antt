use Rattle.std.proofs.Common.{rules}
use Rattle.schedule.proofs.BadItems.{a_pack}
use Rattle.schedule.proofs.reader.pack_at.Goals as goal

pub returns-in_err-before-clause-bad : goal.returns-in_err-before-clause-bad
returns-in_err-before-clause-bad c = λ bad begins.
    (let parts = a_pack c.args.fields.now begins in
    c.id_at.ensures.bad (search rules) parts.0 parts.1 parts.2 parts.3)
