use Rattle.std.proofs.Common.{rules}
use Rattle.schedule.proofs.BadItems.{a_stop}
use Rattle.schedule.proofs.reader.stop_at.Goals as goal

pub returns-in_err-calls-clause-bad : goal.returns-in_err-calls-clause-bad
returns-in_err-calls-clause-bad c = λ bad begins.
    (let parts = a_stop c.args.fields.now begins in
    c.calls_at.ensures.bad (search rules) parts.calls parts.seed parts.more parts.some parts.calls_small parts.seed_small parts.text)
