use Rattle.replay.proofs.Images.{opened_runs}
use Rattle.replay.proofs.running.open_bytes.Goals as goal

pub returns-in-Ok-clause-opened : goal.returns-in-Ok-clause-opened
returns-in-Ok-clause-opened c = opened_runs c.args.bytes c.args.limit _ _ c.in-Ok.store c.new.ensures.told c.new.ensures.counter c.in-Ok.ensures.opened c.in-Ok.ensures.any_moment c.in-Ok.ensures.calm
