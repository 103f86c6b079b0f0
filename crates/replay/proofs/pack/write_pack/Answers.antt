use Rattle.replay.proofs.PackMaking.{some_told, written_told}
use Rattle.replay.proofs.pack.write_pack.Goals as goal

pub returns-in-Ok-clause-written : goal.returns-in-Ok-clause-written
returns-in-Ok-clause-written c = λ told is links s.
    (let left = some_told _ c.in-Ok.ensures.tells c.new-to.ensures.told in
    (left.0, (left.1, written_told _ _ c.args.plan.now _ told left.0 is left.1 c.in-Ok.ensures.packed links s)))
