use Rattle.replay.proofs.SecondWalking.{begun, none_ahead}
use Rattle.replay.proofs.second_walk.SecondWalk.new.Goals as goal

pub returns-clause-left : goal.returns-clause-left
returns-clause-left g c =
    let told = g.D.Disk.told c.args.disk.now in
    begun told c.args.end c.in_ok-long.long c.new.result c.in_ok-long.ensures.value (none_ahead told c.new.result c.new.ensures)
