use Rattle.std.proofs.Common.{ap, arith}
use Rattle.replay.specs.SecondWalk.{Second, moved}
use Rattle.replay.proofs.SecondWalking.{heads_of, short_enough, some_head}
use Rattle.replay.proofs.second_walk.SecondWalk.head_at.Goals as goal

pub returns-in-None-clause-undamaged : goal.returns-in-None-clause-undamaged
returns-in-None-clause-undamaged g c = λ kind place is.
    some_head (g.D.Disk.told c.args.disk.now) (moved c.args.at c.args.self.now.ahead c.args.self.now) c.requires.left c.requires.before (rw c.in-None.is at c.in_ok-head.ensures.head)

pub returns-then-left-clause-undamaged : goal.returns-then-left-clause-undamaged
returns-then-left-clause-undamaged g c = λ kind place is.
    short_enough (g.D.Disk.told c.args.disk.now) (moved c.args.at c.args.self.now.ahead c.args.self.now) c.in-Some.head c.requires.left c.requires.before
    (heads_of (g.D.Disk.told c.args.disk.now) c.args.at c.in-Some.head (rw c.in-Some.is at c.in_ok-head.ensures.head)) (omega (arith, c.requires.before, ap (λ (s : Second). s.end) c.self.view_is, c.if-left.true))

pub returns-then-left-head-clause-undamaged : goal.returns-then-left-head-clause-undamaged
returns-then-left-head-clause-undamaged g c = λ kind place is.
    short_enough (g.D.Disk.told c.args.disk.now) (moved c.args.at c.args.self.now.ahead c.args.self.now) c.in-Some.head c.requires.left c.requires.before
    (heads_of (g.D.Disk.told c.args.disk.now) c.args.at c.in-Some.head (rw c.in-Some.is at c.in_ok-head.ensures.head)) (omega (arith, c.requires.before, ap (λ (s : Second). s.end) c.self.view_is, c.if-left.false, c.if-left-head.true))
