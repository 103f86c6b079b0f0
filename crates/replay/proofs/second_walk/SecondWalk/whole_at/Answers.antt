use Rattle.std.proofs.Common.{refl}
use Rattle.replay.specs.SecondWalk.{moved}
use Rattle.replay.proofs.SecondWalking.{some_texts, some_values}
use Rattle.replay.proofs.second_walk.SecondWalk.whole_at.Goals as goal

pub returns-in_default-clause-undamaged : goal.returns-in_default-clause-undamaged
returns-in_default-clause-undamaged g c = λ kind place is.
    some_texts (g.D.Disk.told c.args.disk.now) (g.D.Disk.told c.args.disk.now) (moved c.args.at c.args.self.now.ahead c.args.self.now) c.args.head refl c.requires.left c.requires.before c.requires.head (rw c.in_default.is at c.in_ok-texts.ensures.texts)

pub returns-in_default-2-clause-undamaged : goal.returns-in_default-2-clause-undamaged
returns-in_default-2-clause-undamaged g c = λ kind place is.
    some_values (g.D.Disk.told c.args.disk.now) (g.D.Disk.told c.texts_at.new.disk) (moved c.args.at c.args.self.now.ahead c.args.self.now) c.args.head c.in_ok-texts.ensures.only_reads.same c.requires.left c.requires.before c.requires.head c.requires.counts
    (rw c.in_default-2.is at c.in_ok-values.ensures.values)
