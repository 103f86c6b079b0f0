use Rattle.connection.specs.Telling.{opening_tells, tells_back, tells_forth}
use Rattle.txn_core.proofs.Resting.{read_stands}
use Rattle.txn_core.proofs.Steadiness.{Carries, grows_stands}
use Rattle.txn_core.proofs.workers.Core.bytes.Goals as goal

pub invariant_of-self : goal.invariant_of-self
invariant_of-self g c =
    let old = c.self.inside.store in
    let new = c.bytes.new.self in
    let tells = opening_tells old new c.bytes.ensures.any_moment in
    let carries : Carries old new = record {
      tells = tells_forth old.disk.told new.disk.told tells;
      told = tells_back old.disk.told new.disk.told tells;
      seen = c.bytes.ensures.seen;
      grows = λ told. grows_stands old new (c.bytes.ensures.stands told) (c.is_sound.ensures.history told) (c.is_sound.ensures.later_undecided told);
    } in
    read_stands g.E.Evaluator.meaning old new c.self.inside.slots.items carries c.bytes.ensures.out c.self.invariant

pub returns-clause-tells : goal.returns-clause-tells
returns-clause-tells g c = rw (← c.self.view_is) (opening_tells c.self.inside.store c.bytes.new.self c.bytes.ensures.any_moment)

pub returns-clause-stands : goal.returns-clause-stands
returns-clause-stands g c = rw (← c.self.view_is) c.bytes.ensures.stands

pub returns-clause-same : goal.returns-clause-same
returns-clause-same g c = rw (← c.self.view_is) c.bytes.ensures.same
