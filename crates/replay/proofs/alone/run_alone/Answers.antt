use Rattle.std.proofs.Common.{[], ◌∷◌, refl, replicate}
use Rattle.std.proofs.lemmas.Result.{IfOk-weaker}
use Rattle.zbase.specs.Faults.{counts_none}
use Rattle.schedule.specs.declared.item.Item2.{Item2}
use Rattle.schedule.specs.Alone.{serial_request}
use Rattle.replay.proofs.ItemSteps.{clock_goes_needed}
use Rattle.replay.proofs.LineRefusals.{items_of_printing}
use Rattle.replay.proofs.NoIdle.{needed_none}
use Rattle.replay.proofs.alone.run_alone.Goals as goal

pub returns-in-Request-clause-ok : goal.returns-in-Request-clause-ok
returns-in-Request-clause-ok g c =
    let w = c.in-Request.worker in
    let bytes = c.in-Request.bytes in
    rw c.in-Request.is (IfOk-weaker c.run_request.result _ _ (λ new r. (Item2.Request w bytes ∷ replicate r.0 (Item2.Step w), (serial_request w r.0 bytes, r.1 g.L.Links.linked))) c.run_request.ensures.ok)

pub returns-in-Request-clause-bad_line : goal.returns-in-Request-clause-bad_line
returns-in-Request-clause-bad_line g c = λ n end is. rw c.in-Request.is (c.run_request.ensures.bad_line n g.L.Links.linked end is)

pub returns-in-Clock-clause-ok : goal.returns-in-Clock-clause-ok
returns-in-Clock-clause-ok g c = rw c.in-Clock.is (Item2.Clock c.in-Clock.stamp ∷ [], (([], refl, refl), clock_goes_needed g.E.Evaluator.takes g.E.Evaluator.meaning g.L.Links.linked c.args.run.limit c.args.run.clock c.in-Clock.stamp c.args.run.core _))

pub returns-in-Pack-clause-unarmed : goal.returns-in-Pack-clause-unarmed
returns-in-Pack-clause-unarmed g c = IfOk-weaker c.run_pack.result _ _ (λ new f. f c.requires.unarmed) c.run_pack.ensures.unarmed

pub returns-in-Pack-clause-rest : goal.returns-in-Pack-clause-rest
returns-in-Pack-clause-rest g c = IfOk-weaker c.run_pack.result _ _ (λ new f. f c.requires.rest) c.run_pack.ensures.rest

pub returns-in-Pack-clause-ok : goal.returns-in-Pack-clause-ok
returns-in-Pack-clause-ok g c = rw c.in-Pack.is (IfOk-weaker c.run_pack.result _ _ (λ new goes. (Item2.Pack c.in-Pack.before ∷ [], (([], refl, refl), goes))) c.run_pack.ensures.ok)

pub returns-in-Pack-clause-refused : goal.returns-in-Pack-clause-refused
returns-in-Pack-clause-refused g c = items_of_printing c.run_pack.result c.run_pack.ensures.refused

pub returns-in-Step-clause-ok : goal.returns-in-Step-clause-ok
returns-in-Step-clause-ok g c = rw c.in-Step.is ([], (refl, needed_none _ _ g.L.Links.linked _ _ _ _))

pub returns-in-Stop-clause-ok : goal.returns-in-Stop-clause-ok
returns-in-Stop-clause-ok g c = rw c.in-Stop.is ([], (refl, needed_none _ _ g.L.Links.linked _ _ _ _))

pub returns-in-Fail-clause-ok : goal.returns-in-Fail-clause-ok
returns-in-Fail-clause-ok g c = rw c.in-Fail.is ([], (refl, needed_none _ _ g.L.Links.linked _ _ _ _))

pub returns-in-End-clause-counts : goal.returns-in-End-clause-counts
returns-in-End-clause-counts g c = rw c.broken_off.ensures (counts_none _ _ (λ is. cc))
