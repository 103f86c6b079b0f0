use Rattle.std.proofs.Common.{sym, subst, refl}
use Rattle.std.proofs.lemmas.Result.{IfOk-weaker}
use Rattle.zbase.specs.Faults.{counts_none}
use Rattle.schedule.specs.Moments.{clocked}
use Rattle.txn_core.specs.Slots.{moment_of}
use Rattle.replay.specs.BrokenOff.{CannotRun}
use Rattle.replay.specs.Printed.{terms_of}
use Rattle.replay.proofs.Giving.{refused}
use Rattle.replay.proofs.NoIdle.{needed_goes_on}
use Rattle.replay.proofs.ItemSteps.{clock_goes_on, fail_goes_on, given_goes_on, stop_goes_on}
use Rattle.replay.proofs.LineRefusals.{items_of_printing, same_line}
use Rattle.replay.proofs.item.run_item.Goals as goal

pub returns-in-Ok-true-clause-ok : goal.returns-in-Ok-true-clause-ok
returns-in-Ok-true-clause-ok g c = rw c.in-Request.is (given_goes_on g.E.Evaluator.takes g.E.Evaluator.meaning g.L.Links.linked c.args.run.limit c.args.run.clock c.in-Request.worker c.in-Request.bytes c.args.run.core c.give.new.core _ c.in-Ok-true.ensures.store (λ at limit end. c.in-Ok-true.ensures.given c.in-Ok-true.field-0-test g.L.Links.linked at limit end))

pub returns-in-Ok-false-clause-bad_line : goal.returns-in-Ok-false-clause-bad_line
returns-in-Ok-false-clause-bad_line g c = λ n end is.
    let core = c.args.run.core in
    let terms = terms_of g.E.Evaluator.takes g.E.Evaluator.meaning g.L.Links.linked c.args.run.limit end in
    let before = clocked (moment_of g.E.Evaluator.meaning core.store core.slots) c.args.run.clock in
    (same_line c.broken_off.result c.args.number n c.broken_off.ensures is, subst (λ i. CannotRun terms before i) (sym c.in-Request.is) (refused terms g.E.Evaluator.meaning core c.args.run.clock c.in-Request.worker c.in-Request.bytes (c.in-Ok-false.ensures.refused c.in-Ok-false.field-0-test)), refl)

pub returns-in-Ok-false-clause-counts : goal.returns-in-Ok-false-clause-counts
returns-in-Ok-false-clause-counts g c = rw c.broken_off.ensures (counts_none _ _ (λ is. cc))

pub returns-in-Err-clause-counts : goal.returns-in-Err-clause-counts
returns-in-Err-clause-counts g c = rw c.broken_off-in-Err.ensures (counts_none _ _ (λ is. cc))

pub returns-then-worker-clause-counts : goal.returns-then-worker-clause-counts
returns-then-worker-clause-counts g c = rw c.broken_off-then-worker.ensures (counts_none _ _ (λ is. cc))

pub returns-else-worker-clause-ok : goal.returns-else-worker-clause-ok
returns-else-worker-clause-ok g c = rw c.in-Step.is (IfOk-weaker c.run_step.result _ _ (λ new goes. goes g.L.Links.linked) c.run_step.ensures.ok)

pub returns-else-worker-clause-refused : goal.returns-else-worker-clause-refused
returns-else-worker-clause-refused g c = items_of_printing c.run_step.result c.run_step.ensures.refused

pub returns-in-Clock-clause-ok : goal.returns-in-Clock-clause-ok
returns-in-Clock-clause-ok g c = rw c.in-Clock.is (clock_goes_on g.E.Evaluator.takes g.E.Evaluator.meaning g.L.Links.linked c.args.run.limit c.args.run.clock c.in-Clock.stamp c.args.run.core _)

pub returns-then-calls-eq0-clause-counts : goal.returns-then-calls-eq0-clause-counts
returns-then-calls-eq0-clause-counts g c = rw c.broken_off-then-calls-eq0.ensures (counts_none _ _ (λ is. cc))

pub returns-in-Ok-clause-ok : goal.returns-in-Ok-clause-ok
returns-in-Ok-clause-ok g c = rw c.in-Stop.is (stop_goes_on g.E.Evaluator.takes g.E.Evaluator.meaning g.L.Links.linked c.args.run.limit c.args.run.clock c.in-Stop.calls c.in-Stop.seed c.args.run.core c.arm_stop.new.self _ c.in-Ok.ensures.armed)

pub returns-in-Err-arm_stop-clause-counts : goal.returns-in-Err-arm_stop-clause-counts
returns-in-Err-arm_stop-clause-counts g c = rw c.broken_off-in-Err-arm_stop.ensures (counts_none _ _ (λ is. cc))

pub returns-then-calls-eq0-2-clause-counts : goal.returns-then-calls-eq0-2-clause-counts
returns-then-calls-eq0-2-clause-counts g c = rw c.broken_off-then-calls-eq0-2.ensures (counts_none _ _ (λ is. cc))

pub returns-in-Ok-arm_fail-clause-ok : goal.returns-in-Ok-arm_fail-clause-ok
returns-in-Ok-arm_fail-clause-ok g c = rw c.in-Fail.is (fail_goes_on g.E.Evaluator.takes g.E.Evaluator.meaning g.L.Links.linked c.args.run.limit c.args.run.clock c.in-Fail.calls c.in-Fail.seed c.args.run.core c.arm_fail.new.self _ c.in-Ok-arm_fail.ensures.armed)

pub returns-in-Err-arm_fail-clause-counts : goal.returns-in-Err-arm_fail-clause-counts
returns-in-Err-arm_fail-clause-counts g c = rw c.broken_off-in-Err-arm_fail.ensures (counts_none _ _ (λ is. cc))

pub returns-in-Pack-clause-ok : goal.returns-in-Pack-clause-ok
returns-in-Pack-clause-ok g c = rw c.in-Pack.is (IfOk-weaker c.run_pack.result _ _ (λ new goes. needed_goes_on _ _ _ _ _ _ _ _ _ _ _ goes) c.run_pack.ensures.ok)

pub returns-in-Pack-clause-refused : goal.returns-in-Pack-clause-refused
returns-in-Pack-clause-refused g c = items_of_printing c.run_pack.result c.run_pack.ensures.refused

pub returns-in-End-clause-counts : goal.returns-in-End-clause-counts
returns-in-End-clause-counts g c = rw c.broken_off-in-End.ensures (counts_none _ _ (λ is. cc))
