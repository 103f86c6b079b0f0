use Rattle.replay.specs.Serials.{BreaksAlone}
use Rattle.replay.proofs.AloneReports.{flushed_alone}
use Rattle.replay.proofs.Flushing.{flushed, none_due}
use Rattle.replay.proofs.alone.serial.Goals as goal

pub returns-in-Ok-run_each_over-clause-serial : goal.returns-in-Ok-run_each_over-clause-serial
returns-in-Ok-run_each_over-clause-serial g c =
    let ran = rw c.as_slice-items.ensures at (c.in-Ok-run_each_over.ensures.serial c.args.bytes c.in_ok-store.ensures.opened) in
    flushed_alone _ _ _ _ (none_due _ _ c.in-Ok.ensures) c.in_ok-flush-in-Ok-run_each_over.ensures.ok.1 ran

pub returns-in-Err-BadLine-clause-bad_line : goal.returns-in-Err-BadLine-clause-bad_line
returns-in-Err-BadLine-clause-bad_line g c n is = flushed (λ o w. BreaksAlone g.E.Evaluator.takes g.E.Evaluator.meaning g.L.Links.linked c.args.limit c.args.bytes c.args.schedule.now n o w) _ _ _ _ (none_due _ _ c.in-Ok.ensures) c.in_ok-flush-in-Err-BadLine.ensures.ok.1
    (rw c.as_slice-items.ensures at (c.in-Err-BadLine.ensures.bad_line n (rw c.in-Err-BadLine.field-0-is is) c.args.bytes c.in_ok-store.ensures.opened))
