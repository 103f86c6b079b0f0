use Rattle.std.proofs.lemmas.Result.{err_from_is_err_and}
use Rattle.zope.proofs.InputCauses.{unscheduled}
use Rattle.zope.proofs.replaying.schedule_of.Goals as goal

pub returns-in_err-read_schedule-clause-cause : goal.returns-in_err-read_schedule-clause-cause
returns-in_err-read_schedule-clause-cause g c =
    let p = err_from_is_err_and c.from_residual-in_err-read_schedule.result c.from_residual-in_err-read_schedule.ensures.1 in
    rw (p.1, p.2) (unscheduled (g.S.Source.left c.args.input.now) _ c.in_ok-text.text.items c.in_err-read_schedule.field-0.0 c.in_ok-text.ensures.all c.in_ok-text.ensures.within (rw c.as_slice.ensures.value at c.in_err-read_schedule.ensures.bad_line))
