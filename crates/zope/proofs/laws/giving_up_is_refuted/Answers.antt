use Rattle.zope.proofs.GivingUp.{only_want_of_memory}
use Rattle.zope.proofs.laws.giving_up_is_refuted.Goals as goal

pub returns : goal.returns
returns c = only_want_of_memory (record { schedule = c.one_schedule.ensures; line = c.one_bad_line.ensures.not_both; opening = c.one_opening.ensures.not_both; index = c.one_index.ensures; row = c.one_bad_line-2.ensures.not_both })
