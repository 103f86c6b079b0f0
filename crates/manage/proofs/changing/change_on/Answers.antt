use Rattle.zknown.specs.Seen.{objects}
use Rattle.manage.specs.Calling.{told, here}
use Rattle.manage.specs.Changing.{change}
use Rattle.manage.specs.ChangingLaws.{is_here}
use Rattle.manage.proofs.Steps.{goes_so}
use Rattle.manage.proofs.changing.change_on.Goals as goal

pub called_by-requires : goal.called_by-requires
called_by-requires c = record { known = c.requires.lawful; lawful = c.requires.lawful c.args.oid c.in_ok-object.object.now (is_here (objects c.args.known.now) c.args.oid c.in_ok-object.object.now c.in_ok-object.ensures.whole) }

pub returns : goal.returns
unfolding change
returns c = goes_so told _ c.called_by.result (objects c.args.known.now) (here c.args.oid) _ c.in_ok-object.object.now c.in_ok-object.ensures.whole c.called_by.ensures
