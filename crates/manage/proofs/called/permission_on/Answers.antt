use Rattle.zobject.specs.Shapes.{shape_of}
use Rattle.zknown.specs.Seen.{shapes}
use Rattle.manage.specs.Calling.{told, here, permission_at}
use Rattle.manage.proofs.Steps.{goes_so}
use Rattle.manage.proofs.called.permission_on.Goals as goal

pub returns : goal.returns
unfolding permission_at shape_of
returns c = goes_so told _ c.lawful.result (shapes c.args.known.now) (here c.args.oid) _ (shape_of c.in_ok-object.object.now) c.in_ok-object.ensures.shape c.lawful.ensures
