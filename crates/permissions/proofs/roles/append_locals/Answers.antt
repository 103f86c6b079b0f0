use Rattle.std.proofs.Common.{◌∙◌, ◌++◌, ap}
use Rattle.zobject.specs.Shapes.{shape_of}
use Rattle.zknown.specs.Seen.{shapes}
use Rattle.permissions.specs.Roles.{local_roles}
use Rattle.permissions.proofs.Steps.{more_locals}
use Rattle.permissions.proofs.roles.append_locals.Goals as goal

pub loop-oid-preserved : goal.loop-oid-preserved
unfolding shape_of
loop-oid-preserved c =
    more_locals (shapes c.args.known.now) c.args.path.now c.loop-oid.oid-index c.oid-item.result (shape_of c.present-object.result.now) c.loop-oid-test.true c.oid-item.is c.present-object.ensures c.loop-oid.invariant.0
    c.args.name.now c.loop-oid.roles c.append_local.new.roles _ c.loop-oid.invariant.1 (c.in_ok-append_local.ensures ∙ ap (λ locals. c.loop-oid.roles ++ local_roles c.args.name.now locals) c.as_slice.ensures)
