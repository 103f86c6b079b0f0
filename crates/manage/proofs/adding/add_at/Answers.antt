use Rattle.std.proofs.Common.{arith, lit<}
use Rattle.manage.proofs.Children.{added_right}
use Rattle.manage.proofs.adding.add_at.Goals as goal

pub write_added-requires : goal.write_added-requires
write_added-requires c =
    let fits = c.fits.ensures in
    let is = c.oid.view_is in
    let right = added_right c.rows_keep_the_rules.ensures c.args.call c.args.oid (record { object = c.args.folder.now; form = c.args.fields.now; depth = c.args.depth }) c.in_ok-child.child c.requires.lawful (omega (arith, fits, is)) c.in_ok-child.ensures in
    record { folder = right.0 0 (lit< tt); child = right.1 }
