use Rattle.std.proofs.Common.{arith}
use Rattle.zknown.specs.Seen.{objects}
use Rattle.manage.proofs.Renamed.{answers_renaming, renames_right}
use Rattle.manage.proofs.renaming.change_renaming.Goals as goal

pub rename-requires : goal.rename-requires
rename-requires c = let fits = c.fits.ensures in let is = c.oid.view_is in record {
  lawful = c.requires.known;
  right = renames_right c.rows_keep_the_rules.ensures c.args.oid c.args.folder.now c.args.fields.now c.requires.lawful c.requires.kind (omega (arith, fits, is)) c.in_ok-names_are_right.ensures;
}

pub returns : goal.returns
returns c = answers_renaming (objects c.args.known.now) c.args.oid c.args.folder.now c.args.fields.now c.rename.result c.in_ok-names_are_right.ensures c.rename.ensures
