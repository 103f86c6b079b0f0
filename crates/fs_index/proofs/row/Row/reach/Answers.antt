use Rattle.std.proofs.Common.{rules}
use Rattle.fs_index.proofs.Listing.{reach_is}
use Rattle.fs_index.proofs.row.Row.reach.Goals as goal

pub returns : goal.returns
returns c = reach_is c.args.self.now c.min.result (search rules)
