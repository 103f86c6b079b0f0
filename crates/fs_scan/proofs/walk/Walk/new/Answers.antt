use Rattle.std.proofs.Common.{refl}
use Rattle.fs_scan.proofs.Walking.{fresh_on}
use Rattle.fs_scan.proofs.walk.Walk.new.Goals as goal

pub returns-clause-on : goal.returns-clause-on
returns-clause-on c bytes = fresh_on bytes _ (record { place = refl; last = refl; kept = c.new.ensures; ahead = rw c.new-2.ensures refl })
