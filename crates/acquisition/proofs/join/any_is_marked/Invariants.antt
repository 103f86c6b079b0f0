use Rattle.std.proofs.Common.{◌≡◌, take}
use Rattle.std.specs.List.{list_any}
use Rattle.acquisition.specs.Marks.{is_marked}
use Rattle.acquisition.proofs.join.any_is_marked.Given as goal

abbrev pub invariant-loop-oid : goal.invariant-loop-oid
invariant-loop-oid l = l.any ≡ list_any (is_marked l.marks) (take l.oid-index l.oids)
