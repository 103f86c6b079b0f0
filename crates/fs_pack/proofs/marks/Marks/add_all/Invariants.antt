use Rattle.std.proofs.Common.{◌≡◌, drop}
use Rattle.fs_pack.specs.Marked.{all_added}
use Rattle.fs_pack.proofs.marks.Marks.add_all.Given as goal

abbrev pub invariant-loop-oid : goal.invariant-loop-oid
invariant-loop-oid l = all_added (drop l.oid-index l.oids) l.self ≡ all_added l.oids l.fn.self
