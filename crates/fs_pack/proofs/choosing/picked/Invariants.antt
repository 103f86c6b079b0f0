use Rattle.std.proofs.Common.{◌≡◌, ◌++◌, drop}
use Rattle.fs_pack.specs.Chosen.{picked}
use Rattle.fs_scan.specs.Wholes.{records_in}
use Rattle.fs_pack.proofs.choosing.picked.Given as goal

-- what was picked, and what the marks that are left pick of the rest
abbrev pub invariant-loop-value : goal.invariant-loop-value
invariant-loop-value l = records_in l.stay ++ picked (drop l.number l.marks) (records_in l.value-iterator.rest.items) ≡ picked (drop l.fn.number l.fn.marks) (records_in l.fn.values)
