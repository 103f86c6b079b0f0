use Rattle.std.proofs.Common.{◌≡◌, drop}
use Rattle.fs_scan.specs.Wholes.{records_in}
use Rattle.fs_pack.specs.Measured.{plus_records}
use Rattle.fs_pack.proofs.tallying.plus_values.Given as goal

-- with the rest it is the size with all
abbrev pub invariant-loop-value : goal.invariant-loop-value
invariant-loop-value l = plus_records l.size (records_in (drop l.value-index l.values)) ≡ plus_records l.fn.size (records_in l.values)
