use Rattle.std.proofs.Common.{◌≡◌, take}
use Rattle.fs_record.specs.Sizes.{records_size}
use Rattle.fs_record.proofs.sizes.records_size.Given as goal

abbrev pub invariant-loop-item : goal.invariant-loop-item
invariant-loop-item l = l.size ≡ records_size (take l.item-index l.items)
