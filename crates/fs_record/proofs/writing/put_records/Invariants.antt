use Rattle.std.proofs.Common.{◌≡◌, ◌≤◌, ◌+◌, ◌++◌, take, length}
use Rattle.std.specs.List.{flat_map, All}
use Rattle.std.specs.Vec.{vec_capacity}
use Rattle.fs_record.specs.Sizes.{records_size}
use Rattle.fs_record.specs.Spelling.{data_spelling}
use Rattle.fs_record.specs.Written.{records_of, FitsItem}
use Rattle.fs_record.proofs.writing.put_records.Given as goal

abbrev pub invariant-loop-item : goal.invariant-loop-item
invariant-loop-item l = record {
  items : l.out.items ≡ l.fn.out.items ++ flat_map data_spelling (records_of l.tid l.start (take l.item-index l.items));
  len : length l.out.items ≡ length l.fn.out.items + records_size (take l.item-index l.items);
  fits : All FitsItem (take l.item-index l.items);
  capacity : vec_capacity l.fn.out ≤ vec_capacity l.out;
}
