use Rattle.std.proofs.Common.{◌≡◌, ◌++◌}
use Rattle.std.specs.Prelude.{All}
use Rattle.std.specs.Vec.Iter.{into_iter_items}
use Rattle.fs_index.specs.Places.{place_of}
use Rattle.fs_record.specs.Written.{HasBody}
use Rattle.fs_scan.specs.Wholes.{records_in}
use Rattle.fs_pack.specs.Output.{items_with}
use Rattle.fs_pack.proofs.writing.Output.items_of.Given as goal

-- the records so far, and those of the values that are left
abbrev pub invariant-loop-value : goal.invariant-loop-value
invariant-loop-value l = record {
  items : l.items ++ items_with (place_of l.self.newest) (records_in (into_iter_items l.value-iterator)) ≡ items_with (place_of l.self.newest) (records_in l.fn.values);
  bodies : All HasBody l.items;
}
