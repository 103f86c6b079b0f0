use Rattle.std.proofs.Common.{◌≡◌, ◌+◌, ◌<◌, ◌^◌, ℕ, drop}
use Rattle.fs_index.specs.Places.{HasRoom, place_of}
use Rattle.fs_record.specs.File.{last_place}
use Rattle.fs_record.specs.Sizes.{records_size}
use Rattle.fs_scan.specs.Newest.{place_in}
use Rattle.fs_store.specs.Placed.{item_rows}
use Rattle.fs_store.proofs.finishing.put_all.Given as goal

-- with the items that are left the places are those of all
abbrev pub invariant-loop-item : goal.invariant-loop-item
invariant-loop-item l = record {
  left : (o : ℕ) → last_place o (place_in (place_of l.index o)) (item_rows l.place (drop l.item-index l.items)) ≡ last_place o (place_in (place_of l.fn.index o)) (item_rows l.first l.items);
  room : (o : ℕ) → HasRoom l.fn.index o → HasRoom l.index o;
  fits : l.place + records_size (drop l.item-index l.items) < 2 ^ 48;
}
