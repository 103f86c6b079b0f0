use Rattle.std.proofs.Common.{◌≡◌, ◌<◌, ℕ}
use Rattle.std.specs.Prelude.{slice_index_or}
use Rattle.fs_record.specs.declared.body.Item.{Item}
use Rattle.fs_index.specs.Places.{HasRoom, place_of}
use Rattle.fs_store.proofs.voting.reserve_all.Given as goal

-- places stay, and the objects of the items so far have room
abbrev pub invariant-loop-item : goal.invariant-loop-item
invariant-loop-item l = record {
  places : (o : ℕ) → place_of l.index o ≡ place_of l.fn.index o;
  room : (k : ℕ) (d : Item) → k < l.item-index → HasRoom l.index (slice_index_or l.items k d).oid;
}
