use Rattle.std.proofs.Common.{◌≡◌, ◌<◌, ℕ, slice_index_or}
use Rattle.fs_index.specs.Places.{HasRoom, place_of}
use Rattle.fs_index.proofs.index.Index.reserve.Given as goal

-- places stay, and the objects so far have room
abbrev pub invariant-loop-oid : goal.invariant-loop-oid
invariant-loop-oid l = record {
  places : (o : ℕ) → place_of l.self o ≡ place_of l.fn.self o;
  keeps : (o : ℕ) → HasRoom l.fn.self o → HasRoom l.self o;
  room : (k d : ℕ) → k < l.oid-index → HasRoom l.self (slice_index_or l.oids k d);
}
