use Rattle.std.proofs.Common.{◌≡◌, ℕ, ◌+◌, drop}
use Rattle.fs_index.specs.Places.{place_of}
use Rattle.fs_scan.specs.Wholes.{records_in}
use Rattle.fs_pack.specs.Numbered.{last_number, oids_of}
use Rattle.fs_pack.proofs.surveying.number_on.Given as goal

-- the numbers with those of the rest are the numbers of all
abbrev pub invariant-loop-value : goal.invariant-loop-value
invariant-loop-value l = record {
  newest : (o : ℕ) → last_number o (place_of l.newest o) l.number (oids_of (records_in (drop l.value-index l.values))) ≡ last_number o (place_of l.fn.newest o) l.fn.first (oids_of (records_in l.values));
  records : l.number ≡ l.fn.first + l.value-index;
}
