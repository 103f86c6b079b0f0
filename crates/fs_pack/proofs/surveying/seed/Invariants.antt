use Rattle.std.proofs.Common.{◌≡◌, drop}
use Rattle.fs_scan.specs.Wholes.{records_in}
use Rattle.fs_pack.specs.Surveyed.{failing, seeded}
use Rattle.fs_pack.proofs.surveying.seed.Given as goal

-- what the rest adds to what is there is what all add
abbrev pub invariant-loop-value : goal.invariant-loop-value
invariant-loop-value g l = record {
  kept : seeded g.L.Links.linked (records_in (drop l.value-index l.values)) l.kept ≡ seeded g.L.Links.linked (records_in l.values) l.fn.kept;
  broken : failing g.L.Links.linked (records_in (drop l.value-index l.values)) l.broken ≡ failing g.L.Links.linked (records_in l.values) l.fn.broken;
}
