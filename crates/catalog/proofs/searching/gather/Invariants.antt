use Rattle.std.proofs.Common.{◌≡◌, ◌++◌, drop, flat_map}
use Rattle.catalog.specs.Postings.{oids_under}
use Rattle.catalog.proofs.searching.gather.Given as goal

abbrev pub invariant-loop-key : goal.invariant-loop-key
invariant-loop-key l = l.ids.items ++ flat_map (λ key. oids_under key l.postings) (drop l.key-index l.keys) ≡ flat_map (λ key. oids_under key l.postings) l.keys
