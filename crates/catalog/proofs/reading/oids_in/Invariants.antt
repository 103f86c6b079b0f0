use Rattle.std.proofs.Common.{◌≡◌, ◌++◌, drop, map}
use Rattle.catalog.specs.Reading.{number_of}
use Rattle.catalog.proofs.reading.oids_in.Given as goal

abbrev pub invariant-loop-part : goal.invariant-loop-part
invariant-loop-part l = l.oids ++ map number_of (map (λ part. part.now) (drop l.part-index l.part-items)) ≡ map number_of (map (λ part. part.now) l.part-items)
