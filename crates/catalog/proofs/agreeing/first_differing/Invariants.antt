use Rattle.std.proofs.Common.{ℕ, ◌<◌}
use Rattle.catalog.specs.Agreeing.{IsInverse}
use Rattle.catalog.specs.Hits.{postings_of}
use Rattle.catalog.proofs.agreeing.first_differing.Given as goal

-- the indexes so far are inverses
abbrev pub invariant-loop-at : goal.invariant-loop-at
invariant-loop-at l = (i : ℕ) → i < l.at → IsInverse i l.contents.entries (postings_of i l.contents.indexes)
