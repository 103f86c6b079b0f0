use Rattle.std.proofs.Common.{◌≡◌, ◌++◌, drop, flat_map}
use Rattle.catalog.specs.Spelling.{posting_text}
use Rattle.catalog.proofs.spelling.write_index.Given as goal

abbrev pub invariant-loop-posting : goal.invariant-loop-posting
invariant-loop-posting l = l.out ++ flat_map posting_text (drop l.posting-index l.posting-items) ≡ l.initial.out ++ flat_map posting_text l.posting-items
