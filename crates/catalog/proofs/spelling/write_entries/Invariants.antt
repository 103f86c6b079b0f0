use Rattle.std.proofs.Common.{◌≡◌, ◌++◌, drop, flat_map}
use Rattle.catalog.specs.Spelling.{entry_text}
use Rattle.catalog.proofs.spelling.write_entries.Given as goal

abbrev pub invariant-loop-entry : goal.invariant-loop-entry
invariant-loop-entry l = l.out ++ flat_map entry_text (drop l.entry-index l.entry-items) ≡ flat_map entry_text l.entry-items
