use Rattle.std.proofs.Common.{◌≡◌, ◌++◌, drop, map}
use Rattle.catalog.specs.Reading.{entry_from, parts}
use Rattle.catalog.proofs.reading.entries_in.Given as goal

abbrev pub invariant-loop-line : goal.invariant-loop-line
invariant-loop-line l = l.entries ++ map (λ text. entry_from (parts 32 text)) (map (λ line. line.now) (drop l.line-index l.line-items)) ≡ map (λ text. entry_from (parts 32 text)) (map (λ line. line.now) l.line-items)
