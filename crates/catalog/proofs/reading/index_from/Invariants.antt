use Rattle.std.proofs.Common.{◌≡◌, ◌++◌, drop, map}
use Rattle.catalog.specs.Reading.{parts, posting_from}
use Rattle.catalog.proofs.reading.index_from.Given as goal

abbrev pub invariant-loop-key : goal.invariant-loop-key
invariant-loop-key l = l.postings ++ map (λ text. posting_from (parts 32 text)) (map (λ line. line.now) (drop l.key-index l.keys)) ≡ map (λ text. posting_from (parts 32 text)) (map (λ line. line.now) l.keys)
