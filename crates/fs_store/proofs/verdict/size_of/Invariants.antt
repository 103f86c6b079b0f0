use Rattle.std.proofs.Common.{◌≡◌, ◌+◌, take, length, min}
use Rattle.std.specs.Prelude.{sum_by}
use Rattle.evaluator.specs.Settle.{size_of_entry}
use Rattle.zbase.specs.Limits.{greatest_number}
use Rattle.fs_store.proofs.verdict.size_of.Given as goal

-- the size with the entries so far
abbrev pub invariant-loop-entry : goal.invariant-loop-entry
invariant-loop-entry l = l.size ≡ min (31 + length l.draft.user + length l.draft.description + sum_by size_of_entry (take l.entry-index l.entry-items)) greatest_number
