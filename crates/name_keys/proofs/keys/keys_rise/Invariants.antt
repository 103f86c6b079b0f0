use Rattle.std.proofs.Common.{ℕ, ◌+◌, ◌<◌, slice_index_or}
use Rattle.name_keys.proofs.keys.keys_rise.Given as goal

abbrev pub invariant-loop-later : goal.invariant-loop-later
invariant-loop-later l = (k : ℕ) → k + 1 < l.later → slice_index_or l.keys k 0 < slice_index_or l.keys (k + 1) 0
