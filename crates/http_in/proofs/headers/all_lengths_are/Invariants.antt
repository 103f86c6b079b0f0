use Rattle.std.proofs.Common.{◌≡◌, drop}
use Rattle.std.specs.List.{list_all}
use Rattle.http_in.specs.Headers.{is_same_length}
use Rattle.http_in.proofs.headers.all_lengths_are.Given as goal

-- all have that length if all that are left have it
abbrev pub invariant-loop-at : goal.invariant-loop-at
invariant-loop-at l = list_all (is_same_length l.value) l.all ≡ list_all (is_same_length l.value) (drop l.at l.all)
