use Rattle.std.proofs.Common.{◌≡◌, ◌||◌, ℕ, List, drop}
use Rattle.zobject.specs.Sorting.{sorted, sorted_with}
use Rattle.manage.specs.Becoming.{is_among}
use Rattle.manage.specs.Naming.{has, keys_now}
use Rattle.manage.proofs.naming.set_of.Given as goal

abbrev pub invariant-loop-text : goal.invariant-loop-text
invariant-loop-text l = (sorted_with (keys_now l.set) (drop l.text-index l.texts) ≡ sorted l.texts)
    × ((q : List ℕ) → (has l.set q || is_among (drop l.text-index l.texts) q) ≡ is_among l.texts q)
