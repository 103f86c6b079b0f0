-- Texts by bytes, each once, whatever their order was: they are put into their places one after another.
use Rattle.std.specs.Prelude.{ℕ, List, [], ◌∷◌}
use Rattle.std.specs.Ordering.{nat_cmp}
use Rattle.std.specs.Cmp.Lexicographic.{slice_cmp}
use Rattle.std.specs.BTreeSet.{insert_key}

-- with those that were put before
unfoldable pub sorted_with : List (List ℕ) → List (List ℕ) → List (List ℕ)
sorted_with before [] = before
sorted_with before (t ∷ ts) = sorted_with (insert_key (slice_cmp nat_cmp) before t) ts

abbrev pub sorted : List (List ℕ) → List (List ℕ)
sorted ts = sorted_with [] ts
