-- The key of a name, as loops find it, and keys that rise when they are sorted.
use Rattle.std.proofs.Common.{◌≡◌, ℕ, suc, ◌+◌, ◌*◌, List, take, drop, slice_index_or, Ordering, Less, Equal, Greater, refl, ap, ◌∙◌, nat_cmp, is_eq, arith}
use Rattle.std.specs.Int.{w64, from_be_bytes}
use Rattle.std.specs.List.{IsDistinct}
use Rattle.std.specs.List.Sorted.{IsPermutation, IsStrictlySortedBy}
use Rattle.std.specs.Ordering.{eq_by_cmp, ordering_reverse}
use Rattle.std.proofs.lemmas.Cmp.{nat_cmp_total}
use Rattle.std.proofs.lemmas.List.Sorted.{IsPermutation-sym}
use Rattle.std.proofs.lemmas.Map.Keys.{IsDistinct-from_sorted, IsDistinct-IsPermutation}
use Rattle.name_keys.specs.Keys.{bytes_key, mixed, words_key}

pub words_more : (n : ℕ) (name : List ℕ) → words_key (n + 1) name ≡ mixed (words_key n name) (from_be_bytes w64 (take 8 (drop (8 * n) name)))
unfolding words_key
words_more n name = let k : n + 1 ≡ suc n = omega arith in rw k refl

pub bytes_more : (start n : ℕ) (bytes : List ℕ) → bytes_key start (n + 1) bytes ≡ mixed (bytes_key start n bytes) (slice_index_or bytes n 0)
unfolding bytes_key
bytes_more start n bytes = let k : n + 1 ≡ suc n = omega arith in rw k refl

turned : (o : Ordering) → is_eq (ordering_reverse o) ≡ is_eq o
turned Less = refl
turned Equal = refl
turned Greater = refl

pub keys_apart : (old new : List ℕ) → IsPermutation old new → IsStrictlySortedBy nat_cmp new → IsDistinct (eq_by_cmp nat_cmp) old
keys_apart old new moved sorted =
    IsDistinct-IsPermutation (eq_by_cmp nat_cmp) (λ x y. ap is_eq (nat_cmp_total.antisymm x y) ∙ turned (nat_cmp y x)) new old (IsPermutation-sym old new moved) (IsDistinct-from_sorted nat_cmp new sorted)
