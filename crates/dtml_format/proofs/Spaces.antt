-- The last space of a text, by its place.
use Rattle.std.proofs.Common.{◌≡◌, ℕ, zero, suc, ◌+◌, ◌<◌, ◌≤◌, ◌==◌, true, false, List, [], ◌∷◌, Option, Some, length, get_or, take, refl, sym, ap, ◌∙◌, arith, if◌then◌else◌}
use Rattle.dtml_format.specs.Shaping.{begins, chars, last_space}

-- no byte from that place on is a space
abbrev pub NoSpace : ℕ → List ℕ → Type 0
NoSpace from xs = (j : ℕ) → from ≤ j → j < length xs → (get_or xs j 0 == 32) ≡ false

pub none_found : (found : Option ℕ) (n : ℕ) (xs : List ℕ) → NoSpace 0 xs → last_space found n xs ≡ found
unfolding last_space
none_found found n [] none = refl
none_found found n (x ∷ xs) none =
    let first : (x == 32) ≡ false = none 0 (omega arith) (omega arith) in
    ap (λ t. last_space (if t then Some n else found) (if begins x then suc n else n) xs) first
    ∙ none_found found (if begins x then suc n else n) xs (λ j le lt. none (suc j) (omega arith) (omega (arith, lt)))

pub found_at : (found : Option ℕ) (n : ℕ) (xs : List ℕ) (k : ℕ) → k < length xs → (get_or xs k 0 == 32) ≡ true → NoSpace (k + 1) xs → last_space found n xs ≡ Some (n + chars (take k xs))
unfolding last_space chars
found_at found n [] k lt is none = grind arith
found_at found n (x ∷ xs) zero lt is none =
    let same : n + 0 ≡ n = omega arith in
    ap (λ t. last_space (if t then Some n else found) (if begins x then suc n else n) xs) is
    ∙ none_found (Some n) (if begins x then suc n else n) xs (λ j le less. none (suc j) (omega arith) (omega (arith, less)))
    ∙ ap (λ m. Some m) (sym same)
found_at found n (x ∷ xs) (suc k) lt is none =
    found_at (if x == 32 then Some n else found) (if begins x then suc n else n) xs k (omega (arith, lt)) is (λ j le less. none (suc j) (omega (arith, le)) (omega (arith, less)))
    ∙ ap (λ m. Some m) (elim (begins x) as (λ t. (if t then suc n else n) + chars (take k xs) ≡ n + (if t then suc (chars (take k xs)) else chars (take k xs))) [ true ↦ omega arith | false ↦ refl ])
