-- Bytes that are looked at together, and the run at their front that a test lets pass.
use Rattle.std.proofs.Common.{◌≡◌, ℕ, ◌+◌, ◌*◌, ◌<◌, ◌≤◌, ◌^◌, ◌%◌, ◌||◌, Bool, true, false, not, cond, eqb, List, [], ◌∷◌, map, length, drop, refl, sym, ap, ap₂, ◌∙◌, arith}
use Rattle.std.proofs.lemmas.Simd.{chunk-drop, length-chunk, leading_from_mask_l, trailing_mask_l, mask_l-mod}
use Rattle.std.proofs.lemmas.List.{length-map}
use Rattle.std.proofs.lemmas.List.Folds.{prefix_len-append}
use Rattle.std.proofs.lemmas.List.Sums.{prefix_len-le-length}
use Rattle.std.proofs.lemmas.Bool.{eq-eqb, ne_eqb}
use Rattle.std.specs.List.{prefix_len}
use lib.Bits.{bit_or}
use lib.Lanes.{chunk, mask_l, zip2, top}
use lib.Count.{count_trailing_zeros}

-- ---- one lane for each byte

-- the lane of a byte that a test lets pass, and that of another
abbrev pub lane : Bool → ℕ
lane t = cond t 255 0

abbrev pub hit : ℕ → ℕ → ℕ
hit a b = lane (eqb a b)

either_lane : (s t : Bool) → bit_or (lane s) (lane t) ≡ lane (s || t)
either_lane true true = refl
either_lane true false = refl
either_lane false true = refl
either_lane false false = refl

both_tests : (p q : ℕ → Bool) (v : List ℕ) → zip2 bit_or (map (λ x. lane (p x)) v) (map (λ x. lane (q x)) v) ≡ map (λ x. lane (p x || q x)) v
both_tests p q [] = refl
both_tests p q (x ∷ v) = ap₂ (λ a b. a ∷ b) (either_lane (p x) (q x)) (both_tests p q v)

-- the lanes of two tests, put together
pub either : (p q : ℕ → Bool) (v : List ℕ) {a b : List ℕ} → a ≡ map (λ x. lane (p x)) v → b ≡ map (λ x. lane (q x)) v → zip2 bit_or a b ≡ map (λ x. lane (p x || q x)) v
either p q v e f = ap₂ (zip2 bit_or) e f ∙ both_tests p q v

top_of : (t : Bool) → top 7 (lane t) ≡ t
top_of true = refl
top_of false = refl

tops : (p : ℕ → Bool) (v : List ℕ) → map (top 7) (map (λ x. lane (p x)) v) ≡ map p v
tops p [] = refl
tops p (x ∷ v) = ap₂ (λ a b. a ∷ b) (top_of (p x)) (tops p v)

-- the bits of the lanes are those of the test
pub masked : (p : ℕ → Bool) (v z : List ℕ) → length v ≤ 64 → z ≡ map (λ x. lane (p x)) v → mask_l (map (top 7) z) % 2 ^ 64 ≡ mask_l (map p v)
masked p v z short e = ap (λ l. mask_l l % 2 ^ 64) (ap (map (top 7)) e ∙ tops p v) ∙ mask_l-mod (map p v) 64 (omega (arith, length-map v p))

-- ---- the run at the front

none_fails : (b : Bool) (n l m : ℕ) → n ≤ l → cond (not b) (1 + n) 0 ≡ 1 + l → (n ≡ l → m ≡ 0) → cond b 1 0 + 2 * m ≡ 0
none_fails true n l m le e ih = let no : ⊥ = omega arith in absurd no
none_fails false n l m le e ih = let z = ih (omega arith) in omega arith

module _ (p : ℕ → Bool) where
  all_pass : (xs : List ℕ) → prefix_len (λ x. not (p x)) xs ≡ length xs → mask_l (map p xs) ≡ 0
  all_pass [] e = refl
  all_pass (x ∷ xs) e = none_fails (p x) _ (length xs) _ (prefix_len-le-length (λ y. not (p y)) xs) (omega arith) (all_pass xs)

  split : (d : List ℕ) (i n : ℕ) → prefix_len (λ x. not (p x)) (drop i d) ≡ cond (eqb (prefix_len (λ x. not (p x)) (chunk i n d)) (length (chunk i n d))) (length (chunk i n d) + prefix_len (λ x. not (p x)) (drop (i + n) d)) (prefix_len (λ x. not (p x)) (chunk i n d))
  split d i n = ap (prefix_len (λ x. not (p x))) (chunk-drop i n d) ∙ prefix_len-append (λ x. not (p x)) (chunk i n d) (drop (i + n) d)

  -- none of these bytes passes the test
  pub run_through : (d : List ℕ) (i n : ℕ) → i + n ≤ length d → mask_l (map p (chunk i n d)) ≡ 0 → prefix_len (λ x. not (p x)) (drop i d) ≡ n + prefix_len (λ x. not (p x)) (drop (i + n) d)
  run_through d i n room none =
      let c = chunk i n d in
      split d i n ∙ ap (λ b. cond b (length c + prefix_len (λ x. not (p x)) (drop (i + n) d)) (prefix_len (λ x. not (p x)) c)) (eq-eqb _ _ (leading_from_mask_l p c none))
      ∙ ap (λ k. k + prefix_len (λ x. not (p x)) (drop (i + n) d)) (length-chunk i n d room)

  -- one of them does
  pub run_stops : (d : List ℕ) (i n : ℕ) → i + n ≤ length d → n ≤ 64 → 0 < mask_l (map p (chunk i n d)) → prefix_len (λ x. not (p x)) (drop i d) ≡ count_trailing_zeros 64 (mask_l (map p (chunk i n d)))
  run_stops d i n room short some =
      let c = chunk i n d in
      split d i n ∙ ap (λ b. cond b (length c + prefix_len (λ x. not (p x)) (drop (i + n) d)) (prefix_len (λ x. not (p x)) c)) (ne_eqb _ _ (λ (e : prefix_len (λ x. not (p x)) c ≡ length c). omega (arith, all_pass c e)))
      ∙ sym (trailing_mask_l p 64 c (omega (arith, length-chunk i n d room)) some)
