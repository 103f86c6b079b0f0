-- Whole blocks at the front of a text, and the characters that begin in them.
use Rattle.std.proofs.Common.{◌≡◌, ℕ, zero, suc, ◌+◌, ◌-◌, ◌<◌, ◌≤◌, Bool, true, false, List, [], ◌∷◌, ◌++◌, length, get_or, take, drop, refl, sym, ap, ◌∙◌, append_assoc, arith, nat_lt, if◌then◌else◌}
use Rattle.std.specs.Str.{IsCharBoundary}
use Rattle.std.proofs.lemmas.Bool.Decides.{nat_tests}
use Rattle.std.proofs.lemmas.List.{take-append-drop, length-take, length-drop, drop-drop, get_or-drop, take_all, take_more}
use mir.Val.{bool_byte}
use Rattle.dtml_format.specs.Shaping.{begins, first_chars, chars}

parts : (at n : ℕ) (xs : List ℕ) → at + n ≤ length xs → (drop at xs ≡ take n (drop at xs) ++ drop (at + n) xs) × (length (take n (drop at xs)) ≡ n)
parts at n xs le =
    (sym (take-append-drop n (drop at xs)) ∙ ap (λ r. take n (drop at xs) ++ r) (drop-drop n at xs), omega (arith, length-take n (drop at xs), length-drop at xs))

-- ---- characters

pub chars_of_parts : (ys zs : List ℕ) → chars (ys ++ zs) ≡ chars ys + chars zs
unfolding chars
chars_of_parts [] zs = omega arith
chars_of_parts (y ∷ ys) zs =
    let rest = chars_of_parts ys zs in
    elim (begins y) as (λ t. (if t then suc (chars (ys ++ zs)) else chars (ys ++ zs)) ≡ (if t then suc (chars ys) else chars ys) + chars zs) [ true ↦ omega (arith, rest) | false ↦ rest ]

pub few_chars : (ys : List ℕ) → chars ys ≤ length ys
unfolding chars
few_chars [] = omega arith
few_chars (y ∷ ys) =
    let rest = few_chars ys in
    elim (begins y) as (λ t. (if t then suc (chars ys) else chars ys) ≤ suc (length ys)) [ true ↦ omega (arith, rest) | false ↦ omega (arith, rest) ]

one_byte : (b : ℕ) → chars (b ∷ []) ≡ bool_byte (begins b)
unfolding chars
one_byte b = elim (begins b) as (λ t. (if t then 1 else 0) ≡ bool_byte t) [ true ↦ refl | false ↦ refl ]

-- one byte more of a block
pub one_byte_more : (xs : List ℕ) (i n : ℕ) (t : Bool) → i < length xs → t ≡ begins (get_or xs i 0) → n ≡ chars (take i xs) → n + bool_byte t ≡ chars (take (i + 1) xs)
one_byte_more xs i n t lt e is =
    ap (λ k. k + bool_byte t) is
    ∙ ap (λ u. chars (take i xs) + bool_byte u) e
    ∙ ap (λ k. chars (take i xs) + k) (sym (one_byte (get_or xs i 0)))
    ∙ sym (chars_of_parts (take i xs) (get_or xs i 0 ∷ []))
    ∙ ap chars (sym (take_more xs i 0 lt))

pub no_more_than_one : (t : Bool) → bool_byte t ≤ 1
no_more_than_one true = omega arith
no_more_than_one false = omega arith

pub block_counted : (xs : List ℕ) (at n count : ℕ) → at + n ≤ length xs → count + chars (drop at xs) ≡ chars xs → (count + chars (take n (drop at xs))) + chars (drop (at + n) xs) ≡ chars xs
block_counted xs at n count le is =
    let cut = parts at n xs le in
    let one : chars (drop at xs) ≡ chars (take n (drop at xs)) + chars (drop (at + n) xs) = ap chars cut.0 ∙ chars_of_parts (take n (drop at xs)) (drop (at + n) xs) in
    omega (arith, one, is)

-- the first characters have these bytes, and others behind
has_these : (left : ℕ) (ys zs : List ℕ) → chars ys ≤ left → first_chars left (ys ++ zs) ≡ ys ++ first_chars (left - chars ys) zs
unfolding first_chars chars
has_these left [] zs le = let same : left - 0 ≡ left = omega arith in ap (λ k. first_chars k zs) (sym same)
has_these zero (y ∷ ys) zs le = (elim (begins y) as (λ t. begins y ≡ t → (if t then suc (chars ys) else chars ys) ≤ 0 → (if t then [] else y ∷ first_chars 0 (ys ++ zs)) ≡ (y ∷ ys) ++ first_chars (0 - (if t then suc (chars ys) else chars ys)) zs) [
  | true ↦ λ e fewer. grind arith
  | false ↦ λ e fewer. ap (λ r. y ∷ r) (has_these zero ys zs fewer)
]) refl le
has_these (suc left) (y ∷ ys) zs le = (elim (begins y) as (λ t. begins y ≡ t → (if t then suc (chars ys) else chars ys) ≤ suc left → (if t then y ∷ first_chars left (ys ++ zs) else y ∷ first_chars (suc left) (ys ++ zs)) ≡ (y ∷ ys) ++ first_chars (suc left - (if t then suc (chars ys) else chars ys)) zs) [
  | true ↦ λ e fewer.
      let same : suc left - suc (chars ys) ≡ left - chars ys = omega arith in
      rw same (ap (λ r. y ∷ r) (has_these left ys zs (omega (arith, fewer))))
  | false ↦ λ e fewer. ap (λ r. y ∷ r) (has_these (suc left) ys zs fewer)
]) refl le

nothing : (n : ℕ) → take {A = ℕ} n [] ≡ []
nothing zero = refl
nothing (suc n) = refl

pub take_parts : (xs : List ℕ) (at n : ℕ) → take (at + n) xs ≡ take at xs ++ take n (drop at xs)
take_parts xs zero n = let same : 0 + n ≡ n = omega arith in ap (λ k. take k xs) same
take_parts [] (suc at) n = let next : suc at + n ≡ suc (at + n) = omega arith in rw next (sym (nothing n))
take_parts (x ∷ xs) (suc at) n = let next : suc at + n ≡ suc (at + n) = omega arith in rw next (ap (λ r. x ∷ r) (take_parts xs at n))

-- a block that the first characters have
pub block_taken : (xs all : List ℕ) (at n left : ℕ) → at + n ≤ length xs → chars (take n (drop at xs)) ≤ left → take at xs ++ first_chars left (drop at xs) ≡ all
    → take (at + n) xs ++ first_chars (left - chars (take n (drop at xs))) (drop (at + n) xs) ≡ all
block_taken xs all at n left le few is =
    let cut = parts at n xs le in
    let one : first_chars left (drop at xs) ≡ take n (drop at xs) ++ first_chars (left - chars (take n (drop at xs))) (drop (at + n) xs) = ap (first_chars left) cut.0 ∙ has_these left (take n (drop at xs)) (drop (at + n) xs) few in
    ap (λ r. r ++ first_chars (left - chars (take n (drop at xs))) (drop (at + n) xs)) (take_parts xs at n)
    ∙ append_assoc (take at xs) (take n (drop at xs)) (first_chars (left - chars (take n (drop at xs))) (drop (at + n) xs))
    ∙ ap (λ r. take at xs ++ r) (sym one) ∙ is

pub block_is_more : (xs : List ℕ) (t : Bool) (at n left : ℕ) → at + n ≤ length xs → chars (take n (drop at xs)) ≤ left → nat_lt left (chars (drop at xs)) ≡ t → nat_lt (left - chars (take n (drop at xs))) (chars (drop (at + n) xs)) ≡ t
block_is_more xs t at n left le few is =
    let cut = parts at n xs le in
    let one : chars (drop at xs) ≡ chars (take n (drop at xs)) + chars (drop (at + n) xs) = ap chars cut.0 ∙ chars_of_parts (take n (drop at xs)) (drop (at + n) xs) in
    let less : nat_lt (left - chars (take n (drop at xs))) (chars (drop (at + n) xs)) ≡ nat_lt left (chars (drop at xs)) = grind (arith, nat_tests) in
    less ∙ is

-- ---- behind the blocks

-- a slice to the end
pub to_the_end : (xs : List ℕ) (at : ℕ) → take (length xs - at) (drop at xs) ≡ drop at xs
to_the_end xs at = take_all (length xs - at) (drop at xs) (omega (arith, length-drop at xs))

pub is_behind : (xs all : List ℕ) (at left n : ℕ) → take at xs ++ first_chars left (drop at xs) ≡ all → take n (take (length xs - at) (drop at xs)) ≡ first_chars left (take (length xs - at) (drop at xs)) → take (at + n) xs ≡ all
is_behind xs all at left n is e =
    let rest : take n (drop at xs) ≡ first_chars left (drop at xs) = ap (take n) (sym (to_the_end xs at)) ∙ e ∙ ap (first_chars left) (to_the_end xs at) in
    take_parts xs at n ∙ ap (λ r. take at xs ++ r) rest ∙ is

pub more_behind : (xs : List ℕ) (at n : ℕ) (s t : Bool) → at ≤ length xs → nat_lt n (length (drop at xs)) ≡ s → s ≡ t → nat_lt (at + n) (length xs) ≡ t
more_behind xs at n s t le is e =
    let rest = length-drop at xs in
    let same : nat_lt (at + n) (length xs) ≡ nat_lt n (length (drop at xs)) = grind (arith, nat_tests) in
    same ∙ is ∙ e

pub boundary_behind : (xs : List ℕ) (at n : ℕ) → at ≤ length xs → IsCharBoundary (drop at xs) n → IsCharBoundary xs (at + n)
boundary_behind xs at n le b =
    let rest = length-drop at xs in
    (omega (arith, b.0, rest), λ lt high. rw (← get_or-drop at xs n 0) (b.1 (omega (arith, lt, rest)) (rw (get_or-drop at xs n 0) high)))
