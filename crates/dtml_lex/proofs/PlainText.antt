-- Plain text reaches to the next tag or entity, and no further.
use Rattle.std.proofs.Common.{◌≡◌, ℕ, zero, suc, ◌<◌, ◌≤◌, ◌⊎◌, inl, inr, true, false, cond, List, [], ◌∷◌, ◌++◌, length, take, drop, refl, sym, subst, arith}
use Rattle.std.proofs.lemmas.List.{take-append-drop, length-take-le}
use Rattle.dtml_lex.specs.Spelling.{BeginsPart, IsPlain}
use Rattle.dtml_lex.specs.Reading.{begins, begins_part, plain_len}
use Rattle.dtml_lex.proofs.Beginnings.{begins_yes, begins_no}

plain_before : (bs : List ℕ) (n : ℕ) → n < plain_len bs → begins_part (drop n bs) ≡ false
unfolding plain_len
plain_before [] n lt = absurd (omega arith)
plain_before (b ∷ bs) zero lt = (elim (begins_part (b ∷ bs)) as (λ t. 0 < cond t 0 (suc (plain_len bs)) → t ≡ false) [
  | true ↦ λ h. absurd (omega arith)
  | false ↦ λ h. refl
]) lt
plain_before (b ∷ bs) (suc n) lt = (elim (begins_part (b ∷ bs)) as (λ t. suc n < cond t 0 (suc (plain_len bs)) → begins_part (drop n bs) ≡ false) [
  | true ↦ λ h. absurd (omega arith)
  | false ↦ λ h. plain_before bs n (omega arith)
]) lt

plain_behind : (bs : List ℕ) → (drop (plain_len bs) bs ≡ []) ⊎ (begins_part (drop (plain_len bs) bs) ≡ true)
unfolding plain_len
plain_behind [] = inl refl
plain_behind (b ∷ bs) = (elim (begins_part (b ∷ bs)) as (λ t. begins_part (b ∷ bs) ≡ t → (drop (cond t 0 (suc (plain_len bs))) (b ∷ bs) ≡ []) ⊎ (begins_part (drop (cond t 0 (suc (plain_len bs))) (b ∷ bs)) ≡ true)) [
  | true ↦ λ e. inr e
  | false ↦ λ e. plain_behind bs
]) refl

plain_within : (bs : List ℕ) → plain_len bs ≤ length bs
unfolding plain_len
plain_within [] = omega arith
plain_within (b ∷ bs) = (elim (begins_part (b ∷ bs)) as (λ t. cond t 0 (suc (plain_len bs)) ≤ length (b ∷ bs)) [
  | true ↦ omega arith
  | false ↦ let h = plain_within bs in omega arith
])

plain_some : (bs : List ℕ) → 0 < length bs → begins_part bs ≡ false → 0 < plain_len bs
unfolding plain_len
plain_some [] some other = absurd (omega arith)
plain_some (b ∷ bs) some other = rw other (omega arith)

pub plain_is : (bs : List ℕ) → 0 < length bs → begins_part bs ≡ false → IsPlain (take (plain_len bs) bs) (drop (plain_len bs) bs)
plain_is bs some other =
    let within = plain_within bs in
    let long : length (take (plain_len bs) bs) ≡ plain_len bs = length-take-le (plain_len bs) bs within in
    let positive = plain_some bs some other in
    let inside = λ (n : ℕ) (lt : n < length (take (plain_len bs) bs)).
    subst (λ (t : List ℕ). ¬ BeginsPart (drop n t)) (sym (take-append-drop (plain_len bs) bs)) (begins_no (drop n bs) (plain_before bs n (omega arith))) in
    let end = elim (plain_behind bs) as (λ _. (drop (plain_len bs) bs ≡ []) ⊎ BeginsPart (drop (plain_len bs) bs)) [
      | inl nothing ↦ inl nothing
      | inr begins ↦ inr (begins_yes (drop (plain_len bs) bs) begins)
    ] in
    (omega arith, inside, end)

pub plain_read : (plain rest : List ℕ) → ((n : ℕ) → n < length plain → begins_part (drop n (plain ++ rest)) ≡ false) → (rest ≡ []) ⊎ (begins_part rest ≡ true) → plain_len (plain ++ rest) ≡ length plain
unfolding plain_len
plain_read [] [] inside end = refl
plain_read [] (b ∷ bs) inside (inl nothing) = absurd cc
plain_read [] (b ∷ bs) inside (inr begins) = rw begins refl
plain_read (b ∷ plain) rest inside end =
    let more = plain_read plain rest (λ n lt. inside (suc n) (omega arith)) end in
    rw (inside 0 (omega arith)) (omega arith)
