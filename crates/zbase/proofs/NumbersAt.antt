-- Numbers of eight and two bytes at a place of a list.
use Rattle.std.proofs.Common.{◌≡◌, ℕ, ◌+◌, ◌<◌, ◌≤◌, List, ◌++◌, length, get_or, take, drop, sym, ap, ◌∙◌, arith, inl, inr}
use Rattle.std.specs.Int.{w16, w64, to_be_bytes, from_be_bytes}
use Rattle.std.proofs.lemmas.List.{take-append-drop, length-take, length-drop, drop-drop, get_or-drop, get_or-take, get_or_past}
use Rattle.std.proofs.lemmas.Bool.{cases_lt}
use Rattle.std.proofs.lemmas.Nat.{be_bytes_2, be_bytes_8}
use Rattle.zbase.specs.Numbers.{be64, be16}

-- n is what the first eight bytes spell
pub be64_is : (bytes : List ℕ) (n at k : ℕ) → at + 8 ≤ length bytes → k ≡ 8 → ((i : ℕ) → get_or (take k (drop at bytes)) i 0 < 256) → n ≡ from_be_bytes w64 (take k (drop at bytes)) → drop at bytes ≡ be64 n ++ drop (at + 8) bytes
unfolding be64
be64_is bytes n at k long same fits e =
    let len : length (take k (drop at bytes)) ≡ 8 = omega (arith, length-take k (drop at bytes), length-drop at bytes) in
    let front : to_be_bytes w64 n ≡ take 8 (drop at bytes) = be_bytes_8 (take k (drop at bytes)) n len fits e ∙ ap (λ (j : ℕ). take j (drop at bytes)) same in
    sym (take-append-drop 8 (drop at bytes)) ∙ ap (λ (x : List ℕ). x ++ drop 8 (drop at bytes)) (sym front) ∙ ap (λ (x : List ℕ). to_be_bytes w64 n ++ x) (drop-drop 8 at bytes)

pub be16_is : (bytes : List ℕ) (n at k : ℕ) → at + 2 ≤ length bytes → k ≡ 2 → ((i : ℕ) → get_or (take k (drop at bytes)) i 0 < 256) → n ≡ from_be_bytes w16 (take k (drop at bytes)) → drop at bytes ≡ be16 n ++ drop (at + 2) bytes
unfolding be16
be16_is bytes n at k long same fits e =
    let len : length (take k (drop at bytes)) ≡ 2 = omega (arith, length-take k (drop at bytes), length-drop at bytes) in
    let front : to_be_bytes w16 n ≡ take 2 (drop at bytes) = be_bytes_2 (take k (drop at bytes)) n len fits e ∙ ap (λ (j : ℕ). take j (drop at bytes)) same in
    sym (take-append-drop 2 (drop at bytes)) ∙ ap (λ (x : List ℕ). x ++ drop 2 (drop at bytes)) (sym front) ∙ ap (λ (x : List ℕ). to_be_bytes w16 n ++ x) (drop-drop 2 at bytes)

abbrev pub IsBytes : List ℕ → Type 0
IsBytes bytes = (i : ℕ) → get_or bytes i 0 < 256

pub IsBytes-drop : (n : ℕ) (bytes : List ℕ) → IsBytes bytes → IsBytes (drop n bytes)
IsBytes-drop n bytes h i = rw get_or-drop (h (n + i))

pub IsBytes-take : (n : ℕ) (bytes : List ℕ) → IsBytes bytes → IsBytes (take n bytes)
IsBytes-take n bytes h i =
    elim (cases_lt i n) [
      | inl lt ↦ rw (get_or-take n bytes i 0 lt) (h i)
      | inr le ↦ rw (get_or_past (take n bytes) i 0 (omega (arith, length-take n bytes))) (omega arith)
    ]

pub IsBytes-part : (n at : ℕ) (bytes : List ℕ) → IsBytes bytes → IsBytes (take n (drop at bytes))
IsBytes-part n at bytes h = IsBytes-take n (drop at bytes) (IsBytes-drop at bytes h)
