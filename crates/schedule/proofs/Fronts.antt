-- What is before the first byte of a kind, and numbers there.
use Rattle.std.proofs.Common.{◌≡◌, ℕ, ◌<◌, ◌≤◌, ◌^◌, List, [], ◌∷◌, ◌++◌, refl, sym, ap, subst, arith}
use Rattle.std.specs.Prelude.{decimal}
use Rattle.std.specs.Char.{digit_value}
use Rattle.std.specs.Str.Parse.{AllDigits}
use Rattle.std.specs.Str.{IsUtf8, IsAscii}
use Rattle.std.proofs.lemmas.Str.{IsUtf8-from_ascii}
use Rattle.std.proofs.lemmas.Fmt.{decimal_is_IsNumeral, IsAscii-decimal}
use Rattle.schedule.specs.Rows.{Lacks}

-- a text has one front before the first such byte
pub one_front : (byte : ℕ) (xs ys r s : List ℕ) → Lacks byte xs → Lacks byte ys → xs ++ byte ∷ r ≡ ys ++ byte ∷ s → (xs ≡ ys) × (r ≡ s)
one_front byte [] [] r s p q e = (refl, cc)
one_front byte (x ∷ xs) [] r s p q e = let h : x ≡ byte = cc in absurd (p.0 h)
one_front byte [] (y ∷ ys) r s p q e = let h : y ≡ byte = cc in absurd (q.0 h)
one_front byte (x ∷ xs) (y ∷ ys) r s p q e =
    let tails : xs ++ byte ∷ r ≡ ys ++ byte ∷ s = cc in
    let rest = one_front byte xs ys r s p.1 q.1 tails in
    let heads : x ≡ y = cc in
    let front : xs ≡ ys = rest.0 in
    (cc, rest.1)

-- a text with the byte doesn't lack it
pub has_byte : (byte : ℕ) (xs r : List ℕ) → Lacks byte (xs ++ byte ∷ r) → ⊥
has_byte byte [] r p = p.0 refl
has_byte byte (x ∷ xs) r p = has_byte byte xs r p.1

digits_lack : (byte : ℕ) (xs : List ℕ) → 10 ≤ digit_value byte → AllDigits 10 xs → Lacks byte xs
digits_lack byte [] f p = tt
digits_lack byte (x ∷ xs) f p = ((λ e. (let same = ap digit_value e in omega (arith, p.0, f, same))), digits_lack byte xs f p.1)

-- a number has none of the bytes that end it
pub decimal_lacks : (byte n : ℕ) → 10 ≤ digit_value byte → n < 2 ^ 64 → Lacks byte (decimal n)
decimal_lacks byte n f small = digits_lack byte (decimal n) f (decimal_is_IsNumeral n small).0.1

-- a number's text is UTF-8
pub IsUtf8-of_decimal : (bs : List ℕ) (n : ℕ) → n < 2 ^ 64 → bs ≡ decimal n → IsUtf8 bs
IsUtf8-of_decimal bs n small e = IsUtf8-from_ascii bs (subst (λ text. IsAscii text) (sym e) (IsAscii-decimal n small))
