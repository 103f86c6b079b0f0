-- Each byte of a text is below 256.
use lib.Utf8.{encode, encodes, scalar, scalar_cases, scalars}
use Rattle.std.proofs.Common.{ℕ, ◌+◌, ◌/◌, ◌%◌, ◌<◌, ◌≡◌, refl, subst, arith, Bool, true, false, ◌&&◌, List, [], ◌∷◌, ◌++◌, cond, nat_lt, inl, inr}
use Rattle.std.specs.List.{AllByRecursion}
use Rattle.std.specs.Str.{is_utf8}
use Rattle.std.proofs.lemmas.Bool.Decides.{nat_tests}
use Rattle.std.proofs.lemmas.Str.{IsUtf8-from_is_utf8}

abbrev pub AreBytes : List ℕ → Type 0
AreBytes bytes = AllByRecursion (λ b. b < 256) bytes

below : (o n : ℕ) → nat_lt o n ≡ true → o < n
below o n e = grind (arith, nat_tests)

in_range : (c : ℕ) → scalar c ≡ true → c < 1114112
in_range c is = elim (scalar_cases c is) [ inl h ↦ omega (arith, h) | inr h ↦ omega (arith, h) ]

encode_bytes : (c : ℕ) → scalar c ≡ true → AreBytes (encode c)
unfolding encode
encode_bytes c is = at (nat_lt c 128) (nat_lt c 2048) (nat_lt c 65536) refl refl refl
  where
    few : c < 1114112
    few = in_range c is

    last : (n : ℕ) → 128 + n % 64 < 256
    last n = omega arith

    at : (x y z : Bool) → nat_lt c 128 ≡ x → nat_lt c 2048 ≡ y → nat_lt c 65536 ≡ z →
        AreBytes (cond x (c ∷ []) (cond y ((192 + c / 64) ∷ (128 + c % 64) ∷ []) (cond z ((224 + c / 4096) ∷ (128 + c / 64 % 64) ∷ (128 + c % 64) ∷ []) ((240 + c / 262144) ∷ (128 + c / 4096 % 64) ∷ (128 + c / 64 % 64) ∷ (128 + c % 64) ∷ []))))
    at true y z a b d = ((let h = below c 128 a in omega (arith, h)), tt)
    at false true z a b d = ((let h = below c 2048 b in omega (arith, h)), (last c, tt))
    at false false true a b d = ((let h = below c 65536 d in omega (arith, h)), (last (c / 64), (last c, tt)))
    at false false false a b d = (omega (arith, few), (last (c / 4096), (last (c / 64), (last c, tt))))

both : (xs ys : List ℕ) → AreBytes xs → AreBytes ys → AreBytes (xs ++ ys)
both [] ys all others = others
both (x ∷ xs) ys all others = (all.0, both xs ys all.1 others)

parts_of : (a b : Bool) → (a && b) ≡ true → (a ≡ true) × (b ≡ true)
parts_of true true e = (refl, refl)
parts_of true false e = absurd (let bad = e in cc)
parts_of false b e = absurd (let bad = e in cc)

encodes_bytes : (cs : List ℕ) → scalars cs ≡ true → AreBytes (encodes cs)
encodes_bytes [] are = tt
encodes_bytes (c ∷ cs) are = let two = parts_of (scalar c) (scalars cs) are in both (encode c) (encodes cs) (encode_bytes c two.0) (encodes_bytes cs two.1)

pub text_bytes : (text : List ℕ) → is_utf8 text ≡ true → AreBytes text
text_bytes text is = let cs = IsUtf8-from_is_utf8 text is in subst AreBytes cs.1.1 (encodes_bytes cs.0 cs.1.0)
