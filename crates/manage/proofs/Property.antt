-- A property that a form gives keeps the rules of properties.
use Rattle.std.proofs.Common.{◌≡◌, ℕ, ℤ, zero, suc, pos, neg_ℤ, ◌≤◌, ◌<◌, ◌^◌, Bool, true, false, List, length, take, drop, Option, Some, None, refl, subst, arith, nat_lt, nat_le, w64, codes, if◌then◌else◌}
use Rattle.std.specs.Prelude.{FitsSigned}
use Rattle.std.specs.List.{AllByRecursion}
use Rattle.std.specs.Str.{bytes_eq}
use Rattle.std.proofs.lemmas.Bool.Decides.{nat_tests}
use Rattle.form_fields.specs.Numbers.{magnitude, whole_number, within}
use Rattle.zobject.specs.declared.limits.TheConstants.{MOST_LINES}
use Rattle.zobject.specs.declared.object.PropValue.TheVariants as values
use Rattle.zobject.specs.declared.version.Version.TheVariants.{Second}
use Rattle.zobject.specs.declared.version.Rule.TheVariants.{Value}
use Rattle.zobject.specs.Rules.{IsValue, Keeps}
use Rattle.manage.specs.declared.rule.FieldRule.TheVariants as rule
use Rattle.manage.specs.Becoming.{lines_of, number_of}
use Rattle.manage.specs.Fields.{is_there}
use Rattle.manage.specs.Refusing.{is_short}
use Rattle.manage.proofs.Kept.{IsKept}

-- ---- whole numbers fit

some_is : {A : Type 0} {x y : A} → ◌≡◌ {A = Option A} (Some x) (Some y) → x ≡ y
some_is e = cc

below : (n m : ℕ) → nat_lt n m ≡ true → n < m
below n m e = grind (arith, nat_tests)

upto : (n m : ℕ) → nat_le n m ≡ true → n ≤ m
upto n m e = grind (arith, nat_tests)

plain_fits : (found : Option ℕ) (z : ℤ) → within (λ n. nat_lt n (2 ^ 63)) pos found ≡ Some z → FitsSigned w64 z
plain_fits None z e = absurd (let bad = e in cc)
plain_fits (Some n) z e = at (nat_lt n (2 ^ 63)) refl e
  where
    at : (t : Bool) → nat_lt n (2 ^ 63) ≡ t → (if t then Some (pos n) else None) ≡ Some z → FitsSigned w64 z
    at true is e' = subst (FitsSigned w64) (some_is e') (record { sfits = below n (2 ^ 63) is })
    at false is e' = absurd (let bad = e' in cc)

minus_fits : (n : ℕ) → n ≤ 2 ^ 63 → FitsSigned w64 (neg_ℤ (pos n))
minus_fits zero h = record { sfits = omega arith }
minus_fits (suc n) h = record { sfits = omega (arith, h) }

signed_fits : (found : Option ℕ) (z : ℤ) → within (λ n. nat_le n (2 ^ 63)) (λ n. neg_ℤ (pos n)) found ≡ Some z → FitsSigned w64 z
signed_fits None z e = absurd (let bad = e in cc)
signed_fits (Some n) z e = at (nat_le n (2 ^ 63)) refl e
  where
    at : (t : Bool) → nat_le n (2 ^ 63) ≡ t → (if t then Some (neg_ℤ (pos n)) else None) ≡ Some z → FitsSigned w64 z
    at true is e' = subst (FitsSigned w64) (some_is e') (minus_fits n (upto n (2 ^ 63) is))
    at false is e' = absurd (let bad = e' in cc)

whole_fits : (text : List ℕ) (z : ℤ) → whole_number text ≡ Some z → FitsSigned w64 z
unfolding whole_number
whole_fits text z e = at (bytes_eq (take 1 text) (codes "-")) e
  where
    at : (t : Bool) → (if t then within (λ n. nat_le n (2 ^ 63)) (λ n. neg_ℤ (pos n)) (magnitude (drop 1 text)) else within (λ n. nat_lt n (2 ^ 63)) pos (magnitude text)) ≡ Some z → FitsSigned w64 z
    at true e' = signed_fits (magnitude (drop 1 text)) z e'
    at false e' = plain_fits (magnitude text) z e'

-- a text that is a number is one that fits
pub number_fits : (text : List ℕ) → is_there (whole_number text) ≡ true → FitsSigned w64 (number_of (whole_number text))
number_fits text is = at (whole_number text) refl is
  where
    at : (found : Option ℤ) → whole_number text ≡ found → is_there found ≡ true → FitsSigned w64 (number_of found)
    at None e is' = absurd (let bad = is' in cc)
    at (Some z) e is' = whole_fits text z e

-- ---- a value by its type

at_most : (most n : ℕ) → nat_le n most ≡ true → n ≤ most
at_most most n e = grind (arith, nat_tests)

pub value_is : (int lines : Bool) (text : List ℕ) → IsKept (if int then rule.Number else rule.Value) text
    → is_short (if int then values.Int (number_of (whole_number text)) else if lines then values.Lines (lines_of text) else values.Line text) ≡ true
    → (Keeps Value text → AllByRecursion (Keeps Value) (lines_of text)) → (IsKept rule.Value text → Keeps Value text)
    → IsValue Second (if int then values.Int (number_of (whole_number text)) else if lines then values.Lines (lines_of text) else values.Line text)
value_is true lines text kept short cut keeps = number_fits text kept.0
value_is false true text kept short cut keeps = record { enough = omega arith; few = at_most MOST_LINES (length (lines_of text)) short; each = cut (keeps kept) }
value_is false false text kept short cut keeps = keeps kept
