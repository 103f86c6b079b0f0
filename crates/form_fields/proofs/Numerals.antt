-- What `parse` gives of a text without a `+` is the number that the text writes.
use Rattle.std.proofs.Common.{◌≡◌, ◌∙◌, ◌≢◌, ℕ, ℤ, ◌<◌, ◌^◌, ◌&&◌, ◌==◌, pos, neg_ℤ, Bool, true, false, nat_lt, nat_le, suc, List, [], ◌∷◌, length, take, get_or, refl, ap, sym, arith, Some, None, Result, Ok, Err, w64, if◌then◌else◌}
use Rattle.std.specs.Result.{OkIff, result_ok}
use Rattle.std.specs.Str.{all_ascii_digits, bytes_eq}
use Rattle.std.specs.Str.Parse.{digits_value, ParsesSigned}
use Rattle.std.proofs.lemmas.Bool.{true≢false, ltb-true, leb-true, lt-ltb, le-leb, eq-eqb, eqb-true}
use Rattle.std.proofs.lemmas.Str.Parse.{IsNumeralModel, numerals_by_value, tells_all_ascii_digits, parse_signed_minus, parse_signed_plain}
use Rattle.form_fields.specs.Numbers.{magnitude, within, whole_number}

own : IsNumeralModel (λ ds. all_ascii_digits ds ≡ true) (digits_value 10)
own = numerals_by_value _ tells_all_ascii_digits

under : {E : Type 0} (r : Result ℤ E) (P Q : Type 0) (x : ℤ) → (P → Q) → (Q → P) → OkIff r P x → OkIff r Q x
under (Ok y) P Q x to from is = (to is.0, is.1)
under (Err e) P Q x to from fails = λ q. fails (from q)

-- what three tests decide
decided : {E : Type 0} (r : Result ℤ E) (fits : ℕ → Bool) (value : ℕ → ℤ) (cs : List ℕ)
    → OkIff r ((all_ascii_digits cs ≡ true) × (0 < length cs) × (fits (digits_value 10 cs) ≡ true)) (value (digits_value 10 cs))
    → result_ok r ≡ within fits value (magnitude cs)
decided (Ok x) fits value cs ((digits, some, small), is) = rw (lt-ltb 0 (length cs) some, digits, small) (ap Some is)
decided (Err e) fits value cs fails = go (nat_lt 0 (length cs)) refl (all_ascii_digits cs) refl (fits (digits_value 10 cs)) refl
  where
    go : (a : Bool) → nat_lt 0 (length cs) ≡ a → (b : Bool) → all_ascii_digits cs ≡ b → (c : Bool) → fits (digits_value 10 cs) ≡ c → None ≡ within fits value (if a && b then Some (digits_value 10 cs) else None)
    go false some b digits c small = refl
    go true some false digits c small = refl
    go true some true digits false small = rw small refl
    go true some true digits true small = absurd (fails (digits, ltb-true 0 (length cs) some, small))

minus_first : (c : ℕ) (cs : List ℕ) → bytes_eq (take 1 (c ∷ cs)) (45 ∷ []) ≡ (c == 45)
minus_first c cs = go (c == 45) refl
  where
    go : (b : Bool) → (c == 45) ≡ b → ((c == 45) && true) ≡ (c == 45)
    go true is = rw is refl
    go false is = rw is refl

-- a number that is parsed is the one that the text writes
pub parsed : {E : Type 0} (bs : List ℕ) (r : Result ℤ E) → ParsesSigned w64 10 bs r → get_or bs 0 0 ≢ 43 → result_ok r ≡ whole_number bs
unfolding whole_number
parsed [] r is plus = decided r (λ n. nat_lt n (2 ^ 63)) pos [] (under r _ _ _ (λ h. (h.0, h.1, lt-ltb _ _ h.2)) (λ h. (h.0, h.1, ltb-true _ _ h.2)) (parse_signed_plain own w64 [] r is plus (λ e. omega (arith, e))))
parsed (c ∷ cs) r is plus = rw (minus_first c cs) (go (c == 45) refl)
  where
    go : (b : Bool) → (c == 45) ≡ b → result_ok r ≡ (if b then within (λ n. nat_le n (2 ^ 63)) (λ n. neg_ℤ (pos n)) (magnitude cs) else within (λ n. nat_lt n (2 ^ 63)) pos (magnitude (c ∷ cs)))
    go true minus = decided r (λ n. nat_le n (2 ^ 63)) (λ n. neg_ℤ (pos n)) cs (under r _ _ _ (λ h. (h.0, h.1, le-leb _ _ h.2)) (λ h. (h.0, h.1, leb-true _ _ h.2)) (parse_signed_minus own w64 (c ∷ cs) r is (eqb-true c 45 minus)))
    go false other = decided r (λ n. nat_lt n (2 ^ 63)) pos (c ∷ cs) (under r _ _ _ (λ h. (h.0, h.1, lt-ltb _ _ h.2)) (λ h. (h.0, h.1, ltb-true _ _ h.2)) (parse_signed_plain own w64 (c ∷ cs) r is plus (λ e. true≢false (sym (eq-eqb c 45 e) ∙ other))))

no_digits : (b : Bool) (n : ℕ) → None ≡ within (λ k. nat_lt k (2 ^ 63)) pos (if b && false then Some n else None)
no_digits true n = refl
no_digits false n = refl

-- a text that begins with `+` writes none
pub plus_is_none : (bs : List ℕ) → get_or bs 0 0 ≡ 43 → None ≡ whole_number bs
unfolding whole_number
plus_is_none [] e = absurd (omega (arith, e))
plus_is_none (c ∷ cs) e = rw e (no_digits (nat_lt 0 (suc (length cs))) (digits_value 10 (43 ∷ cs)))
