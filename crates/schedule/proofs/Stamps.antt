-- The 16 digits of a stamp at the front of a text.
use Rattle.std.proofs.Common.{◌≡◌, ◌≢◌, ℕ, ◌<◌, ◌^◌, ◌*◌, ◌+◌, ◌-◌, ◌/◌, ◌%◌, zero, suc, List, [], ◌∷◌, ◌++◌, ◌⊎◌, inl, inr, refl, sym, ap, subst, ◌∙◌, append_assoc, add-one, arith}
use Rattle.std.specs.Prelude.{nat_lt, nat_eq, if◌then◌else◌}
use Rattle.std.proofs.lemmas.Bool.Decides.{Decides-eqb, Decides-ltb, nat_tests}
use Rattle.std.proofs.lemmas.Grind.{pow_more}
use Rattle.zbase.specs.Hex.{hex_digit, hex_digits, hex16_text}
use Rattle.zbase.specs.HexLaws.{fronts_same, length-hex_digits}
use Rattle.schedule.specs.Rows.{Lacks}
use Rattle.schedule.proofs.Decided.{decided, begins, Begins}

lacks_append : (byte : ℕ) (xs ys : List ℕ) → Lacks byte xs → Lacks byte ys → Lacks byte (xs ++ ys)
lacks_append byte [] ys p q = q
lacks_append byte (x ∷ xs) ys p q = (p.0, lacks_append byte xs ys p.1 q)

digit_is_no_end : (d : ℕ) → d < 16 → hex_digit d ≢ 10
digit_is_no_end d f e = grind (arith, nat_tests)

digits_lack : (k n : ℕ) → Lacks 10 (hex_digits k n)
unfolding hex_digits
digits_lack zero n = tt
digits_lack (suc k) n = lacks_append 10 (hex_digits k (n / 16)) (hex_digit (n % 16) ∷ []) (digits_lack k (n / 16)) (digit_is_no_end (n % 16) (omega arith), tt)

-- the digits of a stamp have no LF
pub stamp_lacks : (t : ℕ) → Lacks 10 (hex16_text t)
unfolding hex16_text
stamp_lacks t = digits_lack 16 t

-- the number that the byte is a digit of
abbrev digit_of : ℕ → ℕ
digit_of b = if nat_lt b 58 then b - 48 else b - 87

digit_of_digit : (d : ℕ) → d < 16 → digit_of (hex_digit d) ≡ d
digit_of_digit d f = grind (arith, nat_tests)

abbrev Digit : ℕ → Type 0
Digit b = ((d : ℕ) × (d < 16) × (b ≡ hex_digit d)) ⊎ ((d : ℕ) → d < 16 → b ≢ hex_digit d)

digit_by : (b : ℕ) → (digit_of b < 16) ⊎ (digit_of b < 16 → ⊥) → (b ≡ hex_digit (digit_of b)) ⊎ (b ≢ hex_digit (digit_of b)) → Digit b
digit_by b (inl small) (inl e) = inl (digit_of b, small, e)
digit_by b (inr large) _ = inr (λ d f e. large (subst (λ k. k < 16) (sym (ap digit_of e ∙ digit_of_digit d f)) f))
digit_by b (inl _) (inr differ) = inr (λ d f e. differ (e ∙ ap hex_digit (sym (ap digit_of e ∙ digit_of_digit d f))))

digit : (b : ℕ) → Digit b
digit b = digit_by b (decided (nat_lt (digit_of b) 16) (Decides-ltb (digit_of b) 16)) (decided (nat_eq b (hex_digit (digit_of b))) (Decides-eqb b (hex_digit (digit_of b))))

-- the last digit stands by itself
regroup_digits : (k n : ℕ) (rest : List ℕ) → hex_digits (suc k) n ++ rest ≡ hex_digits k (n / 16) ++ hex_digit (n % 16) ∷ rest
unfolding hex_digits
regroup_digits k n rest = append_assoc (hex_digits k (n / 16)) (hex_digit (n % 16) ∷ []) rest

-- a text begins with k digits, or not
abbrev Digits : ℕ → List ℕ → Type 0
Digits k text = ((n : ℕ) × (rest : List ℕ) × (n < 16 ^ k) × (text ≡ hex_digits k n ++ rest)) ⊎ ((n : ℕ) (rest : List ℕ) → text ≢ hex_digits k n ++ rest)

-- what stands behind k digits that begin a text is all that can stand there
behind_digits : (k m n : ℕ) (text r s : List ℕ) → text ≡ hex_digits k m ++ r → text ≡ hex_digits k n ++ s → r ≡ s
behind_digits k m n text r s e f = (fronts_same (hex_digits k m) (hex_digits k n) r s (length-hex_digits k m ∙ sym (length-hex_digits k n)) (sym e ∙ f)).1

last_digit : (k m b : ℕ) (text rest : List ℕ) → m < 16 ^ k → text ≡ hex_digits k m ++ b ∷ rest → Digit b → Digits (suc k) text
last_digit k m b text rest small e (inl (d, f, same)) =
    let n = m * 16 + d in
    let high : n / 16 ≡ m = omega (arith, f) in
    let low : n % 16 ≡ d = omega (arith, f) in
    let more : 16 ^ suc k ≡ 16 ^ k * 16 = ap (λ j. 16 ^ j) (sym (add-one k)) ∙ pow_more 16 k in
    let digits : b ∷ rest ≡ hex_digit (n % 16) ∷ rest = ap (λ c. c ∷ rest) (same ∙ ap hex_digit (sym low)) in
    inl (n, rest, omega (arith, small, f, more), e ∙ ap (λ xs. hex_digits k m ++ xs) digits ∙ ap (λ j. hex_digits k j ++ hex_digit (n % 16) ∷ rest) (sym high) ∙ sym (regroup_digits k n rest))
last_digit k m b text rest small e (inr none) = inr (λ n more f.
    (let same : b ∷ rest ≡ hex_digit (n % 16) ∷ more = behind_digits k m (n / 16) text (b ∷ rest) (hex_digit (n % 16) ∷ more) e (f ∙ regroup_digits k n more) in
    let head : b ≡ hex_digit (n % 16) = cc in
    none (n % 16) (omega arith) head))

more_digits : (k : ℕ) (text : List ℕ) → Digits k text → Digits (suc k) text
more_digits k text (inl (m, [], small, e)) = inr (λ n more f.
    (let same : [] ≡ hex_digit (n % 16) ∷ more = behind_digits k m (n / 16) text [] (hex_digit (n % 16) ∷ more) e (f ∙ regroup_digits k n more) in cc))
more_digits k text (inl (m, b ∷ rest, small, e)) = last_digit k m b text rest small e (digit b)
more_digits k text (inr none) = inr (λ n rest f. none (n / 16) (hex_digit (n % 16) ∷ rest) (f ∙ regroup_digits k n rest))

digits : (k : ℕ) (text : List ℕ) → Digits k text
unfolding hex_digits
digits zero text = inl (0, text, omega arith, refl)
digits (suc k) text = more_digits k text (digits k text)

-- the stamp in front of LF
abbrev pub Stamp : List ℕ → Type 0
Stamp text = ((t : ℕ) × (rest : List ℕ) × (t < 2 ^ 64) × (text ≡ hex16_text t ++ 10 ∷ rest)) ⊎ ((t : ℕ) (rest : List ℕ) → text ≢ hex16_text t ++ 10 ∷ rest)

behind_stamp : (t u : ℕ) (text r s : List ℕ) → text ≡ hex16_text t ++ r → text ≡ hex16_text u ++ s → r ≡ s
unfolding hex16_text
behind_stamp t u text r s e f = behind_digits 16 t u text r s e f

stamp_by_end : (t : ℕ) (text rest : List ℕ) → t < 2 ^ 64 → text ≡ hex16_text t ++ rest → Begins (10 ∷ []) rest → Stamp text
stamp_by_end t text rest small e (inl (more, f)) = inl (t, more, small, e ∙ ap (λ xs. hex16_text t ++ xs) f)
stamp_by_end t text rest small e (inr none) = inr (λ u more f. none more (behind_stamp t u text rest (10 ∷ more) e f))

stamp_by_digits : (text : List ℕ) → Digits 16 text → Stamp text
unfolding hex16_text
stamp_by_digits text (inl (t, rest, small, e)) = stamp_by_end t text rest small e (begins (10 ∷ []) rest)
stamp_by_digits text (inr none) = inr (λ t rest e. none t (10 ∷ rest) e)

pub stamp : (text : List ℕ) → Stamp text
stamp text = stamp_by_digits text (digits 16 text)
