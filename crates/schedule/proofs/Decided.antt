-- Whether a text begins with a front, a number, a worker, or a count of calls with its seed.
use Rattle.std.proofs.Common.{◌≡◌, ◌≢◌, ℕ, ◌<◌, ◌≤◌, ◌^◌, Bool, true, false, List, [], ◌∷◌, ◌++◌, ◌⊎◌, inl, inr, refl, sym, ap, subst, ◌∙◌, arith}
use Rattle.std.specs.Prelude.{decimal, nat_lt, nat_eq}
use Rattle.std.specs.Bool.{Decides}
use Rattle.std.specs.Char.{digit_value}
use Rattle.std.specs.Str.{bytes_eq}
use Rattle.std.specs.Str.Parse.{digits_value}
use Rattle.std.proofs.lemmas.Bool.Decides.{Decides-eqb, Decides-ltb}
use Rattle.std.proofs.lemmas.Slice.Eq.{bytes_eq-Decides}
use Rattle.std.proofs.lemmas.Fmt.{decimal_is_IsNumeral}
use Rattle.schedule.specs.Rows.{Lacks}
use Rattle.schedule.specs.Items.{workers}
use Rattle.schedule.proofs.Fronts.{one_front, has_byte, decimal_lacks}
use Rattle.schedule.proofs.BadItems.{Calls}
use Rattle.schedule.proofs.OneSchedule.{number_ends}

pub decided : {P : Type 0} (b : Bool) → Decides b P → P ⊎ (P → ⊥)
decided true d = inl (d.0 refl)
decided false d = inr (λ p. (let no : false ≡ true = d.1 p in cc))

-- a text begins with the front, or not
abbrev pub Begins : List ℕ → List ℕ → Type 0
Begins front text = ((rest : List ℕ) × (text ≡ front ++ rest)) ⊎ ((rest : List ℕ) → text ≢ front ++ rest)

begins_more : (x y : ℕ) (front text : List ℕ) → (y ≡ x) ⊎ (y ≢ x) → Begins front text → Begins (x ∷ front) (y ∷ text)
begins_more x y front text (inl e) (inl (rest, f)) = inl (rest, cc)
begins_more x y front text (inl e) (inr none) = inr (λ rest f. (let g : text ≡ front ++ rest = cc in none rest g))
begins_more x y front text (inr differ) _ = inr (λ rest f. (let g : y ≡ x = cc in differ g))

pub begins : (front text : List ℕ) → Begins front text
begins [] text = inl (text, refl)
begins (x ∷ front) [] = inr (λ rest e. cc)
begins (x ∷ front) (y ∷ text) = begins_more x y front text (decided (nat_eq y x) (Decides-eqb y x)) (begins front text)

-- the first such byte
abbrev Splits : ℕ → List ℕ → Type 0
Splits byte text = ((front : List ℕ) × (back : List ℕ) × Lacks byte front × (text ≡ front ++ byte ∷ back)) ⊎ Lacks byte text

splits_more : (byte x : ℕ) (text : List ℕ) → (x ≡ byte) ⊎ (x ≢ byte) → Splits byte text → Splits byte (x ∷ text)
splits_more byte x text (inl e) _ = inl ([], text, tt, cc)
splits_more byte x text (inr differ) (inl (front, back, lacks, e)) = inl (x ∷ front, back, (differ, lacks), cc)
splits_more byte x text (inr differ) (inr lacks) = inr (differ, lacks)

splits : (byte : ℕ) (text : List ℕ) → Splits byte text
splits byte [] = inr tt
splits byte (x ∷ text) = splits_more byte x text (decided (nat_eq x byte) (Decides-eqb x byte)) (splits byte text)

-- the number that the text is
abbrev Number : List ℕ → Type 0
Number text = ((n : ℕ) × (n < 2 ^ 64) × (text ≡ decimal n)) ⊎ ((n : ℕ) → n < 2 ^ 64 → text ≢ decimal n)

number_by : (text : List ℕ) (v : ℕ) → v ≡ digits_value 10 text → (v < 2 ^ 64) ⊎ (v < 2 ^ 64 → ⊥) → (text ≡ decimal v) ⊎ (text ≢ decimal v) → Number text
number_by text v is (inl small) (inl e) = inl (v, small, e)
number_by text v is (inr large) _ = inr (λ n small e. large (subst (λ k. k < 2 ^ 64) (sym (is ∙ ap (λ xs. digits_value 10 xs) e ∙ (decimal_is_IsNumeral n small).1)) small))
number_by text v is (inl _) (inr differ) = inr (λ n small e. differ (e ∙ ap decimal (sym (is ∙ ap (λ xs. digits_value 10 xs) e ∙ (decimal_is_IsNumeral n small).1))))

number : (text : List ℕ) → Number text
number text = number_by text (digits_value 10 text) refl (decided (nat_lt (digits_value 10 text) (2 ^ 64)) (Decides-ltb (digits_value 10 text) (2 ^ 64))) (decided (bytes_eq text (decimal (digits_value 10 text))) (bytes_eq-Decides text (decimal (digits_value 10 text))))

-- the number in front of the byte that ends it
abbrev pub NumberAt : ℕ → List ℕ → Type 0
NumberAt end text = ((n : ℕ) × (rest : List ℕ) × (n < 2 ^ 64) × (text ≡ decimal n ++ end ∷ rest)) ⊎ ((n : ℕ) (rest : List ℕ) → n < 2 ^ 64 → text ≢ decimal n ++ end ∷ rest)

number_by_text : (end : ℕ) (text front back : List ℕ) → 10 ≤ digit_value end → Lacks end front → text ≡ front ++ end ∷ back → Number front → NumberAt end text
number_by_text end text front back no_digit lacks e (inl (n, small, f)) = inl (n, back, small, subst (λ xs. text ≡ xs ++ end ∷ back) f e)
number_by_text end text front back no_digit lacks e (inr none) = inr (λ n rest small f. none n small (one_front end front (decimal n) back rest lacks (decimal_lacks end n no_digit small) (sym e ∙ f)).0)

number_by_end : (end : ℕ) (text : List ℕ) → 10 ≤ digit_value end → Splits end text → NumberAt end text
number_by_end end text no_digit (inl (front, back, lacks, e)) = number_by_text end text front back no_digit lacks e (number front)
number_by_end end text no_digit (inr lacks) = inr (λ n rest small e. has_byte end (decimal n) rest (subst (λ xs. Lacks end xs) e lacks))

pub number_at : (end : ℕ) (text : List ℕ) → 10 ≤ digit_value end → NumberAt end text
number_at end text no_digit = number_by_end end text no_digit (splits end text)

-- the worker in front of the byte that ends it
abbrev pub WorkerAt : ℕ → List ℕ → Type 0
WorkerAt end text = ((w : ℕ) × (rest : List ℕ) × (w < workers) × (text ≡ decimal w ++ end ∷ rest)) ⊎ ((w : ℕ) (rest : List ℕ) → w < workers → text ≢ decimal w ++ end ∷ rest)

worker_by_size : (end n : ℕ) (text rest : List ℕ) → 10 ≤ digit_value end → n < 2 ^ 64 → text ≡ decimal n ++ end ∷ rest → (n < workers) ⊎ (n < workers → ⊥) → WorkerAt end text
worker_by_size end n text rest no_digit small e (inl below) = inl (n, rest, below, e)
worker_by_size end n text rest no_digit small e (inr large) = inr (λ w more below f.
    large (subst (λ k. k < workers) (sym (number_ends n w end rest more small (omega (arith, below)) no_digit (sym e ∙ f)).0) below))

worker_by_number : (end : ℕ) (text : List ℕ) → 10 ≤ digit_value end → NumberAt end text → WorkerAt end text
worker_by_number end text no_digit (inl (n, rest, small, e)) = worker_by_size end n text rest no_digit small e (decided (nat_lt n workers) (Decides-ltb n workers))
worker_by_number end text no_digit (inr none) = inr (λ w rest below. none w rest (omega (arith, below)))

pub worker_at : (end : ℕ) (text : List ℕ) → 10 ≤ digit_value end → WorkerAt end text
worker_at end text no_digit = worker_by_number end text no_digit (number_at end text no_digit)

-- a count of device calls, a seed and LF, or not
abbrev pub CallsAt : List ℕ → Type 0
CallsAt text = Calls text ⊎ (Calls text → ⊥)

calls_by_count : (n seed : ℕ) (text rest more : List ℕ) → n < 2 ^ 64 → seed < 2 ^ 64 → text ≡ decimal n ++ 32 ∷ rest → rest ≡ decimal seed ++ 10 ∷ more → (0 < n) ⊎ (0 < n → ⊥) → CallsAt text
calls_by_count n seed text rest more small seed_small e f (inl some) = inl (record { calls = n; seed = seed; more = more; some = some; calls_small = small; seed_small = seed_small; text = e ∙ ap (λ xs. decimal n ++ 32 ∷ xs) f })
calls_by_count n seed text rest more small seed_small e f (inr zero) = inr (λ c. zero (subst (λ k. 0 < k) (sym (number_ends n c.calls 32 rest (decimal c.seed ++ 10 ∷ c.more) small c.calls_small (omega arith) (sym e ∙ c.text)).0) c.some))

calls_by_seed : (n : ℕ) (text rest : List ℕ) → n < 2 ^ 64 → text ≡ decimal n ++ 32 ∷ rest → NumberAt 10 rest → CallsAt text
calls_by_seed n text rest small e (inl (seed, more, seed_small, f)) = calls_by_count n seed text rest more small seed_small e f (decided (nat_lt 0 n) (Decides-ltb 0 n))
calls_by_seed n text rest small e (inr none) = inr (λ c. none c.seed c.more c.seed_small (number_ends n c.calls 32 rest (decimal c.seed ++ 10 ∷ c.more) small c.calls_small (omega arith) (sym e ∙ c.text)).1)

calls_by_number : (text : List ℕ) → NumberAt 32 text → CallsAt text
calls_by_number text (inl (n, rest, small, e)) = calls_by_seed n text rest small e (number_at 10 rest (omega arith))
calls_by_number text (inr none) = inr (λ c. none c.calls (decimal c.seed ++ 10 ∷ c.more) c.calls_small c.text)

pub calls_at : (text : List ℕ) → CallsAt text
calls_at text = calls_by_number text (number_at 32 text (omega arith))
