-- Counting characters.
use Rattle.std.proofs.Common.{◌≡◌, ◌≢◌, ℕ, zero, suc, ◌<◌, ◌≤◌, ◌+◌, true, false, List, [], ◌∷◌, ◌++◌, Option, Some, None, length, get_or, take, drop, refl, ap, sym, ◌∙◌, arith, add-one, append_assoc, nat_lt, nat_eq, if◌then◌else◌, drop-cons}
use Rattle.std.proofs.lemmas.Bool.Decides.{nat_tests}
use Rattle.std.proofs.lemmas.List.{take_more}
use Rattle.dtml_format.specs.Shaping.{begins, first_chars, chars, last_space, at_space, etc_or_dots, cut, sized}

rest_at : (xs : List ℕ) (at : ℕ) → at < length xs → drop at xs ≡ get_or xs at 0 ∷ drop (at + 1) xs
rest_at xs at lt = rw add-one (drop-cons xs at 0 lt)

-- ---- the first characters

begins_one : (left now b : ℕ) (rest : List ℕ) → now + 1 ≡ left → begins b ≡ true → first_chars left (b ∷ rest) ≡ b ∷ first_chars now rest
unfolding first_chars
begins_one zero now b rest e h = grind arith
begins_one (suc left) now b rest e h =
    let same : now ≡ left = omega arith in
    rw same (ap (λ t. if t then b ∷ first_chars left rest else b ∷ first_chars (suc left) rest) h)

goes_on : (left b : ℕ) (rest : List ℕ) → begins b ≡ false → first_chars left (b ∷ rest) ≡ b ∷ first_chars left rest
unfolding first_chars
goes_on zero b rest h = ap (λ t. if t then [] else b ∷ first_chars zero rest) h
goes_on (suc left) b rest h = ap (λ t. if t then b ∷ first_chars left rest else b ∷ first_chars (suc left) rest) h

stops : (b : ℕ) (rest : List ℕ) → begins b ≡ true → first_chars 0 (b ∷ rest) ≡ []
unfolding first_chars
stops b rest h = ap (λ t. if t then [] else b ∷ first_chars zero rest) h

moved : (F G : List ℕ → List ℕ) (xs : List ℕ) (at : ℕ) → at < length xs → F (get_or xs at 0 ∷ drop (at + 1) xs) ≡ get_or xs at 0 ∷ G (drop (at + 1) xs) → take (at + 1) xs ++ G (drop (at + 1) xs) ≡ take at xs ++ F (drop at xs)
moved F G xs at lt e =
    ap (λ t. t ++ G (drop (at + 1) xs)) (take_more xs at 0 lt)
    ∙ append_assoc (take at xs) (get_or xs at 0 ∷ []) (G (drop (at + 1) xs))
    ∙ ap (λ r. take at xs ++ r) (sym e)
    ∙ ap (λ r. take at xs ++ F r) (sym (rest_at xs at lt))

pub front_begins : (left now : ℕ) (xs : List ℕ) (at : ℕ) → at < length xs → begins (get_or xs at 0) ≡ true → now + 1 ≡ left → take (at + 1) xs ++ first_chars now (drop (at + 1) xs) ≡ take at xs ++ first_chars left (drop at xs)
front_begins left now xs at lt h e = moved (first_chars left) (first_chars now) xs at lt (begins_one left now (get_or xs at 0) (drop (at + 1) xs) e h)

pub front_goes_on : (left : ℕ) (xs : List ℕ) (at : ℕ) → at < length xs → begins (get_or xs at 0) ≡ false → take (at + 1) xs ++ first_chars left (drop (at + 1) xs) ≡ take at xs ++ first_chars left (drop at xs)
front_goes_on left xs at lt h = moved (first_chars left) (first_chars left) xs at lt (goes_on left (get_or xs at 0) (drop (at + 1) xs) h)

pub front_stops : (xs : List ℕ) (at : ℕ) → at < length xs → begins (get_or xs at 0) ≡ true → first_chars 0 (drop at xs) ≡ []
front_stops xs at lt h = ap (first_chars 0) (rest_at xs at lt) ∙ stops (get_or xs at 0) (drop (at + 1) xs) h

pub none_left : (left : ℕ) → first_chars left [] ≡ []
unfolding first_chars
none_left zero = refl
none_left (suc left) = refl

-- ---- how many there are

count_begins : (b : ℕ) (rest : List ℕ) → begins b ≡ true → chars (b ∷ rest) ≡ suc (chars rest)
unfolding chars
count_begins b rest h = ap (λ t. if t then suc (chars rest) else chars rest) h

count_goes_on : (b : ℕ) (rest : List ℕ) → begins b ≡ false → chars (b ∷ rest) ≡ chars rest
unfolding chars
count_goes_on b rest h = ap (λ t. if t then suc (chars rest) else chars rest) h

less_of_sucs : (left now n : ℕ) → now + 1 ≡ left → nat_lt left (suc n) ≡ nat_lt now n
less_of_sucs zero now n e = grind arith
less_of_sucs (suc left) now n e = grind (arith, nat_tests)

pub more_begins : (left now : ℕ) (xs : List ℕ) (at : ℕ) → at < length xs → begins (get_or xs at 0) ≡ true → now + 1 ≡ left → nat_lt now (chars (drop (at + 1) xs)) ≡ nat_lt left (chars (drop at xs))
more_begins left now xs at lt h e =
    sym (less_of_sucs left now (chars (drop (at + 1) xs)) e) ∙ ap (nat_lt left) (sym (ap chars (rest_at xs at lt) ∙ count_begins (get_or xs at 0) (drop (at + 1) xs) h))

pub more_goes_on : (left : ℕ) (xs : List ℕ) (at : ℕ) → at < length xs → begins (get_or xs at 0) ≡ false → nat_lt left (chars (drop (at + 1) xs)) ≡ nat_lt left (chars (drop at xs))
more_goes_on left xs at lt h = ap (nat_lt left) (sym (ap chars (rest_at xs at lt) ∙ count_goes_on (get_or xs at 0) (drop (at + 1) xs) h))

more_than_none : (n m : ℕ) → m ≡ suc n → nat_lt 0 m ≡ true
more_than_none n m e = grind (arith, nat_tests)

pub more_stops : (xs : List ℕ) (at : ℕ) → at < length xs → begins (get_or xs at 0) ≡ true → nat_lt 0 (chars (drop at xs)) ≡ true
more_stops xs at lt h = more_than_none (chars (drop (at + 1) xs)) _ (ap chars (rest_at xs at lt) ∙ count_begins (get_or xs at 0) (drop (at + 1) xs) h)

pub no_more : (left : ℕ) → nat_lt left (chars []) ≡ false
unfolding chars
no_more left = grind (arith, nat_tests)

-- ---- the last space

pub space_step : (found : Option ℕ) (count : ℕ) (xs : List ℕ) (at : ℕ) → at < length xs
    → last_space (if nat_eq (get_or xs at 0) 32 then Some count else found) (if begins (get_or xs at 0) then suc count else count) (drop (at + 1) xs) ≡ last_space found count (drop at xs)
unfolding last_space
space_step found count xs at lt = ap (last_space found count) (sym (rest_at xs at lt))

pub space_ends : (found : Option ℕ) (count : ℕ) → last_space found count [] ≡ found
unfolding last_space
space_ends found count = refl

-- ---- the whole

pub no_size : (etc : Option (List ℕ)) (text : List ℕ) → sized None etc text ≡ text
unfolding sized
no_size etc text = refl

pub stays_whole : (n : ℕ) (etc : Option (List ℕ)) (text front : List ℕ) → nat_lt (length front) (length text) ≡ nat_lt n (chars text) → length front ≡ length text → sized (Some n) etc text ≡ text
unfolding sized
stays_whole n etc text front more same =
    let never : nat_lt (length front) (length text) ≡ false = grind (arith, nat_tests) in
    ap (λ t. if t then cut n etc text else text) (sym more ∙ never)

pub is_cut : (n : ℕ) (etc : Option (List ℕ)) (text front : List ℕ) → front ≡ first_chars n text → nat_lt (length front) (length text) ≡ nat_lt n (chars text) → length front < length text
    → at_space n front (last_space None 0 front) ++ etc_or_dots etc ≡ sized (Some n) etc text
unfolding sized
is_cut n etc text front e more less =
    let is : nat_lt (length front) (length text) ≡ true = grind (arith, nat_tests) in
    sym (ap (λ t. if t then cut n etc text else text) (sym more ∙ is) ∙ ap (λ f. at_space n f (last_space None 0 f) ++ etc_or_dots etc) (sym e))

-- the first characters are no more than all
no_longer : (n : ℕ) (text : List ℕ) → length (first_chars n text) ≤ length text
unfolding first_chars
no_longer n [] = grind arith
no_longer zero (b ∷ rest) = let fewer = no_longer zero rest in elim (begins b) as (λ t. length (if t then [] else b ∷ first_chars zero rest) ≤ suc (length rest)) [ true ↦ omega arith | false ↦ omega arith ]
no_longer (suc n) (b ∷ rest) =
    let fewer = no_longer n rest in
    let or_fewer = no_longer (suc n) rest in
    elim (begins b) as (λ t. length (if t then b ∷ first_chars n rest else b ∷ first_chars (suc n) rest) ≤ suc (length rest)) [ true ↦ omega arith | false ↦ omega arith ]

pub is_shorter : (n : ℕ) (text front : List ℕ) → front ≡ first_chars n text → length front ≢ length text → length front < length text
is_shorter n text front e ne =
    let fewer : length front ≤ length text = rw e (no_longer n text) in
    omega arith
