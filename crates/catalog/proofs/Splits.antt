-- Texts that were joined by a byte, and lines, are taken apart into the same, where the byte doesn't stand in them.
use Rattle.std.proofs.Common.{ℕ, ◌+◌, ◌-◌, ◌≡◌, ◌∙◌, refl, sym, ap, arith, true, false, ◌==◌, List, [], ◌∷◌, ◌++◌, map, flat_map, take, length, length-append, nat_lt, append_assoc, append-nil, if◌then◌else◌}
use Rattle.std.specs.List.{AllByRecursion, onto_first}
use Rattle.std.proofs.lemmas.Bool.Decides.{nat_tests}
use Rattle.std.proofs.lemmas.List.{take_at}
use Rattle.catalog.specs.Spelling.{joined_by}
use Rattle.catalog.specs.Reading.{lines_in, parts}

-- each byte is greater than m
abbrev pub Above : ℕ → List ℕ → Type 0
Above m text = AllByRecursion (λ b. nat_lt m b ≡ true) text

pub above_joined : (m : ℕ) (xs ys : List ℕ) → Above m xs → Above m ys → Above m (xs ++ ys)
above_joined m [] ys all others = others
above_joined m (x ∷ xs) ys all others = (all.0, above_joined m xs ys all.1 others)

pub lower_one : (m n b : ℕ) → nat_lt m n ≡ true → nat_lt n b ≡ true → nat_lt m b ≡ true
lower_one m n b x y = grind (arith, nat_tests)

pub lower : (m n : ℕ) (text : List ℕ) → nat_lt m n ≡ true → Above n text → Above m text
lower m n [] less all = tt
lower m n (b ∷ bs) less all = (lower_one m n b less all.0, lower m n bs less all.1)

pub each_lower : (m n : ℕ) (texts : List (List ℕ)) → nat_lt m n ≡ true → AllByRecursion (λ y. Above n y) texts → AllByRecursion (λ y. Above m y) texts
each_lower m n [] less all = tt
each_lower m n (t ∷ ts) less all = (lower m n t less all.0, each_lower m n ts less all.1)

-- ---- joined

pub join_above : (m c : ℕ) (x : List ℕ) (xs : List (List ℕ)) → nat_lt m c ≡ true → Above m x → AllByRecursion (λ y. Above m y) xs → Above m (joined_by c (x ∷ xs))
join_above m c x [] less above all = above_joined m x [] above tt
join_above m c x (y ∷ ys) less above all = above_joined m x (c ∷ joined_by c (y ∷ ys)) above (less, join_above m c y ys less all.0 all.1)

is_apart : (c b : ℕ) → nat_lt c b ≡ true → (b == c) ≡ false
is_apart c b e = grind (arith, nat_tests)

is_same : (c : ℕ) → (c == c) ≡ true
is_same c = grind (arith, nat_tests)

split_at : (c : ℕ) (xs ys : List ℕ) → Above c xs → parts c (xs ++ c ∷ ys) ≡ xs ∷ parts c ys
split_at c [] ys all = rw (is_same c) refl
split_at c (x ∷ xs) ys all = rw (is_apart c x all.0) (ap (onto_first x) (split_at c xs ys all.1))

split_end : (c : ℕ) (xs : List ℕ) → Above c xs → parts c xs ≡ xs ∷ []
split_end c [] all = refl
split_end c (x ∷ xs) all = rw (is_apart c x all.0) (ap (onto_first x) (split_end c xs all.1))

pub split_joined : (c : ℕ) (x : List ℕ) (xs : List (List ℕ)) → Above c x → AllByRecursion (λ y. Above c y) xs → parts c (joined_by c (x ∷ xs)) ≡ x ∷ xs
split_joined c x [] above all = ap (parts c) (append-nil x) ∙ split_end c x above
split_joined c x (y ∷ ys) above all = split_at c x (joined_by c (y ∷ ys)) above ∙ ap (λ rest. x ∷ rest) (split_joined c y ys all.0 all.1)

-- ---- lines

ended : (xs : List ℕ) → lines_in (xs ++ 10 ∷ []) ≡ parts 10 xs
ended xs = at (length (xs ++ 10 ∷ [])) (length-append xs (10 ∷ []))
  where
    some : (n : ℕ) → n ≡ length xs + 1 → (n == 0) ≡ false
    some n e = grind (arith, nat_tests)

    at : (n : ℕ) → n ≡ length xs + 1 → (if n == 0 then [] else parts 10 (take (n - 1) (xs ++ 10 ∷ []))) ≡ parts 10 xs
    at n e = rw (some n e) (ap (parts 10) (take_at xs (10 ∷ []) (n - 1) (omega (arith, e))))

module _ {X : Type 0} (line : X → List ℕ) where
  mapped : (xs : List X) → AllByRecursion (λ x. Above 10 (line x)) xs → AllByRecursion (λ y. Above 10 y) (map line xs)
  mapped [] all = tt
  mapped (x ∷ xs) all = (all.0, mapped xs all.1)

  lines_joined : (x : X) (xs : List X) → flat_map (λ y. line y ++ 10 ∷ []) (x ∷ xs) ≡ joined_by 10 (map line (x ∷ xs)) ++ 10 ∷ []
  lines_joined x [] = append-nil (line x ++ 10 ∷ []) ∙ ap (λ t. t ++ 10 ∷ []) (sym (append-nil (line x)))
  lines_joined x (y ∷ ys) =
      append_assoc (line x) (10 ∷ []) (flat_map (λ z. line z ++ 10 ∷ []) (y ∷ ys))
      ∙ ap (λ t. line x ++ 10 ∷ t) (lines_joined y ys)
      ∙ sym (append_assoc (line x) (10 ∷ joined_by 10 (map line (y ∷ ys))) (10 ∷ []))

  -- a text of lines
  pub lines_back : (xs : List X) → AllByRecursion (λ x. Above 10 (line x)) xs → lines_in (flat_map (λ y. line y ++ 10 ∷ []) xs) ≡ map line xs
  lines_back [] all = refl
  lines_back (x ∷ xs) all = ap lines_in (lines_joined x xs) ∙ ended (joined_by 10 (map line (x ∷ xs))) ∙ split_joined 10 (line x) (map line xs) all.0 (mapped xs all.1)

  headed_joined : (head : List ℕ) (xs : List X) → head ++ 10 ∷ flat_map (λ y. line y ++ 10 ∷ []) xs ≡ joined_by 10 (head ∷ map line xs) ++ 10 ∷ []
  headed_joined head [] = ap (λ t. t ++ 10 ∷ []) (sym (append-nil head))
  headed_joined head (x ∷ xs) = ap (λ t. head ++ 10 ∷ t) (lines_joined x xs) ∙ sym (append_assoc head (10 ∷ joined_by 10 (map line (x ∷ xs))) (10 ∷ []))

  -- the same behind a first line
  pub headed_back : (head : List ℕ) (xs : List X) → Above 10 head → AllByRecursion (λ x. Above 10 (line x)) xs → lines_in (head ++ 10 ∷ flat_map (λ y. line y ++ 10 ∷ []) xs) ≡ head ∷ map line xs
  headed_back head xs above all = ap lines_in (headed_joined head xs) ∙ ended (joined_by 10 (head ∷ map line xs)) ∙ split_joined 10 head (map line xs) above (mapped xs all)
