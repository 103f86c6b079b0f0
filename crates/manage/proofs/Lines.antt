-- The lines of a text are UTF-8 where the text is, and no longer than it.
use lib.Utf8.{scalars, encodes, encode}
use Rattle.std.proofs.Common.{◌≡◌, ◌∙◌, ℕ, zero, suc, ◌-◌, ◌≤◌, ◌<◌, ◌==◌, ◌&&◌, Bool, true, false, cond, List, [], ◌∷◌, ◌++◌, length, take, drop, get_or, lit<, refl, sym, ap, ap₂, subst, arith, append-nil, drop-cons, eqb-true, nat_le, if◌then◌else◌}
use Rattle.std.specs.List.{AllByRecursion, onto_first, slice_split}
use Rattle.std.specs.Str.{IsUtf8, is_utf8}
use Rattle.std.specs.Prelude.{slice_index}
use Rattle.std.specs.Str.Lines.{strip_carriage_return}
use Rattle.std.proofs.lemmas.Bool.Decides.{nat_tests}
use Rattle.std.proofs.lemmas.Str.{IsCharBoundary-before_ascii, IsUtf8-append, encode_ascii, IsUtf8-nil, IsUtf8-take, inside_one, is_utf8-from_IsUtf8}
use Rattle.std.proofs.lemmas.List.{drop_all, take-append-drop}
use Rattle.zobject.specs.declared.limits.TheConstants.{MOST_VALUE}
use Rattle.zobject.specs.declared.version.Rule.TheVariants.{Value}
use Rattle.zobject.specs.Rules.{Keeps}
use Rattle.manage.specs.Becoming.{lines_of, without_cr}

at_newline : ℕ → Bool
at_newline b = b == 10

-- bytes without a newline
NoNewline : List ℕ → Type 0
NoNewline bs = AllByRecursion (λ b. at_newline b ≡ false) bs

each_of : (bs : List ℕ) → ((k : ℕ) → k < length bs → get_or bs k 0 ≡ 10 → ⊥) → NoNewline bs
unfolding NoNewline at_newline
each_of [] none = tt
each_of (b ∷ bs) none = (test b (none 0 (omega arith)), each_of bs (λ k h e. none (suc k) (omega (arith, h)) e))
  where
    test : (b : ℕ) → (b ≡ 10 → ⊥) → (b == 10) ≡ false
    test b not = at (b == 10) refl
      where
        at : (t : Bool) → (b == 10) ≡ t → t ≡ false
        at true e = absurd (not (eqb-true b 10 e))
        at false e = refl

other_char : (c : ℕ) → (c ≡ 10 → ⊥) → NoNewline (encode c)
other_char c not = each_of (encode c) (λ k h e. not (inside_one c [] (encode c) k (sym (append-nil (encode c))) h (subst (λ n. n < 128) (sym e) (omega arith)) ∙ e))

-- a part with bytes put before it
onto_all : List ℕ → List (List ℕ) → List (List ℕ)
onto_all [] parts = parts
onto_all (b ∷ bs) parts = onto_first b (onto_all bs parts)

split_behind : (front rest : List ℕ) → NoNewline front → slice_split at_newline (front ++ rest) ≡ onto_all front (slice_split at_newline rest)
unfolding NoNewline onto_all
split_behind [] rest none = refl
split_behind (b ∷ bs) rest none = rw none.0 (ap (onto_first b) (split_behind bs rest none.1))

IsSome : List (List ℕ) → Type 0
IsSome parts = (q : List ℕ) × (qs : List (List ℕ)) × (parts ≡ q ∷ qs)

split_some : (bs : List ℕ) → IsSome (slice_split at_newline bs)
unfolding IsSome
split_some [] = ([], [], refl)
split_some (b ∷ bs) = at (at_newline b) (split_some bs)
  where
    at : (t : Bool) → IsSome (slice_split at_newline bs) → IsSome (cond t ([] ∷ slice_split at_newline bs) (onto_first b (slice_split at_newline bs)))
    at true some = ([], slice_split at_newline bs, refl)
    at false some = (b ∷ some.0, some.1, ap (onto_first b) some.2)

onto_one : (front q : List ℕ) (qs : List (List ℕ)) → onto_all front (q ∷ qs) ≡ (front ++ q) ∷ qs
unfolding onto_all
onto_one [] q qs = refl
onto_one (b ∷ bs) q qs = ap (onto_first b) (onto_one bs q qs)

AreUtf8 : List (List ℕ) → Type 0
AreUtf8 parts = AllByRecursion IsUtf8 parts

behind_char : (c : ℕ) (parts : List (List ℕ)) → IsUtf8 (encode c) → IsSome parts → AreUtf8 parts → AreUtf8 (onto_all (encode c) parts)
unfolding AreUtf8 IsSome
behind_char c parts is some are =
    let own = subst (λ ps. AllByRecursion IsUtf8 ps) some.2 are in
    subst (λ ps. AllByRecursion IsUtf8 (onto_all (encode c) ps)) (sym some.2)
    (subst (λ ps. AllByRecursion IsUtf8 ps) (sym (onto_one (encode c) some.0 some.1)) (IsUtf8-append (encode c) some.0 is own.0, own.1))

encodes_one : (c : ℕ) → scalars (c ∷ []) ≡ true → IsUtf8 (encode c)
encodes_one c is = (c ∷ [], (is, append-nil (encode c)))

scalar_one : (a b : Bool) → (a && b) ≡ true → (a && true) ≡ true
scalar_one true b e = refl
scalar_one false b e = absurd (let bad = e in cc)

rest_are : (a b : Bool) → (a && b) ≡ true → b ≡ true
rest_are true b e = e
rest_are false b e = absurd (let bad = e in cc)

newline_cut : (rest : List ℕ) → AreUtf8 (slice_split at_newline rest) → AreUtf8 (slice_split at_newline (encode 10 ++ rest))
unfolding AreUtf8 at_newline
newline_cut rest are = rw (encode_ascii 10 (lit< tt)) (IsUtf8-nil, are)

char_kept : (c : ℕ) (rest : List ℕ) → (c ≡ 10 → ⊥) → IsUtf8 (encode c) → AreUtf8 (slice_split at_newline rest) → AreUtf8 (slice_split at_newline (encode c ++ rest))
char_kept c rest not is are = subst AreUtf8 (sym (split_behind (encode c) rest (other_char c not))) (behind_char c (slice_split at_newline rest) is (split_some rest) are)

-- the parts of a text between newlines
parts_utf8 : (cs : List ℕ) → scalars cs ≡ true → AreUtf8 (slice_split at_newline (encodes cs))
unfolding AreUtf8
parts_utf8 [] are = (IsUtf8-nil, tt)
parts_utf8 (c ∷ cs) are = at (c == 10) refl (parts_utf8 cs (rest_are _ _ are))
  where
    at : (t : Bool) → (c == 10) ≡ t → AllByRecursion IsUtf8 (slice_split at_newline (encodes cs)) → AllByRecursion IsUtf8 (slice_split at_newline (encode c ++ encodes cs))
    at true e rest = subst (λ d. AllByRecursion IsUtf8 (slice_split at_newline (encode d ++ encodes cs))) (sym (eqb-true c 10 e)) (newline_cut (encodes cs) rest)
    at false e rest = char_kept c (encodes cs) (λ is. wrong is e) (encodes_one c (scalar_one _ _ are)) rest
      where
        wrong : c ≡ 10 → (c == 10) ≡ false → ⊥
        wrong is not = (let bad : (10 == 10) ≡ false = subst (λ d. (d == 10) ≡ false) is not in cc)

-- ---- no longer than the text

AreShort : ℕ → List (List ℕ) → Type 0
AreShort n parts = AllByRecursion (λ (l : List ℕ). length l ≤ n) parts

weaken : (n : ℕ) (parts : List (List ℕ)) → AreShort n parts → AreShort (suc n) parts
unfolding AreShort
weaken n [] are = tt
weaken n (l ∷ ls) are = (let one = are.0 in omega (arith, one), weaken n ls are.1)

longer : (n b : ℕ) (parts : List (List ℕ)) → AreShort n parts → AreShort (suc n) (onto_first b parts)
unfolding AreShort
longer n b [] are = (omega arith, tt)
longer n b (l ∷ ls) are = (let one = are.0 in omega (arith, one), weaken n ls are.1)

parts_short : (bs : List ℕ) → AreShort (length bs) (slice_split at_newline bs)
unfolding AreShort
parts_short [] = (omega arith, tt)
parts_short (b ∷ bs) = at (at_newline b) (parts_short bs)
  where
    at : (t : Bool) → AllByRecursion (λ (l : List ℕ). length l ≤ length bs) (slice_split at_newline bs) → AllByRecursion (λ (l : List ℕ). length l ≤ suc (length bs)) (cond t ([] ∷ slice_split at_newline bs) (onto_first b (slice_split at_newline bs)))
    at true are = (omega arith, weaken (length bs) (slice_split at_newline bs) are)
    at false are = longer (length bs) b (slice_split at_newline bs) are

-- ---- without a CR

IsLine : ℕ → List ℕ → Type 0
IsLine n l = IsUtf8 l × (length l ≤ n)

cut_is : (n : ℕ) (l : List ℕ) (t : Bool) → (slice_index l (length l - 1) == 13) ≡ t → IsLine n l → IsLine n (if t then take (length l - 1) l else l)
unfolding IsLine
cut_is n l false e is = is
cut_is n [] true e is = is
cut_is n (b ∷ bs) true e is =
    let last = eqb-true (slice_index (b ∷ bs) (length (b ∷ bs) - 1)) 13 e in
    let few = is.1 in (
      IsUtf8-take (b ∷ bs) (length (b ∷ bs) - 1) is.0 (IsCharBoundary-before_ascii (b ∷ bs) (length (b ∷ bs) - 1) (omega arith) (subst (λ m. m < 128) (sym last) (lit< tt))),
      short_take (length (b ∷ bs) - 1) (b ∷ bs) n few,
    )
  where
    short_take : (i : ℕ) (xs : List ℕ) (n : ℕ) → length xs ≤ n → length (take i xs) ≤ n
    short_take zero xs n h = omega arith
    short_take (suc i) [] n h = omega arith
    short_take (suc i) (x ∷ xs) zero h = absurd (omega (arith, h))
    short_take (suc i) (x ∷ xs) (suc n) h = let more = short_take i xs n (omega (arith, h)) in omega (arith, more)

strip_is : (n : ℕ) (l : List ℕ) → IsLine n l → IsLine n (strip_carriage_return l)
strip_is n l is = cut_is n l (slice_index l (length l - 1) == 13) refl is

-- a text that ends in no CR is left as it is
last_is : (l : List ℕ) → slice_index l (length l - 1) ≡ 13 → l ≡ take (length l - 1) l ++ 13 ∷ []
last_is [] e = absurd (let bad = e in cc)
last_is (b ∷ bs) e = sym (sym (ap (λ (end : List ℕ). take (length (b ∷ bs) - 1) (b ∷ bs) ++ end) tail) ∙ take-append-drop (length (b ∷ bs) - 1) (b ∷ bs))
  where
    tail : drop (length (b ∷ bs) - 1) (b ∷ bs) ≡ 13 ∷ []
    tail = drop-cons (b ∷ bs) (length (b ∷ bs) - 1) 0 (omega arith) ∙ ap₂ (λ (v : ℕ) (r : List ℕ). v ∷ r) e (drop_all (suc (length (b ∷ bs) - 1)) (b ∷ bs) (omega arith))

pub strip_none : (l : List ℕ) → ((front : List ℕ) → l ≡ front ++ 13 ∷ [] → ⊥) → l ≡ strip_carriage_return l
strip_none l not = at (slice_index l (length l - 1) == 13) refl
  where
    at : (t : Bool) → (slice_index l (length l - 1) == 13) ≡ t → l ≡ (if t then take (length l - 1) l else l)
    at true e = absurd (not (take (length l - 1) l) (last_is l (eqb-true (slice_index l (length l - 1)) 13 e)))
    at false e = refl

line_is : (n : ℕ) (l : List ℕ) → IsUtf8 l → length l ≤ n → IsLine n l
unfolding IsLine
line_is n l is few = (is, few)

lines_are : (n : ℕ) (parts : List (List ℕ)) → AllByRecursion IsUtf8 parts → AllByRecursion (λ (l : List ℕ). length l ≤ n) parts → AllByRecursion (IsLine n) (without_cr parts)
lines_are n [] are short = tt
lines_are n (l ∷ []) are short = (line_is n l are.0 short.0, tt)
lines_are n (l ∷ m ∷ ls) are short = (strip_is n l (line_is n l are.0 short.0), lines_are n (m ∷ ls) are.1 short.1)

-- ---- the lines of a value are values

and_so : (a b : Bool) → a ≡ true → b ≡ true → (a && b) ≡ true
and_so true b e f = f
and_so false b e f = e

few_so : (n m : ℕ) → n ≤ m → nat_le n m ≡ true
few_so n m h = grind (arith, nat_tests)

line_keeps : (l : List ℕ) → IsLine MOST_VALUE l → Keeps Value l
unfolding IsLine
line_keeps l is = and_so (nat_le (length l) MOST_VALUE) (is_utf8 l) (few_so (length l) MOST_VALUE is.1) (is_utf8-from_IsUtf8 l is.0)

each_keeps : (ls : List (List ℕ)) → AllByRecursion (IsLine MOST_VALUE) ls → AllByRecursion (Keeps Value) ls
each_keeps [] are = tt
each_keeps (l ∷ ls) are = (line_keeps l are.0, each_keeps ls are.1)

shorter : (n m : ℕ) (ls : List (List ℕ)) → n ≤ m → AllByRecursion (λ (l : List ℕ). length l ≤ n) ls → AllByRecursion (λ (l : List ℕ). length l ≤ m) ls
shorter n m [] h are = tt
shorter n m (l ∷ ls) h are = (let one = are.0 in omega (arith, one, h), shorter n m ls h are.1)

of_text : (text : List ℕ) → IsUtf8 text → length text ≤ MOST_VALUE → AllByRecursion (Keeps Value) (without_cr (slice_split at_newline text))
unfolding AreUtf8 AreShort
of_text text is few =
    each_keeps (without_cr (slice_split at_newline text))
    (lines_are MOST_VALUE (slice_split at_newline text) (subst (λ t. AllByRecursion IsUtf8 (slice_split at_newline t)) is.1.1 (parts_utf8 is.0 is.1.0))
    (shorter (length text) MOST_VALUE (slice_split at_newline text) few (parts_short text)))

pub lines_keep : (text : List ℕ) → IsUtf8 text → length text ≤ MOST_VALUE → AllByRecursion (Keeps Value) (lines_of text)
unfolding at_newline
lines_keep text is few = at (length text == 0) (of_text text is few)
  where
    at : (t : Bool) → AllByRecursion (Keeps Value) (without_cr (slice_split (λ b. b == 10) text)) → AllByRecursion (Keeps Value) (if t then [] else without_cr (slice_split (λ b. b == 10) text))
    at true are = tt
    at false are = are
