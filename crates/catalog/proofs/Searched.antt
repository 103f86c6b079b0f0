-- What a binary search of rising keys or ids finds, and ids in their order, each once.
use Rattle.std.proofs.Common.{ℕ, zero, suc, ◌+◌, ◌<◌, ◌≤◌, ◌≡◌, ◌∙◌, refl, sym, ap, subst, arith, add-one, append-nil, Bool, true, false, not, ◌&&◌, ◌||◌, List, [], ◌∷◌, ◌++◌, length, get_or, drop, drop-cons, flat_map, nat_eq, nat_lt, if◌then◌else◌, cond, Result, Ok, Err, is_ok}
use Rattle.std.specs.List.{filter, list_all, AllByRecursion, HoldsAt}
use Rattle.std.specs.List.Sorted.{IsBinarySearchResult, IsPermutation, IsPartitionPoint, IsSorted, IsSortedBy}
use Rattle.std.specs.Str.{bytes_eq}
use Rattle.std.specs.Ordering.{nat_cmp, is_lt, is_eq}
use Rattle.std.specs.Cmp.{IsTotalOrder}
use Rattle.std.specs.Cmp.Lexicographic.{slice_cmp}
use Rattle.std.proofs.Common.{Ordering, Less, Equal, Greater}
use Rattle.std.proofs.lemmas.Bool.Decides.{nat_tests}
use Rattle.std.proofs.lemmas.Cmp.{nat_list_cmp_total}
use Rattle.std.proofs.lemmas.List.Sorted.{IsNonDecreasingBy-from_sort, list_any-IsPermutation, searchable_from_sorted, searched}
use Rattle.std.proofs.lemmas.Map.Text.{is_eq-slice_cmp}
use Rattle.zobject.specs.Rules.{Rise, comes_before}
use Rattle.catalog.specs.declared.document.Index.{Index}
use Rattle.catalog.specs.declared.document.Posting.{Posting}
use Rattle.catalog.specs.declared.document.Sought.{Sought}
use Rattle.catalog.specs.Placing.{is_among}
use Rattle.catalog.specs.Postings.{key_before, oids_under}
use Rattle.catalog.specs.Agreeing.{AreIndexes}
use Rattle.catalog.specs.Forms.{IsPosting}
use Rattle.catalog.specs.Hits.{found_by, postings_of, sorted_ids}
use Rattle.catalog.specs.Merging.{is_next, once}
use Rattle.catalog.proofs.Agreed.{no_key_left}
use Rattle.catalog.proofs.Found.{sorted_is}
use Rattle.catalog.proofs.Inverse.{bytes_same, keys_differ, same_bytes}
use Rattle.catalog.proofs.Rising.{above_rise, key_chain, lt_chain, posting_chain, rise_above, rise_behind, rising_same, sorted_rise}

pub each_at : {X : Type 0} (P : X → Type 0) (xs : List X) (i : ℕ) (d : X) → AllByRecursion P xs → i < length xs → P (get_or xs i d)
each_at P [] i d all few = absurd (omega (arith, few))
each_at P (x ∷ xs) zero d all few = all.0
each_at P (x ∷ xs) (suc i) d all few = each_at P xs i d all.1 (omega (arith, few))

-- ---- keys

apart : (a b : List ℕ) → comes_before a b ≡ true → bytes_eq b a ≡ false
apart a b e = at (comes_before a b) (comes_before b a) (bytes_eq b a) (keys_differ b a) e
  where
    at : (x y z : Bool) → (x || y) ≡ not z → x ≡ true → z ≡ false
    at true y true d e = absurd (let bad = d in cc)
    at true y false d e = refl
    at false y z d e = absurd (let bad = e in cc)

no_key : (key : List ℕ) (p : Posting) (ps : List Posting) → bytes_eq key p.key ≡ false → oids_under key (p ∷ ps) ≡ oids_under key ps
no_key key p ps e = rw e refl

one_key : (key : List ℕ) (p : Posting) (ps : List Posting) → bytes_eq key p.key ≡ true → oids_under key ps ≡ [] → oids_under key (p ∷ ps) ≡ p.oids
one_key key p ps e none = rw e (rw none (append-nil p.oids))

under_at : (key : List ℕ) (ps : List Posting) (i : ℕ) (d : Posting) → Rise key_before ps → i < length ps → bytes_eq key (get_or ps i d).key ≡ true → oids_under key ps ≡ (get_or ps i d).oids
under_at key [] i d rise few is = absurd (omega (arith, few))
under_at key (p ∷ ps) zero d rise few is = one_key key p ps is (no_key_left key p ps is (rise_above key_before posting_chain p ps rise))
under_at key (p ∷ ps) (suc i) d rise few is =
    let before = each_at (λ q. key_before p q ≡ true) ps i d (rise_above key_before posting_chain p ps rise) (omega (arith, few)) in
    let other : bytes_eq key p.key ≡ false = subst (λ (k : List ℕ). bytes_eq k p.key ≡ false) (sym (same_bytes key (get_or ps i d).key is)) (apart p.key (get_or ps i d).key before) in
    no_key key p ps other ∙ under_at key ps i d (rise_behind key_before posting_chain p ps rise) (omega (arith, few)) is

under_none : (key : List ℕ) (ps : List Posting) → ((k : ℕ) (d : Posting) → k < length ps → bytes_eq key (get_or ps k d).key ≡ false) → oids_under key ps ≡ []
under_none key [] none = refl
under_none key (p ∷ ps) none = no_key key p ps (none 0 p (omega arith)) ∙ under_none key ps (λ k d few. none (suc k) d (omega (arith, few)))

-- the objects under a key rise
pub under_rise : (key : List ℕ) (ps : List Posting) → AllByRecursion IsPosting ps → Rise key_before ps → Rise nat_lt (oids_under key ps)
under_rise key [] each rise = tt
under_rise key (p ∷ ps) each rise = at (bytes_eq key p.key) refl (under_rise key ps each.1 (rise_behind key_before posting_chain p ps rise))
  where
    at : (b : Bool) → bytes_eq key p.key ≡ b → Rise nat_lt (oids_under key ps) → Rise nat_lt (oids_under key (p ∷ ps))
    at true e rest = subst (Rise nat_lt) (sym (one_key key p ps e (no_key_left key p ps e (rise_above key_before posting_chain p ps rise)))) each.0.rise
    at false e rest = subst (Rise nat_lt) (sym (no_key key p ps e)) rest

pub is_equal : (a b : List ℕ) → slice_cmp nat_cmp a b ≡ Equal → bytes_eq b a ≡ true
is_equal a b e = subst (λ (c : List ℕ). bytes_eq c a ≡ true) (same_bytes a b (sym (is_eq-slice_cmp a b) ∙ ap is_eq e)) (bytes_same a)

pub is_less : (a b : List ℕ) → slice_cmp nat_cmp a b ≡ Less → bytes_eq b a ≡ false
is_less a b e = at (bytes_eq b a) refl
  where
    at : (x : Bool) → bytes_eq b a ≡ x → x ≡ false
    at false is = refl
    at true is = absurd (let same = is_eq-slice_cmp a b ∙ subst (λ (c : List ℕ). bytes_eq c b ≡ true) (same_bytes b a is) (bytes_same b) in let less = ap is_eq e in cc)

pub is_greater : (a b : List ℕ) → slice_cmp nat_cmp a b ≡ Greater → bytes_eq b a ≡ false
is_greater a b e = at (bytes_eq b a) refl
  where
    at : (x : Bool) → bytes_eq b a ≡ x → x ≡ false
    at false is = refl
    at true is = absurd (let same = is_eq-slice_cmp a b ∙ subst (λ (c : List ℕ). bytes_eq c b ≡ true) (same_bytes b a is) (bytes_same b) in let greater = ap is_eq e in cc)

pub not_back : (a b : List ℕ) → comes_before a b ≡ true → comes_before b a ≡ false
not_back a b e = at (comes_before b a) refl
  where
    at : (x : Bool) → comes_before b a ≡ x → x ≡ false
    at false is = refl
    at true is = absurd (let off = apart a a (key_chain a b a e is) in let on = bytes_same a in cc)

-- a list that rises is sorted by each order that never turns two of its items round
pub rise_sorted : {X : Type 0} (before less : X → X → Bool) → ((x y : X) → before x y ≡ true → less y x ≡ false) → (xs : List X) → Rise before xs → IsSortedBy less xs
rise_sorted {X} before less back xs rise = λ k d low few. subst (λ (m : ℕ). less (get_or xs m d) (get_or xs k d) ≡ false) (sym (add-one k)) (next xs k d rise (omega (arith, few)))
  where
    next : (ys : List X) (i : ℕ) (d : X) → Rise before ys → suc i < length ys → less (get_or ys (suc i) d) (get_or ys i d) ≡ false
    next [] i d rise few = absurd (omega (arith, few))
    next (y ∷ []) i d rise few = absurd (omega (arith, few))
    next (y ∷ z ∷ zs) zero d rise few = back y z rise.0
    next (y ∷ z ∷ zs) (suc i) d rise few = next (z ∷ zs) i d rise.1 (omega (arith, few))

-- what a search by a key answers that finds nothing: no item has it
pub absent : {K : Type 0} {R : K → K → Ordering} → IsTotalOrder R → {X : Type 0} (key : X → K) (same : K → K → Bool) → ((a b : K) → R a b ≡ Less → same b a ≡ false) → ((a b : K) → R a b ≡ Greater → same b a ≡ false) → (xs : List X) (x : K) (i : ℕ) → IsSortedBy (λ y z. is_lt (R (key y) (key z))) xs → IsBinarySearchResult (λ y. R (key y) x) xs (Err i) → (k : ℕ) (d : X) → k < length xs → same x (key (get_or xs k d)) ≡ false
absent {K} {R} total {X} key same less greater xs x i sorted is k d few = at (nat_lt k i) refl
  where
    point : IsPartitionPoint (λ y. R (key y) x ≡ Less) (λ y. R (key y) x ≡ Greater) xs i
    point = is (searchable_from_sorted total key xs x sorted)

    low : nat_lt k i ≡ true → k < i
    low e = grind (arith, nat_tests)

    high : nat_lt k i ≡ false → i ≤ k
    high e = grind (arith, nat_tests)

    at : (b : Bool) → nat_lt k i ≡ b → same x (key (get_or xs k d)) ≡ false
    at true e = less (key (get_or xs k d)) x (point.0 k d (omega arith) (low e))
    at false e = greater (key (get_or xs k d)) x (point.1 k d (high e) few)

keys_sorted : (ps : List Posting) → Rise key_before ps → IsSortedBy (λ (p q : Posting). is_lt (slice_cmp nat_cmp p.key q.key)) ps
keys_sorted ps rise = rise_sorted key_before (λ (p q : Posting). is_lt (slice_cmp nat_cmp p.key q.key)) (λ p q. not_back p.key q.key) ps rise

-- what a search by a key answers
pub under_found : (key : List ℕ) (ps : List Posting) (i : ℕ) (d : Posting) → Rise key_before ps → i < length ps → HoldsAt (λ (p : Posting). slice_cmp nat_cmp p.key key ≡ Equal) ps i → oids_under key ps ≡ (get_or ps i d).oids
under_found key ps i d rise few is = under_at key ps i d rise few (is_equal (get_or ps i d).key key (is d))

pub under_absent : (key : List ℕ) (ps : List Posting) (i : ℕ) → Rise key_before ps → IsBinarySearchResult (λ (p : Posting). slice_cmp nat_cmp p.key key) ps (Err i) → oids_under key ps ≡ []
under_absent key ps i rise is = under_none key ps (absent nat_list_cmp_total (λ (p : Posting). p.key) bytes_eq is_less is_greater ps key i (keys_sorted ps rise) is)

-- ---- ids that rise

rise_far : (xs : List ℕ) (i j d : ℕ) → Rise nat_lt xs → i ≤ j → j < length xs → get_or xs i d ≤ get_or xs j d
rise_far [] i j d rise few within = absurd (omega (arith, within))
rise_far (x ∷ xs) zero zero d rise few within = omega arith
rise_far (x ∷ xs) zero (suc j) d rise few within = let above = each_at (λ y. nat_lt x y ≡ true) xs j d (rise_above nat_lt lt_chain x xs rise) (omega (arith, within)) in weak above
  where
    weak : nat_lt x (get_or xs j d) ≡ true → x ≤ get_or xs j d
    weak e = grind (arith, nat_tests)
rise_far (x ∷ xs) (suc i) zero d rise few within = absurd (omega (arith, few))
rise_far (x ∷ xs) (suc i) (suc j) d rise few within = rise_far xs i j d (rise_behind nat_lt lt_chain x xs rise) (omega (arith, few)) (omega (arith, within))

among_at : (o : ℕ) (xs : List ℕ) (i : ℕ) → i < length xs → get_or xs i 0 ≡ o → is_among o xs ≡ true
among_at o [] i few is = absurd (omega (arith, few))
among_at o (x ∷ xs) zero few is = rw (same x is) refl
  where
    same : (y : ℕ) → y ≡ o → nat_eq o y ≡ true
    same y e = grind (arith, nat_tests)
among_at o (x ∷ xs) (suc i) few is = rw (among_at o xs i (omega (arith, few)) is) (always (nat_eq o x))
  where
    always : (b : Bool) → (b || true) ≡ true
    always true = refl
    always false = refl

among_none : (o : ℕ) (xs : List ℕ) → ((k : ℕ) → k < length xs → nat_eq o (get_or xs k 0) ≡ false) → is_among o xs ≡ false
among_none o [] none = refl
among_none o (x ∷ xs) none = rw (none 0 (omega arith)) (among_none o xs (λ k few. none (suc k) (omega (arith, few))))

pub among_is : (o : ℕ) (xs : List ℕ) (r : Result ℕ ℕ) → Rise nat_lt xs → IsBinarySearchResult (λ y. nat_cmp y o) xs r → is_ok r ≡ is_among o xs
among_is o xs (Ok i) rise is = let at = searched xs o (Ok i) is (λ i j few within. rise_far xs i j 0 rise few within) in sym (among_at o xs i at.0 at.1)
among_is o xs (Err i) rise is = sym (among_none o xs (λ k few. one k few (nat_lt k i) refl))
  where
    facts : (i ≤ length xs) × ((k : ℕ) → k < i → get_or xs k 0 < o) × ((k : ℕ) → i ≤ k → k < length xs → o < get_or xs k 0)
    facts = searched xs o (Err i) is (λ i j few within. rise_far xs i j 0 rise few within)

    low : (k : ℕ) → nat_lt k i ≡ true → k < i
    low k e = grind (arith, nat_tests)

    high : (k : ℕ) → nat_lt k i ≡ false → i ≤ k
    high k e = grind (arith, nat_tests)

    less : (y : ℕ) → y < o → nat_eq o y ≡ false
    less y e = grind (arith, nat_tests)

    more : (y : ℕ) → o < y → nat_eq o y ≡ false
    more y e = grind (arith, nat_tests)

    one : (k : ℕ) → k < length xs → (b : Bool) → nat_lt k i ≡ b → nat_eq o (get_or xs k 0) ≡ false
    one k few true e = less (get_or xs k 0) (facts.1 k (low k e))
    one k few false e = more (get_or xs k 0) (facts.2 k (high k e) few)

-- ---- each once

pub once_more : (x : ℕ) (xs : List ℕ) → once (x ∷ xs) ≡ (if is_next x xs then [] else x ∷ []) ++ once xs
once_more x xs = at (is_next x xs)
  where
    at : (b : Bool) → (if b then once xs else x ∷ once xs) ≡ (if b then [] else x ∷ []) ++ once xs
    at true = refl
    at false = refl

each_once : (P : ℕ → Type 0) (xs : List ℕ) → AllByRecursion P xs → AllByRecursion P (once xs)
each_once P [] all = tt
each_once P (x ∷ xs) all = at (is_next x xs) (each_once P xs all.1)
  where
    at : (b : Bool) → AllByRecursion P (once xs) → AllByRecursion P (if b then once xs else x ∷ once xs)
    at true rest = rest
    at false rest = (all.0, rest)

-- ids that don't fall
abbrev Mounts : List ℕ → Type 0
Mounts xs = (i j : ℕ) (d : ℕ) → i ≤ j → j < length xs → get_or xs i d ≤ get_or xs j d

mounts_behind : (x : ℕ) (xs : List ℕ) → Mounts (x ∷ xs) → Mounts xs
mounts_behind x xs up = λ i j d few within. up (suc i) (suc j) d (omega (arith, few)) (omega (arith, within))

all_from : (x : ℕ) (xs : List ℕ) → ((k : ℕ) → k < length xs → x < get_or xs k 0) → AllByRecursion (λ y. nat_lt x y ≡ true) xs
all_from x [] each = tt
all_from x (y ∷ ys) each = (less y (each 0 (omega arith)), all_from x ys (λ k few. each (suc k) (omega (arith, few))))
  where
    less : (z : ℕ) → x < z → nat_lt x z ≡ true
    less z e = grind (arith, nat_tests)

next_above : (x : ℕ) (xs : List ℕ) → Mounts (x ∷ xs) → is_next x xs ≡ false → AllByRecursion (λ y. nat_lt x y ≡ true) xs
next_above x [] up other = tt
next_above x (y ∷ ys) up other = all_from x (y ∷ ys) (λ k few. far k few (first y other (up 0 1 0 (omega arith) (omega arith))))
  where
    first : (z : ℕ) → nat_eq z x ≡ false → x ≤ z → x < z
    first z e f = grind (arith, nat_tests)

    far : (k : ℕ) → k < length (y ∷ ys) → x < y → x < get_or (y ∷ ys) k 0
    far k few less = let up_to = up 1 (suc k) 0 (omega arith) (omega (arith, few)) in omega (arith, less, up_to)

once_rise : (xs : List ℕ) → Mounts xs → Rise nat_lt (once xs)
once_rise [] up = tt
once_rise (x ∷ xs) up = at (is_next x xs) refl (once_rise xs (mounts_behind x xs up))
  where
    at : (b : Bool) → is_next x xs ≡ b → Rise nat_lt (once xs) → Rise nat_lt (if b then once xs else x ∷ once xs)
    at true e rest = rest
    at false e rest = above_rise nat_lt lt_chain x (once xs) (each_once (λ y. nat_lt x y ≡ true) xs (next_above x xs up e)) rest

next_among : (o x : ℕ) (xs : List ℕ) → is_next x xs ≡ true → is_among o xs ≡ (nat_eq o x || is_among o xs)
next_among o x [] e = absurd (let bad = e in cc)
next_among o x (y ∷ ys) e = rw (sym (equal e)) (twice (nat_eq o y) (is_among o ys))
  where
    equal : nat_eq y x ≡ true → y ≡ x
    equal is = grind (arith, nat_tests)

    twice : (a b : Bool) → (a || b) ≡ (a || (a || b))
    twice true b = refl
    twice false b = refl

once_is : (o : ℕ) (xs : List ℕ) → is_among o (once xs) ≡ is_among o xs
once_is o [] = refl
once_is o (x ∷ xs) = at (is_next x xs) refl (once_is o xs)
  where
    at : (b : Bool) → is_next x xs ≡ b → is_among o (once xs) ≡ is_among o xs → is_among o (if b then once xs else x ∷ once xs) ≡ (nat_eq o x || is_among o xs)
    at true e deeper = deeper ∙ next_among o x xs e
    at false e deeper = ap (λ b. nat_eq o x || b) deeper

-- sorted, each once
pub sorted_once : (xs ys : List ℕ) → IsPermutation xs ys → IsSorted nat_cmp ys → once ys ≡ sorted_ids xs
sorted_once xs ys moved up =
    rising_same (once ys) (sorted_ids xs) (once_rise ys (IsNonDecreasingBy-from_sort (λ x. x) ys up)) (sorted_rise xs)
    (λ o. once_is o ys ∙ sym (list_any-IsPermutation (nat_eq o) xs ys moved) ∙ sym (sorted_is o xs))

-- ---- indexes

pub postings_at : (i : ℕ) (xs : List Index) (d : Index) → i < length xs → postings_of i xs ≡ (get_or xs i d).postings
postings_at i [] d few = absurd (omega (arith, few))
postings_at zero (x ∷ xs) d few = refl
postings_at (suc i) (x ∷ xs) d few = postings_at i xs d (omega (arith, few))

pub postings_past : (i : ℕ) (xs : List Index) → length xs ≤ i → postings_of i xs ≡ []
postings_past i [] past = refl
postings_past zero (x ∷ xs) past = absurd (omega (arith, past))
postings_past (suc i) (x ∷ xs) past = postings_past i xs (omega (arith, past))

pub postings_rise : (i : ℕ) (xs : List Index) → AreIndexes xs → Rise key_before (postings_of i xs)
postings_rise i [] are = tt
postings_rise zero (x ∷ xs) are = are.0.rise
postings_rise (suc i) (x ∷ xs) are = postings_rise i xs are.1

pub found_rise : (xs : List Index) (s : Sought) → Rise nat_lt (found_by xs s)
found_rise xs s = sorted_rise (flat_map (λ key. oids_under key (postings_of s.index xs)) s.given)

-- ---- several indexes

abbrev pub left_of : List Index → List Sought → List ℕ → List ℕ
left_of xs further found = filter (λ o. list_all (λ t. is_among o (found_by xs t)) further) found

pub none_left : (xs : List Index) (found : List ℕ) → left_of xs [] found ≡ found
none_left xs [] = refl
none_left xs (o ∷ os) = ap (λ rest. o ∷ rest) (none_left xs os)

pub one_left : (xs : List Index) (t : Sought) (ts : List Sought) (found : List ℕ) → left_of xs (t ∷ ts) found ≡ left_of xs ts (filter (λ o. is_among o (found_by xs t)) found)
one_left xs t ts [] = refl
one_left xs t ts (o ∷ os) = at (is_among o (found_by xs t)) (one_left xs t ts os)
  where
    at : (b : Bool) → left_of xs (t ∷ ts) os ≡ left_of xs ts (filter (λ p. is_among p (found_by xs t)) os) →
        cond (b && list_all (λ t. is_among o (found_by xs t)) ts) (o ∷ left_of xs (t ∷ ts) os) (left_of xs (t ∷ ts) os) ≡ left_of xs ts (cond b (o ∷ filter (λ p. is_among p (found_by xs t)) os) (filter (λ p. is_among p (found_by xs t)) os))
    at false deeper = deeper
    at true deeper = inner (list_all (λ t. is_among o (found_by xs t)) ts) deeper
      where
        inner : (c : Bool) → left_of xs (t ∷ ts) os ≡ left_of xs ts (filter (λ p. is_among p (found_by xs t)) os) →
            cond c (o ∷ left_of xs (t ∷ ts) os) (left_of xs (t ∷ ts) os) ≡ cond c (o ∷ left_of xs ts (filter (λ p. is_among p (found_by xs t)) os)) (left_of xs ts (filter (λ p. is_among p (found_by xs t)) os))
        inner true deeper = ap (λ rest. o ∷ rest) deeper
        inner false deeper = deeper

drop_end : (i : ℕ) (ts : List Sought) → length ts ≤ i → drop i ts ≡ []
drop_end zero [] past = refl
drop_end (suc i) [] past = refl
drop_end zero (t ∷ ts) past = absurd (omega (arith, past))
drop_end (suc i) (t ∷ ts) past = drop_end i ts (omega (arith, past))

pub left_end : (xs : List Index) (further : List Sought) (i : ℕ) (found all : List ℕ) → length further ≤ i → left_of xs (drop i further) found ≡ all → found ≡ all
left_end xs further i found all past is = sym (none_left xs found) ∙ ap (λ ts. left_of xs ts found) (sym (drop_end i further past)) ∙ is

pub left_step : (xs : List Index) (further : List Sought) (i : ℕ) (d : Sought) (found others new all : List ℕ) → i < length further → others ≡ found_by xs (get_or further i d) → new ≡ filter (λ o. is_among o others) found →
    left_of xs (drop i further) found ≡ all → left_of xs (drop (i + 1) further) new ≡ all
left_step xs further i d found others new all few other is before =
    ap (λ n. left_of xs (drop n further) new) (add-one i)
    ∙ ap (λ os. left_of xs (drop (suc i) further) os) (is ∙ ap (λ os. filter (λ o. is_among o os) found) other)
    ∙ sym (one_left xs (get_or further i d) (drop (suc i) further) found)
    ∙ ap (λ ts. left_of xs ts found) (sym (drop-cons further i d few))
    ∙ before
