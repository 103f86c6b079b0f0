-- Whether an index is the inverse of its column: what a look through each of the two tells.
use Rattle.std.proofs.Common.{ℕ, zero, suc, ◌+◌, ◌<◌, ◌≤◌, ◌≡◌, ◌⊎◌, inl, inr, ◌∙◌, refl, sym, ap, subst, arith, Bool, true, false, ◌&&◌, ◌||◌, List, [], ◌∷◌, length, get_or, nat_eq, nat_lt, Result, Ok, Err, is_ok, Ordering, Less, Equal, Greater}
use Rattle.std.specs.List.{list_all, list_any, AllByRecursion, HoldsAt}
use Rattle.std.specs.List.Sorted.{IsBinarySearchResult, IsSearchInRange}
use Rattle.std.specs.Str.{bytes_eq}
use Rattle.std.specs.Ordering.{nat_cmp, is_lt, MatchOrdering}
use Rattle.std.specs.Cmp.{ranks}
use Rattle.std.specs.Cmp.Lexicographic.{slice_cmp}
use Rattle.std.proofs.lemmas.Bool.Decides.{nat_tests}
use Rattle.std.proofs.lemmas.Cmp.{nat_cmp_total, nat_list_cmp_total}
use Rattle.zobject.specs.Rules.{Rise, comes_before}
use Rattle.catalog.specs.declared.document.Contents.{Contents}
use Rattle.catalog.specs.declared.document.Entry.{Entry}
use Rattle.catalog.specs.declared.document.Index.{Index}
use Rattle.catalog.specs.declared.document.Posting.{Posting}
use Rattle.catalog.specs.Agreeing.{Agrees, AreIndexes, AreInverses, IsInverse}
use Rattle.catalog.specs.Differing.{IsFirstDiffering, is_entry_posted, is_inverse, is_posting_valued}
use Rattle.catalog.specs.Forms.{AreEntries, AreValues, IsEntry}
use Rattle.catalog.specs.Hits.{postings_of}
use Rattle.catalog.specs.Placing.{has_text, is_among}
use Rattle.catalog.specs.Postings.{is_posted, is_valued, oid_before, values_for}
use Rattle.catalog.proofs.Any.{or_false}
use Rattle.catalog.proofs.Inverse.{bytes_same, same_bytes}
use Rattle.catalog.proofs.Rising.{entry_chain, rise_above, rise_behind}
use Rattle.catalog.proofs.Searched.{absent, each_at, is_equal, is_greater, is_less, not_back, postings_at, rise_sorted}

-- ---- tests

and_parts : (a b : Bool) → (a && b) ≡ true → (a ≡ true) × (b ≡ true)
and_parts true b e = (refl, e)
and_parts false b e = absurd (let bad = e in cc)

both : (a b : Bool) → a ≡ true → b ≡ true → (a && b) ≡ true
both true b one other = other
both false b one other = one

or_parts : (a b : Bool) → (a || b) ≡ true → (a ≡ true) ⊎ (b ≡ true)
or_parts true b e = inl refl
or_parts false b e = inr e

or_left : (a b : Bool) → a ≡ true → (a || b) ≡ true
or_left a b e = rw e refl

or_right : (a b : Bool) → b ≡ true → (a || b) ≡ true
or_right true b e = refl
or_right false b e = e

one_bool : (a b : Bool) → (a ≡ true → b ≡ true) → (b ≡ true → a ≡ true) → a ≡ b
one_bool true b on back = sym (on refl)
one_bool false true on back = back refl
one_bool false false on back = refl

nat_same : (x y : ℕ) → nat_eq x y ≡ true → x ≡ y
nat_same x y e = grind (arith, nat_tests)

nat_self : (x : ℕ) → nat_eq x x ≡ true
nat_self x = grind (arith, nat_tests)

module _ {X : Type 0} (eq : X → X → Bool) (test : X → Bool) where
  all_found : ((x y : X) → eq x y ≡ true → x ≡ y) → (xs : List X) (x : X) → list_all test xs ≡ true → list_any (eq x) xs ≡ true → test x ≡ true
  all_found same [] x all found = absurd (let bad = found in cc)
  all_found same (y ∷ ys) x all found =
      let parts = and_parts (test y) (list_all test ys) all in
      elim (or_parts (eq x y) (list_any (eq x) ys) found) [
        | inl here ↦ subst (λ z. test z ≡ true) (sym (same x y here)) parts.0
        | inr there ↦ all_found same ys x parts.1 there
      ]

  found_all : ((x : X) → eq x x ≡ true) → (xs : List X) → ((x : X) → list_any (eq x) xs ≡ true → test x ≡ true) → list_all test xs ≡ true
  found_all self [] each = refl
  found_all self (y ∷ ys) each =
      both (test y) (list_all test ys) (each y (or_left (eq y y) (list_any (eq y) ys) (self y)))
      (found_all self ys (λ x there. each x (or_right (eq x y) (list_any (eq x) ys) there)))

-- ---- through both

posted_valued : (i : ℕ) (es : List Entry) (ps : List Posting) → list_all (is_posting_valued i es) ps ≡ true → (key : List ℕ) (o : ℕ) → is_posted key o ps ≡ true → is_valued i key o es ≡ true
posted_valued i es [] all key o is = absurd (let bad = is in cc)
posted_valued i es (p ∷ ps) all key o is =
    let parts = and_parts (is_posting_valued i es p) (list_all (is_posting_valued i es) ps) all in
    elim (or_parts (bytes_eq key p.key && is_among o p.oids) (is_posted key o ps) is) [
      | inl here ↦
          let so = and_parts (bytes_eq key p.key) (is_among o p.oids) here in
          subst (λ k. is_valued i k o es ≡ true) (sym (same_bytes key p.key so.0)) (all_found nat_eq (λ q. is_valued i p.key q es) nat_same p.oids o parts.0 so.1)
      | inr there ↦ posted_valued i es ps parts.1 key o there
    ]

valued_posted : (i : ℕ) (ps : List Posting) (es : List Entry) → list_all (is_entry_posted i ps) es ≡ true → (key : List ℕ) (o : ℕ) → is_valued i key o es ≡ true → is_posted key o ps ≡ true
valued_posted i ps [] all key o is = absurd (let bad = is in cc)
valued_posted i ps (e ∷ es) all key o is =
    let parts = and_parts (is_entry_posted i ps e) (list_all (is_entry_posted i ps) es) all in
    elim (or_parts (nat_eq o e.oid && has_text key (values_for i e)) (is_valued i key o es) is) [
      | inl here ↦
          let so = and_parts (nat_eq o e.oid) (has_text key (values_for i e)) here in
          subst (λ q. is_posted key q ps ≡ true) (sym (nat_same o e.oid so.0)) (all_found bytes_eq (λ k. is_posted k e.oid ps) same_bytes (values_for i e) key parts.0 so.1)
      | inr there ↦ valued_posted i ps es parts.1 key o there
    ]

all_valued : (i : ℕ) (es : List Entry) (ps : List Posting) → ((key : List ℕ) (o : ℕ) → is_posted key o ps ≡ true → is_valued i key o es ≡ true) → list_all (is_posting_valued i es) ps ≡ true
all_valued i es [] each = refl
all_valued i es (p ∷ ps) each =
    both (is_posting_valued i es p) (list_all (is_posting_valued i es) ps)
    (found_all nat_eq (λ q. is_valued i p.key q es) nat_self p.oids (λ o here. each p.key o (or_left (bytes_eq p.key p.key && is_among o p.oids) (is_posted p.key o ps) (both (bytes_eq p.key p.key) (is_among o p.oids) (bytes_same p.key) here))))
    (all_valued i es ps (λ key o there. each key o (or_right (bytes_eq key p.key && is_among o p.oids) (is_posted key o ps) there)))

all_posted : (i : ℕ) (ps : List Posting) (es : List Entry) → ((key : List ℕ) (o : ℕ) → is_valued i key o es ≡ true → is_posted key o ps ≡ true) → list_all (is_entry_posted i ps) es ≡ true
all_posted i ps [] each = refl
all_posted i ps (e ∷ es) each =
    both (is_entry_posted i ps e) (list_all (is_entry_posted i ps) es)
    (found_all bytes_eq (λ k. is_posted k e.oid ps) bytes_same (values_for i e) (λ key here. each key e.oid (or_left (nat_eq e.oid e.oid && has_text key (values_for i e)) (is_valued i key e.oid es) (both (nat_eq e.oid e.oid) (has_text key (values_for i e)) (nat_self e.oid) here))))
    (all_posted i ps es (λ key o there. each key o (or_right (nat_eq o e.oid && has_text key (values_for i e)) (is_valued i key o es) there)))

pub told_inverse : (i : ℕ) (es : List Entry) (ps : List Posting) → is_inverse i es ps ≡ true → IsInverse i es ps
told_inverse i es ps told =
    let parts = and_parts (list_all (is_posting_valued i es) ps) (list_all (is_entry_posted i ps) es) told in
    λ key o. one_bool (is_posted key o ps) (is_valued i key o es) (posted_valued i es ps parts.0 key o) (valued_posted i ps es parts.1 key o)

pub inverse_told : (i : ℕ) (es : List Entry) (ps : List Posting) → IsInverse i es ps → is_inverse i es ps ≡ true
inverse_told i es ps is =
    both (list_all (is_posting_valued i es) ps) (list_all (is_entry_posted i ps) es) (all_valued i es ps (λ key o posted. sym (is key o) ∙ posted)) (all_posted i ps es (λ key o valued. is key o ∙ valued))

-- each index from the i-th column on
pub inverses_from : (i : ℕ) (es : List Entry) (xs : List Index) → ((k : ℕ) → k < length xs → IsInverse (i + k) es (postings_of k xs)) → AreInverses i es xs
inverses_from i es [] each = tt
inverses_from i es (x ∷ xs) each = (
  subst (λ k. IsInverse k es x.postings) (omega arith) (each 0 (omega arith)),
  inverses_from (suc i) es xs (λ k few. subst (λ n. IsInverse n es (postings_of k xs)) (omega arith) (each (suc k) (omega (arith, few)))),
)

-- ---- what a binary search finds

text_at : (t : List ℕ) (xs : List (List ℕ)) (i : ℕ) (d : List ℕ) → i < length xs → bytes_eq t (get_or xs i d) ≡ true → has_text t xs ≡ true
text_at t [] i d few is = absurd (omega (arith, few))
text_at t (x ∷ xs) zero d few is = or_left (bytes_eq t x) (has_text t xs) is
text_at t (x ∷ xs) (suc i) d few is = or_right (bytes_eq t x) (has_text t xs) (text_at t xs i d (omega (arith, few)) is)

text_none : (t : List ℕ) (xs : List (List ℕ)) → ((k : ℕ) (d : List ℕ) → k < length xs → bytes_eq t (get_or xs k d) ≡ false) → has_text t xs ≡ false
text_none t [] none = refl
text_none t (x ∷ xs) none = rw (none 0 x (omega arith)) (text_none t xs (λ k d few. none (suc k) d (omega (arith, few))))

pub text_is : (t : List ℕ) (xs : List (List ℕ)) (r : Result ℕ ℕ) → Rise comes_before xs → IsSearchInRange r (length xs) → IsBinarySearchResult (λ y. slice_cmp nat_cmp y t) xs r → is_ok r ≡ has_text t xs
text_is t xs (Ok i) rise few is = sym (text_at t xs i t few (is_equal (get_or xs i t) t (is t)))
text_is t xs (Err i) rise few is =
    sym (text_none t xs (absent nat_list_cmp_total (λ y. y) bytes_eq is_less is_greater xs t i (rise_sorted comes_before (λ y z. is_lt (slice_cmp nat_cmp y z)) not_back xs rise) is))

oid_less : (a b : ℕ) → nat_cmp a b ≡ Less → nat_eq b a ≡ false
oid_less a b e = let low : a < b = subst (λ r. MatchOrdering r (a < b) (a ≡ b) (b < a)) e (ranks a b) in grind (arith, nat_tests)

oid_greater : (a b : ℕ) → nat_cmp a b ≡ Greater → nat_eq b a ≡ false
oid_greater a b e = let high : b < a = subst (λ r. MatchOrdering r (a < b) (a ≡ b) (b < a)) e (ranks a b) in grind (arith, nat_tests)

oid_equal : (a b : ℕ) → nat_cmp a b ≡ Equal → nat_eq b a ≡ true
oid_equal a b e = let same : a ≡ b = subst (λ r. MatchOrdering r (a < b) (a ≡ b) (b < a)) e (ranks a b) in grind (arith, nat_tests)

oid_back : (d e : Entry) → oid_before d e ≡ true → is_lt (nat_cmp e.oid d.oid) ≡ false
oid_back d e before = at (nat_cmp e.oid d.oid) refl
  where
    at : (r : Ordering) → nat_cmp e.oid d.oid ≡ r → is_lt r ≡ false
    at Less is = absurd (let low : e.oid < d.oid = subst (λ r. MatchOrdering r (e.oid < d.oid) (e.oid ≡ d.oid) (d.oid < e.oid)) is (ranks e.oid d.oid) in low_high low before)
      where
        low_high : e.oid < d.oid → nat_lt d.oid e.oid ≡ true → ⊥
        low_high low up = grind (arith, nat_tests)
    at Equal is = refl
    at Greater is = refl

no_entry : (i : ℕ) (key : List ℕ) (o : ℕ) (e : Entry) (es : List Entry) → nat_eq o e.oid ≡ false → is_valued i key o (e ∷ es) ≡ is_valued i key o es
no_entry i key o e es other = rw other refl

valued_none : (i : ℕ) (key : List ℕ) (o : ℕ) (es : List Entry) → ((k : ℕ) (d : Entry) → k < length es → nat_eq o (get_or es k d).oid ≡ false) → is_valued i key o es ≡ false
valued_none i key o [] none = refl
valued_none i key o (e ∷ es) none = no_entry i key o e es (none 0 e (omega arith)) ∙ valued_none i key o es (λ k d few. none (suc k) d (omega (arith, few)))

above_none : (i : ℕ) (key : List ℕ) (o : ℕ) (es : List Entry) → AllByRecursion (λ (e : Entry). nat_lt o e.oid ≡ true) es → is_valued i key o es ≡ false
above_none i key o [] above = refl
above_none i key o (e ∷ es) above = no_entry i key o e es (other e.oid above.0) ∙ above_none i key o es above.1
  where
    other : (p : ℕ) → nat_lt o p ≡ true → nat_eq o p ≡ false
    other p up = grind (arith, nat_tests)

valued_at : (i : ℕ) (key : List ℕ) (o : ℕ) (es : List Entry) (at : ℕ) (d : Entry) → Rise oid_before es → at < length es → nat_eq o (get_or es at d).oid ≡ true → is_valued i key o es ≡ has_text key (values_for i (get_or es at d))
valued_at i key o [] at d rise few is = absurd (omega (arith, few))
valued_at i key o (e ∷ es) zero d rise few is =
    let above = rise_above oid_before entry_chain e es rise in
    rw is (rw (above_none i key o es (subst (λ p. AllByRecursion (λ (f : Entry). nat_lt p f.oid ≡ true) es) (sym (nat_same o e.oid is)) above)) (or_false (has_text key (values_for i e))))
valued_at i key o (e ∷ es) (suc at) d rise few is =
    let before = each_at (λ f. oid_before e f ≡ true) es at d (rise_above oid_before entry_chain e es rise) (omega (arith, few)) in
    no_entry i key o e es (other e.oid (get_or es at d).oid before is) ∙ valued_at i key o es at d (rise_behind oid_before entry_chain e es rise) (omega (arith, few)) is
  where
    other : (p q : ℕ) → nat_lt p q ≡ true → nat_eq o q ≡ true → nat_eq o p ≡ false
    other p q up same = grind (arith, nat_tests)

pub valued_found : (i : ℕ) (key : List ℕ) (o : ℕ) (es : List Entry) (at : ℕ) (d : Entry) → Rise oid_before es → at < length es → HoldsAt (λ (e : Entry). nat_cmp e.oid o ≡ Equal) es at → is_valued i key o es ≡ has_text key (values_for i (get_or es at d))
valued_found i key o es at d rise few is = valued_at i key o es at d rise few (oid_equal (get_or es at d).oid o (is d))

pub valued_absent : (i : ℕ) (key : List ℕ) (o : ℕ) (es : List Entry) (at : ℕ) → Rise oid_before es → IsBinarySearchResult (λ (e : Entry). nat_cmp e.oid o) es (Err at) → is_valued i key o es ≡ false
valued_absent i key o es at rise is =
    valued_none i key o es (absent nat_cmp_total (λ (e : Entry). e.oid) nat_eq oid_less oid_greater es o at (rise_sorted oid_before (λ (d e : Entry). is_lt (nat_cmp d.oid e.oid)) oid_back es rise) is)

-- the values of an entry that is found rise
pub values_rise : (i : ℕ) (vs : List (List (List ℕ))) → AllByRecursion AreValues vs → Rise comes_before (get_or vs i [])
values_rise i [] all = tt
values_rise zero (v ∷ vs) all = all.0.rise
values_rise (suc i) (v ∷ vs) all = values_rise i vs all.1

pub entry_values : (n at : ℕ) (es : List Entry) (d : Entry) → AllByRecursion (IsEntry n) es → at < length es → AllByRecursion AreValues (get_or es at d).values
entry_values n at es d each few = (each_at (IsEntry n) es at d each few).values

-- ---- one index after another

posted_here : (c : Contents) (at : ℕ) (x : Index) (ps : List Posting) → at < length c.indexes → x ≡ get_or c.indexes at x → ps ≡ x.postings → ps ≡ postings_of at c.indexes
posted_here c at x ps few is same = same ∙ ap (λ (i : Index). i.postings) is ∙ sym (postings_at at c.indexes x few)

pub first_is : (c : Contents) (at : ℕ) (x : Index) (ps : List Posting) (r : Bool) → at < length c.indexes → x ≡ get_or c.indexes at x → ps ≡ x.postings → r ≡ is_inverse at c.entries ps → r ≡ false
    → ((i : ℕ) → i < at → IsInverse i c.entries (postings_of i c.indexes)) → IsFirstDiffering at c
first_is c at x ps r few is same told un before = record {
  few = few;
  differs = λ inverse. (
      let so : is_inverse at c.entries (postings_of at c.indexes) ≡ true = inverse_told at c.entries (postings_of at c.indexes) inverse in
      let here : is_inverse at c.entries ps ≡ true = ap (is_inverse at c.entries) (posted_here c at x ps few is same) ∙ so in
      cc);
  before = before;
}

pub one_more : (c : Contents) (at : ℕ) (x : Index) (ps : List Posting) (r : Bool) → at < length c.indexes → x ≡ get_or c.indexes at x → ps ≡ x.postings → r ≡ is_inverse at c.entries ps → r ≡ true
    → ((i : ℕ) → i < at → IsInverse i c.entries (postings_of i c.indexes)) → (i : ℕ) → i < at + 1 → IsInverse i c.entries (postings_of i c.indexes)
one_more c at x ps r few is same told so before i low = go (nat_lt i at) refl
  where
    told_here : is_inverse at c.entries ps ≡ true
    told_here = sym told ∙ so

    here : IsInverse at c.entries (postings_of at c.indexes)
    here = subst (λ (qs : List Posting). IsInverse at c.entries qs) (posted_here c at x ps few is same) (told_inverse at c.entries ps told_here)

    below : nat_lt i at ≡ true → i < at
    below e = grind (arith, nat_tests)

    last : nat_lt i at ≡ false → i < at + 1 → i ≡ at
    last e within = grind (arith, nat_tests)

    go : (b : Bool) → nat_lt i at ≡ b → IsInverse i c.entries (postings_of i c.indexes)
    go true e = before i (below e)
    go false e = subst (λ (k : ℕ). IsInverse k c.entries (postings_of k c.indexes)) (sym (last e low)) here

pub all_agree : (c : Contents) (n : ℕ) → AreEntries (length c.indexes) c.entries → AreIndexes c.indexes → length c.indexes ≤ n → ((i : ℕ) → i < n → IsInverse i c.entries (postings_of i c.indexes)) → Agrees c
all_agree c n entries indexes all before = record {
  entries = entries;
  indexes = indexes;
  inverses = inverses_from 0 c.entries c.indexes (λ k few. subst (λ n. IsInverse n c.entries (postings_of k c.indexes)) (omega arith) (before k (omega (arith, few, all))));
}
