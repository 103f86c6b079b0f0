-- A column has one inverse.
use Rattle.std.proofs.Common.{ℕ, ◌≡◌, ◌∙◌, refl, sym, ap, subst, Bool, true, false, not, ◌&&◌, ◌||◌, List, [], ◌∷◌, nat_eq}
use Rattle.std.specs.List.{AllByRecursion}
use Rattle.std.specs.Str.{bytes_eq}
use Rattle.zobject.specs.Rules.{Rise, comes_before}
use Rattle.catalog.specs.declared.document.Posting.{Posting}
use Rattle.catalog.specs.declared.document.Entry.{Entry}
use Rattle.catalog.specs.Placing.{is_among, has_text}
use Rattle.catalog.specs.Postings.{has_oids, is_posted, key_before, values_for}
use Rattle.catalog.specs.Forms.{ArePostings, IsEntry}
use Rattle.catalog.specs.Agreeing.{IsInverse, inverse_of}
use Rattle.catalog.specs.Laws.{InversesAreOne}
use Rattle.catalog.proofs.Any.{and_true, and_false, or_false}
use Rattle.catalog.proofs.Inverse.{bytes_same, keys_differ, posted_all_is, same_bytes}
use Rattle.catalog.proofs.Rising.{first_among, posting_chain, rise_above, rise_behind, rising_same}
use Rattle.catalog.proofs.Agreed.{posted_all_right, values_are_texts}

-- ---- the inverse is one

turned : (a b : Bool) → (a && b) ≡ (b && a)
turned true true = refl
turned true false = refl
turned false true = refl
turned false false = refl

pub inverse_is : (i : ℕ) (entries : List Entry) → IsInverse i entries (inverse_of i entries)
inverse_is i [] = λ key o. refl
inverse_is i (e ∷ es) = λ key o.
    posted_all_is key o e.oid (values_for i e) (inverse_of i es)
    ∙ ap (λ b. b || is_posted key o (inverse_of i es)) (turned (has_text key (values_for i e)) (nat_eq o e.oid))
    ∙ ap (λ b. (nat_eq o e.oid && has_text key (values_for i e)) || b) (inverse_is i es key o)

inverse_right : (n i : ℕ) (entries : List Entry) → AllByRecursion (IsEntry n) entries → ArePostings (inverse_of i entries)
inverse_right n i [] all = record { each = tt; rise = tt }
inverse_right n i (e ∷ es) all = posted_all_right e.oid (values_for i e) (inverse_of i es) all.0.oid (values_are_texts i e.values all.0.values) (inverse_right n i es all.1)

-- ---- two lists of keys that say the same

keys_apart : (a b : List ℕ) → comes_before a b ≡ true → bytes_eq a b ≡ false
keys_apart a b e = at (comes_before b a) (comes_before a b) (bytes_eq a b) (keys_differ a b) e
  where
    at : (x y z : Bool) → (x || y) ≡ not z → y ≡ true → z ≡ false
    at x y false d e = refl
    at true true true d e = absurd (let bad = d in cc)
    at false true true d e = absurd (let bad = d in cc)
    at x false true d e = absurd (let bad = e in cc)

none_posted : (p : Posting) (o : ℕ) (qs : List Posting) → AllByRecursion (λ q. key_before p q ≡ true) qs → is_posted p.key o qs ≡ false
none_posted p o [] all = refl
none_posted p o (q ∷ qs) all = rw (keys_apart p.key q.key all.0) (none_posted p o qs all.1)

least : List ℕ → ℕ
least [] = 0
least (o ∷ os) = o

least_is : (oids : List ℕ) → has_oids oids ≡ true → is_among (least oids) oids ≡ true
unfolding least
least_is [] e = absurd (let bad = e in cc)
least_is (o ∷ os) e = first_among o os

stands : (p : Posting) (ps : List Posting) → has_oids p.oids ≡ true → is_posted p.key (least p.oids) (p ∷ ps) ≡ true
stands p ps some = rw (bytes_same p.key) (rw (least_is p.oids some) refl)

no_before : (p q : Posting) (ps qs : List Posting) → has_oids p.oids ≡ true → Rise key_before (q ∷ qs) → ((key : List ℕ) (o : ℕ) → is_posted key o (p ∷ ps) ≡ is_posted key o (q ∷ qs)) → key_before p q ≡ false
no_before p q ps qs some rise same = at (key_before p q) refl
  where
    above : (rs : List Posting) → key_before p q ≡ true → AllByRecursion (λ r. key_before q r ≡ true) rs → AllByRecursion (λ r. key_before p r ≡ true) rs
    above [] e all = tt
    above (r ∷ rs) e all = (posting_chain p q r e all.0, above rs e all.1)

    at : (b : Bool) → key_before p q ≡ b → b ≡ false
    at false e = refl
    at true e = sym (stands p ps some) ∙ same p.key (least p.oids) ∙ none_posted p (least p.oids) (q ∷ qs) (e, above qs e (rise_above key_before posting_chain q qs rise))

one_key : (p q : Posting) → key_before p q ≡ false → key_before q p ≡ false → p.key ≡ q.key
one_key p q a b = same_bytes p.key q.key (at (comes_before q.key p.key) (comes_before p.key q.key) (bytes_eq p.key q.key) (keys_differ p.key q.key) b a)
  where
    at : (x y z : Bool) → (x || y) ≡ not z → x ≡ false → y ≡ false → z ≡ true
    at x y true d e f = refl
    at false false false d e f = let bad = d in cc
    at true y false d e f = absurd (let bad = e in cc)
    at false true false d e f = absurd (let bad = f in cc)

own_oids : (p : Posting) (ps : List Posting) (o : ℕ) → Rise key_before (p ∷ ps) → is_posted p.key o (p ∷ ps) ≡ is_among o p.oids
own_oids p ps o rise = rw (bytes_same p.key) (rw (none_posted p o ps (rise_above key_before posting_chain p ps rise)) (or_false (is_among o p.oids)))

behind : (p : Posting) (ps : List Posting) (key : List ℕ) (o : ℕ) → Rise key_before (p ∷ ps) → is_posted key o ps ≡ (is_posted key o (p ∷ ps) && not (bytes_eq key p.key))
behind p ps key o rise = at (bytes_eq key p.key) refl
  where
    at : (b : Bool) → bytes_eq key p.key ≡ b → is_posted key o ps ≡ (((b && is_among o p.oids) || is_posted key o ps) && not b)
    at true e = rw (same_bytes key p.key e) (none_posted p o ps (rise_above key_before posting_chain p ps rise)) ∙ sym (and_false (is_among o p.oids || is_posted key o ps))
    at false e = sym (and_true (is_posted key o ps))

one_posting : (p q : Posting) → p.key ≡ q.key → p.oids ≡ q.oids → p ≡ q
one_posting p q a b = subst (λ (k : List ℕ). p ≡ record { key = k; oids = p.oids }) a refl ∙ subst (λ (os : List ℕ). ◌≡◌ {A = Posting} (record { key = q.key; oids = p.oids }) (record { key = q.key; oids = os })) b refl

one_list : (p q : Posting) (ps qs : List Posting) → p ≡ q → ps ≡ qs → p ∷ ps ≡ q ∷ qs
one_list p q ps qs a b = cc

pub postings_same : (ps qs : List Posting) → ArePostings ps → ArePostings qs → ((key : List ℕ) (o : ℕ) → is_posted key o ps ≡ is_posted key o qs) → ps ≡ qs
postings_same [] [] are other same = refl
postings_same [] (q ∷ qs) are other same = absurd (let a = same q.key (least q.oids) in let b = stands q qs other.each.0.some in cc)
postings_same (p ∷ ps) [] are other same = absurd (let a = same p.key (least p.oids) in let b = stands p ps are.each.0.some in cc)
postings_same (p ∷ ps) (q ∷ qs) are other same =
    let keys : p.key ≡ q.key = one_key p q (no_before p q ps qs are.each.0.some other.rise same) (no_before q p qs ps other.each.0.some are.rise (λ key o. sym (same key o))) in
    let oids : p.oids ≡ q.oids = rising_same p.oids q.oids are.each.0.rise other.each.0.rise (λ o. sym (own_oids p ps o are.rise) ∙ same p.key o ∙ ap (λ k. is_posted k o (q ∷ qs)) keys ∙ own_oids q qs o other.rise) in
    one_list p q ps qs (one_posting p q keys oids)
    (postings_same ps qs (record { each = are.each.1; rise = rise_behind key_before posting_chain p ps are.rise }) (record { each = other.each.1; rise = rise_behind key_before posting_chain q qs other.rise })
    (λ key o. behind p ps key o are.rise ∙ ap (λ b. b && not (bytes_eq key p.key)) (same key o) ∙ ap (λ k. is_posted key o (q ∷ qs) && not (bytes_eq key k)) keys ∙ sym (behind q qs key o other.rise)))

pub inverses_are : InversesAreOne
inverses_are = λ n i entries postings are right. (
  (λ is. postings_same postings (inverse_of i entries) right (inverse_right n i entries are.each) (λ key o. is key o ∙ sym (inverse_is i entries key o))),
  (λ e. subst (λ ps. IsInverse i entries ps) (sym e) (inverse_is i entries)),
)
