-- Keys that rise, put among those of an index in one pass: the same as one put after another.
use Rattle.std.proofs.Common.{ℕ, zero, suc, ◌≡◌, ◌∙◌, refl, sym, ap, subst, Bool, true, false, not, ◌&&◌, ◌||◌, List, [], ◌∷◌, map, drop, get_or, nat_eq, nat_lt, if◌then◌else◌, Result, Ok, Err}
use Rattle.std.specs.Prelude.{IfOk}
use Rattle.std.specs.List.{AllByRecursion}
use Rattle.std.specs.Str.{bytes_eq}
use Rattle.zobject.specs.Rules.{Rise, comes_before}
use Rattle.catalog.specs.declared.document.Entry.{Entry}
use Rattle.catalog.specs.declared.document.Index.{Index}
use Rattle.catalog.specs.declared.document.Posting.{Posting}
use Rattle.catalog.specs.Placing.{has_text, is_among, with_oid}
use Rattle.catalog.specs.Postings.{is_posted, key_before, posted_all, reposted, unposted, values_for}
use Rattle.catalog.specs.Forms.{ArePostings, AreValues, IsOid, IsPosting, IsText}
use Rattle.catalog.specs.Agreeing.{reindexed}
use Rattle.catalog.specs.Merging.{before_key, from_key, merged, own, past_key, reindexed_by, single}
use Rattle.catalog.proofs.Any.{any_append, or_false}
use Rattle.catalog.proofs.Agreed.{posted_all_right, some_put, unposted_right}
use Rattle.catalog.proofs.Inverse.{keys_differ, posted_all_is, same_bytes, with_oid_is}
use Rattle.catalog.proofs.OneInverse.{postings_same}
use Rattle.catalog.proofs.Rising.{above_rise, each_joined, each_put, joined_rise, key_chain, lt_chain, posting_chain, put_rise, rise_above, rise_behind, rise_mapped}

-- ---- which objects stand under which keys

singles_are : (k : List ℕ) (q o : ℕ) (keys : List (List ℕ)) → is_posted k q (map (single o) keys) ≡ (has_text k keys && nat_eq q o)
singles_are k q o [] = refl
singles_are k q o (key ∷ keys) = ap (λ b. (bytes_eq k key && (nat_eq q o || false)) || b) (singles_are k q o keys) ∙ at (bytes_eq k key) (nat_eq q o) (has_text k keys)
  where
    at : (a n h : Bool) → ((a && (n || false)) || (h && n)) ≡ ((a || h) && n)
    at true true h = refl
    at true false true = refl
    at true false false = refl
    at false n h = refl

parted : (k key : List ℕ) (keys : List (List ℕ)) → has_text k keys ≡ (has_text k (before_key key keys) || has_text k (from_key key keys))
parted k key [] = refl
parted k key (x ∷ xs) = at (comes_before x key) (parted k key xs)
  where
    grouped : (a b c : Bool) → (a || (b || c)) ≡ ((a || b) || c)
    grouped true b c = refl
    grouped false b c = refl

    at : (b : Bool) → has_text k xs ≡ (has_text k (before_key key xs) || has_text k (from_key key xs)) →
        (bytes_eq k x || has_text k xs) ≡ (has_text k (if b then x ∷ before_key key xs else []) || has_text k (if b then from_key key xs else x ∷ xs))
    at true deeper = ap (λ h. bytes_eq k x || h) deeper ∙ grouped (bytes_eq k x) (has_text k (before_key key xs)) (has_text k (from_key key xs))
    at false deeper = refl

-- a key and those behind it: the object too, where the first of the keys is the same
own_is : (k : List ℕ) (q o : ℕ) (keys : List (List ℕ)) (p : Posting) (rest : Bool) →
    ((bytes_eq k (own o keys p).key && is_among q (own o keys p).oids) || ((has_text k (past_key p.key keys) && nat_eq q o) || rest)) ≡ ((has_text k keys && nat_eq q o) || ((bytes_eq k p.key && is_among q p.oids) || rest))
own_is k q o [] p rest = refl
own_is k q o (x ∷ xs) p rest = at (bytes_eq x p.key) refl
  where
    both : (e n a h r : Bool) → ((e && (n || a)) || ((h && n) || r)) ≡ (((e || h) && n) || ((e && a) || r))
    both true true a h r = refl
    both true false a true r = refl
    both true false a false r = refl
    both false n a h r = refl

    turned : (ea fn r : Bool) → (ea || (fn || r)) ≡ (fn || (ea || r))
    turned true true r = refl
    turned true false r = refl
    turned false fn r = refl

    at : (b : Bool) → bytes_eq x p.key ≡ b →
        ((bytes_eq k (if b then record p { oids = with_oid o p.oids } else p).key && is_among q (if b then record p { oids = with_oid o p.oids } else p).oids) || ((has_text k (if b then xs else x ∷ xs) && nat_eq q o) || rest))
        ≡ (((bytes_eq k x || has_text k xs) && nat_eq q o) || ((bytes_eq k p.key && is_among q p.oids) || rest))
    at true e =
        ap (λ a. (bytes_eq k p.key && a) || ((has_text k xs && nat_eq q o) || rest)) (with_oid_is q o p.oids)
        ∙ both (bytes_eq k p.key) (nat_eq q o) (is_among q p.oids) (has_text k xs) rest
        ∙ ap (λ key. ((bytes_eq k key || has_text k xs) && nat_eq q o) || ((bytes_eq k p.key && is_among q p.oids) || rest)) (sym (same_bytes x p.key e))
    at false e = turned (bytes_eq k p.key && is_among q p.oids) ((bytes_eq k x || has_text k xs) && nat_eq q o) rest

merged_posted : (k : List ℕ) (q o : ℕ) (keys : List (List ℕ)) (ps : List Posting) → is_posted k q (merged o keys ps) ≡ ((has_text k keys && nat_eq q o) || is_posted k q ps)
merged_posted k q o keys [] = singles_are k q o keys ∙ sym (or_false (has_text k keys && nat_eq q o))
merged_posted k q o keys (p ∷ ps) =
    any_append (λ (r : Posting). bytes_eq k r.key && is_among q r.oids) (map (single o) (before_key p.key keys)) (own o from p ∷ merged o (past_key p.key from) ps)
    ∙ ap (λ b. b || is_posted k q (own o from p ∷ merged o (past_key p.key from) ps)) (singles_are k q o (before_key p.key keys))
    ∙ ap (λ b. front || ((bytes_eq k (own o from p).key && is_among q (own o from p).oids) || b)) (merged_posted k q o (past_key p.key from) ps)
    ∙ ap (λ b. front || b) (own_is k q o from p (is_posted k q ps))
    ∙ joined (has_text k (before_key p.key keys)) (has_text k from) (nat_eq q o) ((bytes_eq k p.key && is_among q p.oids) || is_posted k q ps)
    ∙ ap (λ h. (h && nat_eq q o) || ((bytes_eq k p.key && is_among q p.oids) || is_posted k q ps)) (sym (parted k p.key keys))
  where
    from : List (List ℕ)
    from = from_key p.key keys

    front : Bool
    front = has_text k (before_key p.key keys) && nat_eq q o

    joined : (a b n r : Bool) → ((a && n) || ((b && n) || r)) ≡ (((a || b) && n) || r)
    joined true b true r = refl
    joined true true false r = refl
    joined true false false r = refl
    joined false b n r = refl

-- ---- of the form

each_before : (P : List ℕ → Type 0) (key : List ℕ) (keys : List (List ℕ)) → AllByRecursion P keys → AllByRecursion P (before_key key keys)
each_before P key [] all = tt
each_before P key (x ∷ xs) all = at (comes_before x key) (each_before P key xs all.1)
  where
    at : (b : Bool) → AllByRecursion P (before_key key xs) → AllByRecursion P (if b then x ∷ before_key key xs else [])
    at true rest = (all.0, rest)
    at false rest = tt

each_from : (P : List ℕ → Type 0) (key : List ℕ) (keys : List (List ℕ)) → AllByRecursion P keys → AllByRecursion P (from_key key keys)
each_from P key [] all = tt
each_from P key (x ∷ xs) all = at (comes_before x key) (each_from P key xs all.1)
  where
    at : (b : Bool) → AllByRecursion P (from_key key xs) → AllByRecursion P (if b then from_key key xs else x ∷ xs)
    at true rest = rest
    at false rest = all

each_past : (P : List ℕ → Type 0) (key : List ℕ) (keys : List (List ℕ)) → AllByRecursion P keys → AllByRecursion P (past_key key keys)
each_past P key [] all = tt
each_past P key (x ∷ xs) all = at (bytes_eq x key)
  where
    at : (b : Bool) → AllByRecursion P (if b then xs else x ∷ xs)
    at true = all.1
    at false = all

-- those before it come before it
all_before : (key : List ℕ) (keys : List (List ℕ)) → AllByRecursion (λ x. comes_before x key ≡ true) (before_key key keys)
all_before key [] = tt
all_before key (x ∷ xs) = at (comes_before x key) refl (all_before key xs)
  where
    at : (b : Bool) → comes_before x key ≡ b → AllByRecursion (λ y. comes_before y key ≡ true) (before_key key xs) → AllByRecursion (λ y. comes_before y key ≡ true) (if b then x ∷ before_key key xs else [])
    at true e rest = (e, rest)
    at false e rest = tt

before_rise : (key : List ℕ) (keys : List (List ℕ)) → Rise comes_before keys → Rise comes_before (before_key key keys)
before_rise key [] rise = tt
before_rise key (x ∷ xs) rise = at (comes_before x key) (before_rise key xs (rise_behind comes_before key_chain x xs rise)) (each_before (λ y. comes_before x y ≡ true) key xs (rise_above comes_before key_chain x xs rise))
  where
    at : (b : Bool) → Rise comes_before (before_key key xs) → AllByRecursion (λ y. comes_before x y ≡ true) (before_key key xs) → Rise comes_before (if b then x ∷ before_key key xs else [])
    at true rest all = above_rise comes_before key_chain x (before_key key xs) all rest
    at false rest all = tt

from_rise : (key : List ℕ) (keys : List (List ℕ)) → Rise comes_before keys → Rise comes_before (from_key key keys)
from_rise key [] rise = tt
from_rise key (x ∷ xs) rise = at (comes_before x key) (from_rise key xs (rise_behind comes_before key_chain x xs rise))
  where
    at : (b : Bool) → Rise comes_before (from_key key xs) → Rise comes_before (if b then from_key key xs else x ∷ xs)
    at true rest = rest
    at false rest = rise

past_rise : (key : List ℕ) (keys : List (List ℕ)) → Rise comes_before keys → Rise comes_before (past_key key keys)
past_rise key [] rise = tt
past_rise key (x ∷ xs) rise = at (bytes_eq x key)
  where
    at : (b : Bool) → Rise comes_before (if b then xs else x ∷ xs)
    at true = rise_behind comes_before key_chain x xs rise
    at false = rise

all_above : (key x : List ℕ) (xs : List (List ℕ)) → comes_before key x ≡ true → AllByRecursion (λ y. comes_before x y ≡ true) xs → AllByRecursion (λ y. comes_before key y ≡ true) xs
all_above key x [] e all = tt
all_above key x (y ∷ ys) e all = (key_chain key x y e all.0, all_above key x ys e all.1)

-- those that are left come behind it
past_above : (key : List ℕ) (keys : List (List ℕ)) → Rise comes_before keys → AllByRecursion (λ y. comes_before key y ≡ true) (past_key key (from_key key keys))
past_above key [] rise = tt
past_above key (x ∷ xs) rise = at (comes_before x key) refl (past_above key xs (rise_behind comes_before key_chain x xs rise))
  where
    behind : AllByRecursion (λ y. comes_before x y ≡ true) xs
    behind = rise_above comes_before key_chain x xs rise

    later : (after before same : Bool) → (after || before) ≡ not same → before ≡ false → same ≡ false → after ≡ true
    later true before same d a b = refl
    later false true same d a b = absurd (let bad = a in cc)
    later false false true d a b = absurd (let bad = b in cc)
    later false false false d a b = absurd (let bad = d in cc)

    first : (same : Bool) → comes_before x key ≡ false → bytes_eq x key ≡ same → AllByRecursion (λ y. comes_before key y ≡ true) (if same then xs else x ∷ xs)
    first true e is = subst (λ (z : List ℕ). AllByRecursion (λ y. comes_before z y ≡ true) xs) (same_bytes x key is) behind
    first false e is =
        let after = later (comes_before key x) (comes_before x key) (bytes_eq x key) (keys_differ x key) e is in
        (after, all_above key x xs after behind)

    at : (b : Bool) → comes_before x key ≡ b → AllByRecursion (λ y. comes_before key y ≡ true) (past_key key (from_key key xs)) → AllByRecursion (λ y. comes_before key y ≡ true) (past_key key (if b then from_key key xs else x ∷ xs))
    at true e deeper = deeper
    at false e deeper = first (bytes_eq x key) e refl

own_key : (o : ℕ) (keys : List (List ℕ)) (p : Posting) → (own o keys p).key ≡ p.key
own_key o [] p = refl
own_key o (x ∷ xs) p = at (bytes_eq x p.key)
  where
    at : (b : Bool) → (if b then record p { oids = with_oid o p.oids } else p).key ≡ p.key
    at true = refl
    at false = refl

own_right : (o : ℕ) (keys : List (List ℕ)) (p : Posting) → IsOid o → IsPosting p → IsPosting (own o keys p)
own_right o [] p is right = right
own_right o (x ∷ xs) p is right = at (bytes_eq x p.key)
  where
    at : (b : Bool) → IsPosting (if b then record p { oids = with_oid o p.oids } else p)
    at true = record { key = right.key; some = some_put o p.oids; each = each_put IsOid nat_lt o p.oids is right.each; rise = put_rise nat_lt lt_chain o p.oids right.rise }
    at false = right

singles_right : (o : ℕ) (keys : List (List ℕ)) → IsOid o → AllByRecursion IsText keys → AllByRecursion IsPosting (map (single o) keys)
singles_right o [] is all = tt
singles_right o (key ∷ keys) is all = (record { key = all.0; some = refl; each = (is, tt); rise = tt }, singles_right o keys is all.1)

merged_right : (o : ℕ) (keys : List (List ℕ)) (ps : List Posting) → IsOid o → AllByRecursion IsText keys → AllByRecursion IsPosting ps → AllByRecursion IsPosting (merged o keys ps)
merged_right o keys [] is texts are = singles_right o keys is texts
merged_right o keys (p ∷ ps) is texts are =
    let from = each_from IsText p.key keys texts in
    each_joined IsPosting (map (single o) (before_key p.key keys)) (own o (from_key p.key keys) p ∷ merged o (past_key p.key (from_key p.key keys)) ps)
    (singles_right o (before_key p.key keys) is (each_before IsText p.key keys texts))
    (own_right o (from_key p.key keys) p is are.0, merged_right o (past_key p.key (from_key p.key keys)) ps is (each_past IsText p.key (from_key p.key keys) from) are.1)

-- ---- they rise

singles_above : (o : ℕ) (key : List ℕ) (keys : List (List ℕ)) → AllByRecursion (λ y. comes_before key y ≡ true) keys → AllByRecursion (λ (p : Posting). comes_before key p.key ≡ true) (map (single o) keys)
singles_above o key [] all = tt
singles_above o key (x ∷ xs) all = (all.0, singles_above o key xs all.1)

merged_above : (o : ℕ) (key : List ℕ) (keys : List (List ℕ)) (ps : List Posting) → AllByRecursion (λ y. comes_before key y ≡ true) keys → AllByRecursion (λ (p : Posting). comes_before key p.key ≡ true) ps → AllByRecursion (λ (p : Posting). comes_before key p.key ≡ true) (merged o keys ps)
merged_above o key keys [] all others = singles_above o key keys all
merged_above o key keys (p ∷ ps) all others =
    let from = each_from (λ y. comes_before key y ≡ true) p.key keys all in
    each_joined (λ (q : Posting). comes_before key q.key ≡ true) (map (single o) (before_key p.key keys)) (own o (from_key p.key keys) p ∷ merged o (past_key p.key (from_key p.key keys)) ps)
    (singles_above o key (before_key p.key keys) (each_before (λ y. comes_before key y ≡ true) p.key keys all)) (
      subst (λ (k : List ℕ). comes_before key k ≡ true) (sym (own_key o (from_key p.key keys) p)) others.0,
      merged_above o key (past_key p.key (from_key p.key keys)) ps (each_past (λ y. comes_before key y ≡ true) p.key (from_key p.key keys) from) others.1,
    )

-- keys that come before this one, with one object each
singles_before : (o : ℕ) (key : List ℕ) (p : Posting) (keys : List (List ℕ)) → p.key ≡ key → AllByRecursion (λ x. comes_before x key ≡ true) keys → AllByRecursion (λ (q : Posting). key_before q p ≡ true) (map (single o) keys)
singles_before o key p [] e all = tt
singles_before o key p (x ∷ xs) e all = (subst (λ (k : List ℕ). comes_before x k ≡ true) (sym e) all.0, singles_before o key p xs e all.1)

behind_own : (key : List ℕ) (p : Posting) (qs : List Posting) → p.key ≡ key → AllByRecursion (λ (q : Posting). comes_before key q.key ≡ true) qs → AllByRecursion (λ (q : Posting). key_before p q ≡ true) qs
behind_own key p [] e all = tt
behind_own key p (q ∷ qs) e all = (subst (λ (k : List ℕ). comes_before k q.key ≡ true) (sym e) all.0, behind_own key p qs e all.1)

merged_rise : (o : ℕ) (keys : List (List ℕ)) (ps : List Posting) → Rise comes_before keys → Rise key_before ps → Rise key_before (merged o keys ps)
merged_rise o keys [] rise others = rise_mapped comes_before key_before (single o) (λ x y e. e) keys rise
merged_rise o keys (p ∷ ps) rise others =
    let from = from_rise p.key keys rise in
    let mine = own o (from_key p.key keys) p in
    let left = past_key p.key (from_key p.key keys) in
    let same : mine.key ≡ p.key = own_key o (from_key p.key keys) p in
    joined_rise key_before posting_chain (map (single o) (before_key p.key keys)) mine (merged o left ps)
    (rise_mapped comes_before key_before (single o) (λ x y e. e) (before_key p.key keys) (before_rise p.key keys rise))
    (singles_before o p.key mine (before_key p.key keys) same (all_before p.key keys))
    (above_rise key_before posting_chain mine (merged o left ps)
    (behind_own p.key mine (merged o left ps) same (merged_above o p.key left ps (past_above p.key keys rise) (rise_above key_before posting_chain p ps others)))
    (merged_rise o left ps (past_rise p.key (from_key p.key keys) from) (rise_behind key_before posting_chain p ps others)))

-- ---- the same

pub merged_is : (o : ℕ) (keys : List (List ℕ)) (ps : List Posting) → IsOid o → AreValues keys → ArePostings ps → merged o keys ps ≡ posted_all o keys ps
merged_is o keys ps is values are =
    postings_same (merged o keys ps) (posted_all o keys ps)
    (record { each = merged_right o keys ps is values.each are.each; rise = merged_rise o keys ps values.rise are.rise })
    (posted_all_right o keys ps is values.each are)
    (λ k q. merged_posted k q o keys ps ∙ sym (posted_all_is k q o keys ps))

-- in the indexes of the form
pub reposted_is : {M : Type 0} (o : ℕ) (keys : List (List ℕ)) (ps others : List Posting) (r : Result (List Posting) M) → others ≡ unposted o ps → IfOk r (λ all. all ≡ merged o keys others) → IsOid o → AreValues keys → ArePostings ps →
    IfOk r (λ all. all ≡ reposted o keys ps)
reposted_is o keys ps others (Ok all) left is small values are = is ∙ ap (merged o keys) left ∙ merged_is o keys (unposted o ps) small values (unposted_right o ps are)
reposted_is o keys ps others (Err e) left is small values are = tt

-- ---- the columns of an entry, one after another

abbrev replaced : Index → List Posting → Index
replaced x postings = record x { postings = postings }

column_dropped : (i : ℕ) (values : List (List (List ℕ))) → get_or values i [] ≡ get_or (drop i values) 0 []
column_dropped i [] = at i
  where
    at : (i : ℕ) → get_or {A = List (List ℕ)} [] i [] ≡ get_or (drop i []) 0 []
    at zero = refl
    at (suc i) = refl
column_dropped zero (v ∷ vs) = refl
column_dropped (suc i) (v ∷ vs) = column_dropped i vs

drop_more : (i : ℕ) (values : List (List (List ℕ))) → drop 1 (drop i values) ≡ drop (suc i) values
drop_more zero values = refl
drop_more (suc i) [] = refl
drop_more (suc i) (v ∷ vs) = drop_more i vs

by_columns : (i : ℕ) (e : Entry) (xs : List Index) → reindexed_by e.oid (drop i e.values) xs ≡ reindexed i e xs
by_columns i e [] = refl
by_columns i e (x ∷ xs) =
    same (record x { postings = reposted e.oid (get_or (drop i e.values) 0 []) x.postings }) (record x { postings = reposted e.oid (values_for i e) x.postings }) (reindexed_by e.oid (drop 1 (drop i e.values)) xs) (reindexed (suc i) e xs)
    (ap (λ (keys : List (List ℕ)). replaced x (reposted e.oid keys x.postings)) (sym (column_dropped i e.values)))
    (ap (λ (values : List (List (List ℕ))). reindexed_by e.oid values xs) (drop_more i e.values) ∙ by_columns (suc i) e xs)
  where
    same : (a b : Index) (ys zs : List Index) → a ≡ b → ys ≡ zs → a ∷ ys ≡ b ∷ zs
    same a b ys zs p q = cc

pub all_columns : (e : Entry) (xs : List Index) → reindexed_by e.oid e.values xs ≡ reindexed 0 e xs
all_columns e xs = by_columns 0 e xs

-- the first column, and those behind it
pub first_right : (columns : List (List (List ℕ))) → AllByRecursion AreValues columns → AreValues (get_or columns 0 [])
first_right [] all = record { each = tt; rise = tt }
first_right (c ∷ cs) all = all.0

pub rest_right : (columns : List (List (List ℕ))) → AllByRecursion AreValues columns → AllByRecursion AreValues (drop 1 columns)
rest_right [] all = tt
rest_right (c ∷ cs) all = all.1
