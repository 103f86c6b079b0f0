-- Which objects stand under which keys of an index that was changed, and which values entries then have.
use Rattle.std.proofs.Common.{ℕ, zero, suc, ◌≡◌, ◌∙◌, refl, sym, ap, subst, arith, Bool, true, false, not, ◌&&◌, ◌||◌, List, [], ◌∷◌, ◌++◌, map, get_or, if◌then◌else◌, nat_eq, nat_lt}
use Rattle.std.specs.List.{filter, list_any, AllByRecursion}
use Rattle.std.specs.Str.{bytes_eq}
use Rattle.std.proofs.lemmas.Bool.Decides.{nat_tests}
use Rattle.std.proofs.Common.{Ordering, Less, Equal, Greater}
use Rattle.std.specs.Ordering.{nat_cmp, is_lt, is_eq, ordering_reverse}
use Rattle.std.proofs.lemmas.Cmp.{nat_list_cmp_total}
use Rattle.std.specs.Cmp.Lexicographic.{slice_cmp}
use Rattle.std.proofs.lemmas.Map.Text.{is_eq-slice_cmp}
use Rattle.std.proofs.lemmas.Slice.Eq.{bytes_eq-Decides}
use Rattle.std.proofs.lemmas.List.{get_or_past}
use Rattle.zobject.specs.Rules.{comes_before}
use Rattle.catalog.specs.declared.document.Posting.{Posting}
use Rattle.catalog.specs.declared.document.Entry.{Entry}
use Rattle.catalog.specs.Placing.{is_among, without_oid, with_oid, has_text}
use Rattle.catalog.specs.Postings.{is_posted, oids_under, key_before, oid_before, posted, posted_all, has_oids, unposted, reposted, values_for, is_valued, without_entry, with_entry, widened}
use Rattle.catalog.specs.Forms.{IsEntry}
use Rattle.catalog.proofs.Any.{and_true, and_false, or_false, any_filter, any_put, any_map, any_same, any_none, any_flat, any_and}

-- ---- ids

apart : (p o x : ℕ) → nat_eq p o ≡ false → (nat_eq p x && not (nat_eq o x)) ≡ nat_eq p x
apart p o x other = grind (arith, nat_tests)

differ : (o x : ℕ) → (nat_lt x o || nat_lt o x) ≡ not (nat_eq o x)
differ o x = grind (arith, nat_tests)

pub with_oid_is : (p o : ℕ) (oids : List ℕ) → is_among p (with_oid o oids) ≡ (nat_eq p o || is_among p oids)
with_oid_is p o oids = any_put (nat_eq p) nat_lt o (nat_eq o) (λ x. differ o x) oids ∙ at (nat_eq p o) refl
  where
    at : (same : Bool) → nat_eq p o ≡ same → (same || is_among p (without_oid o oids)) ≡ (same || is_among p oids)
    at true e = refl
    at false e = any_filter (nat_eq p) (λ x. not (nat_eq o x)) oids ∙ any_same (λ x. nat_eq p x && not (nat_eq o x)) (nat_eq p) (λ x. apart p o x e) oids

alike : (p o x : ℕ) → (nat_eq p x && not (nat_eq o x)) ≡ (nat_eq p x && not (nat_eq o p))
alike p o x = grind (arith, nat_tests)

pub without_oid_is : (p o : ℕ) (oids : List ℕ) → is_among p (without_oid o oids) ≡ (is_among p oids && not (nat_eq o p))
without_oid_is p o oids =
    any_filter (nat_eq p) (λ x. not (nat_eq o x)) oids
    ∙ any_same (λ x. nat_eq p x && not (nat_eq o x)) (λ x. nat_eq p x && not (nat_eq o p)) (λ x. alike p o x) oids
    ∙ any_and (nat_eq p) (not (nat_eq o p)) oids

-- ---- keys

pub same_bytes : (a b : List ℕ) → bytes_eq a b ≡ true → a ≡ b
same_bytes a b e = (bytes_eq-Decides a b).0 e

pub bytes_same : (a : List ℕ) → bytes_eq a a ≡ true
bytes_same a = (bytes_eq-Decides a a).1 refl

pub bytes_apart : (k key other : List ℕ) → bytes_eq k key ≡ false → bytes_eq k other ≡ true → bytes_eq key other ≡ false
bytes_apart k key other a b = at (bytes_eq key other) refl
  where
    at : (same : Bool) → bytes_eq key other ≡ same → same ≡ false
    at false e = refl
    at true e =
        let first = same_bytes k other b in
        let second = same_bytes key other e in
        let whole = subst (λ x. bytes_eq k x ≡ true) (first ∙ sym second) (bytes_same k) in
        sym whole ∙ a

one_way : (o : Ordering) → (is_lt (ordering_reverse o) || is_lt o) ≡ not (is_eq o)
one_way Less = refl
one_way Equal = refl
one_way Greater = refl

pub keys_differ : (key other : List ℕ) → (comes_before other key || comes_before key other) ≡ not (bytes_eq key other)
keys_differ key other =
    ap (λ o. is_lt o || comes_before key other) (nat_list_cmp_total.antisymm other key) ∙ one_way (slice_cmp nat_cmp key other) ∙ ap not (is_eq-slice_cmp key other)

abbrev pub without_key : List ℕ → List Posting → List Posting
without_key key postings = filter (λ (p : Posting). not (bytes_eq key p.key)) postings

pub under_is : (k : List ℕ) (p : ℕ) (postings : List Posting) → is_among p (oids_under k postings) ≡ is_posted k p postings
under_is k p postings =
    any_flat (nat_eq p) (λ (q : Posting). if bytes_eq k q.key then q.oids else []) postings
    ∙ any_same (λ (q : Posting). list_any (nat_eq p) (if bytes_eq k q.key then q.oids else [])) (λ (q : Posting). bytes_eq k q.key && is_among p q.oids) (λ q. at (bytes_eq k q.key) q.oids) postings
  where
    at : (is : Bool) (oids : List ℕ) → list_any (nat_eq p) (if is then oids else []) ≡ (is && is_among p oids)
    at true oids = refl
    at false oids = refl

never : (a b : Bool) → ((a && b) && not a) ≡ false
never true true = refl
never true false = refl
never false b = refl

none_left : (k : List ℕ) (p : ℕ) (postings : List Posting) → is_posted k p (without_key k postings) ≡ false
none_left k p postings =
    any_filter (λ (q : Posting). bytes_eq k q.key && is_among p q.oids) (λ (q : Posting). not (bytes_eq k q.key)) postings
    ∙ any_none (λ (q : Posting). (bytes_eq k q.key && is_among p q.oids) && not (bytes_eq k q.key)) (λ q. never (bytes_eq k q.key) (is_among p q.oids)) postings

all_left : (k key : List ℕ) (p : ℕ) (postings : List Posting) → bytes_eq k key ≡ false → is_posted k p (without_key key postings) ≡ is_posted k p postings
all_left k key p postings other =
    any_filter (λ (q : Posting). bytes_eq k q.key && is_among p q.oids) (λ (q : Posting). not (bytes_eq key q.key)) postings
    ∙ any_same (λ (q : Posting). (bytes_eq k q.key && is_among p q.oids) && not (bytes_eq key q.key)) (λ (q : Posting). bytes_eq k q.key && is_among p q.oids) (λ q. at q.key (is_among p q.oids) (bytes_eq k q.key) refl) postings
  where
    at : (name : List ℕ) (among is : Bool) → bytes_eq k name ≡ is → ((is && among) && not (bytes_eq key name)) ≡ (is && among)
    at name among false e = refl
    at name among true e = rw (bytes_apart k key name other e) (and_true among)

pub posted_is : (k : List ℕ) (p o : ℕ) (key : List ℕ) (postings : List Posting) → is_posted k p (posted o key postings) ≡ ((bytes_eq k key && nat_eq p o) || is_posted k p postings)
posted_is k p o key postings =
    any_put (λ (q : Posting). bytes_eq k q.key && is_among p q.oids) key_before (record { key = key; oids = with_oid o (oids_under key postings) }) (λ (q : Posting). bytes_eq key q.key) (λ q. keys_differ key q.key) postings
    ∙ at (bytes_eq k key) refl
  where
    own : key ≡ k → (is_among p (with_oid o (oids_under key postings)) || is_posted k p (without_key key postings)) ≡ (nat_eq p o || is_posted k p postings)
    own e = rw e (
        ap (λ b. is_among p (with_oid o (oids_under k postings)) || b) (none_left k p postings)
        ∙ or_false (is_among p (with_oid o (oids_under k postings)))
        ∙ with_oid_is p o (oids_under k postings)
        ∙ ap (λ b. nat_eq p o || b) (under_is k p postings))

    at : (is : Bool) → bytes_eq k key ≡ is → ((is && is_among p (with_oid o (oids_under key postings))) || is_posted k p (without_key key postings)) ≡ ((is && nat_eq p o) || is_posted k p postings)
    at true e = own (sym (same_bytes k key e))
    at false e = all_left k key p postings e

pub posted_all_is : (k : List ℕ) (p o : ℕ) (keys : List (List ℕ)) (postings : List Posting) → is_posted k p (posted_all o keys postings) ≡ ((has_text k keys && nat_eq p o) || is_posted k p postings)
posted_all_is k p o [] postings = refl
posted_all_is k p o (key ∷ keys) postings =
    posted_all_is k p o keys (posted o key postings)
    ∙ ap (λ b. (has_text k keys && nat_eq p o) || b) (posted_is k p o key postings)
    ∙ joined (bytes_eq k key) (has_text k keys) (nat_eq p o) (is_posted k p postings)
  where
    joined : (a b c d : Bool) → ((b && c) || ((a && c) || d)) ≡ (((a || b) && c) || d)
    joined true true true d = refl
    joined true true false d = refl
    joined true false true d = refl
    joined true false false d = refl
    joined false b c d = refl

some_among : (p : ℕ) (oids : List ℕ) → (is_among p oids && has_oids oids) ≡ is_among p oids
some_among p [] = refl
some_among p (o ∷ os) = and_true (is_among p (o ∷ os))

and_grouped : (a b c : Bool) → ((a && b) && c) ≡ (a && (b && c))
and_grouped true b c = refl
and_grouped false b c = refl

pub unposted_is : (k : List ℕ) (p o : ℕ) (postings : List Posting) → is_posted k p (unposted o postings) ≡ (is_posted k p postings && not (nat_eq o p))
unposted_is k p o postings =
    any_filter (λ (q : Posting). bytes_eq k q.key && is_among p q.oids) (λ (q : Posting). has_oids q.oids) (map (λ (q : Posting). record q { oids = without_oid o q.oids }) postings)
    ∙ any_map (λ (q : Posting). (bytes_eq k q.key && is_among p q.oids) && has_oids q.oids) (λ (q : Posting). record q { oids = without_oid o q.oids }) postings
    ∙ any_same (λ (q : Posting). (bytes_eq k q.key && is_among p (without_oid o q.oids)) && has_oids (without_oid o q.oids)) (λ (q : Posting). (bytes_eq k q.key && is_among p q.oids) && not (nat_eq o p)) at postings
    ∙ any_and (λ (q : Posting). bytes_eq k q.key && is_among p q.oids) (not (nat_eq o p)) postings
  where
    at : (q : Posting) → ((bytes_eq k q.key && is_among p (without_oid o q.oids)) && has_oids (without_oid o q.oids)) ≡ ((bytes_eq k q.key && is_among p q.oids) && not (nat_eq o p))
    at q =
        and_grouped (bytes_eq k q.key) (is_among p (without_oid o q.oids)) (has_oids (without_oid o q.oids))
        ∙ ap (λ b. bytes_eq k q.key && b) (some_among p (without_oid o q.oids) ∙ without_oid_is p o q.oids)
        ∙ sym (and_grouped (bytes_eq k q.key) (is_among p q.oids) (not (nat_eq o p)))

same_either : (o p : ℕ) → nat_eq o p ≡ nat_eq p o
same_either o p = grind (arith, nat_tests)

-- The object stands under its new keys, and all others under theirs.
pub reposted_is : (k : List ℕ) (p o : ℕ) (keys : List (List ℕ)) (postings : List Posting) → is_posted k p (reposted o keys postings) ≡ (if nat_eq p o then has_text k keys else is_posted k p postings)
reposted_is k p o keys postings =
    posted_all_is k p o keys (unposted o postings)
    ∙ ap (λ b. (has_text k keys && nat_eq p o) || b) (unposted_is k p o postings ∙ ap (λ b. is_posted k p postings && not b) (same_either o p))
    ∙ at (has_text k keys) (is_posted k p postings) (nat_eq p o)
  where
    at : (a b same : Bool) → ((a && same) || (b && not same)) ≡ (if same then a else b)
    at true b true = refl
    at false true true = refl
    at false false true = refl
    at true true false = refl
    at true false false = refl
    at false b false = and_true b

-- ---- entries

pub without_entry_is : (i : ℕ) (k : List ℕ) (p o : ℕ) (entries : List Entry) → is_valued i k p (without_entry o entries) ≡ (is_valued i k p entries && not (nat_eq o p))
without_entry_is i k p o entries =
    any_filter (λ (e : Entry). nat_eq p e.oid && has_text k (values_for i e)) (λ (e : Entry). not (nat_eq o e.oid)) entries
    ∙ any_same (λ (e : Entry). (nat_eq p e.oid && has_text k (values_for i e)) && not (nat_eq o e.oid)) (λ (e : Entry). (nat_eq p e.oid && has_text k (values_for i e)) && not (nat_eq o p)) (λ e. at e.oid (has_text k (values_for i e))) entries
    ∙ any_and (λ (e : Entry). nat_eq p e.oid && has_text k (values_for i e)) (not (nat_eq o p)) entries
  where
    at : (x : ℕ) (has : Bool) → ((nat_eq p x && has) && not (nat_eq o x)) ≡ ((nat_eq p x && has) && not (nat_eq o p))
    at x has = grind (arith, nat_tests)

pub with_entry_is : (i : ℕ) (k : List ℕ) (p : ℕ) (e : Entry) (entries : List Entry) → is_valued i k p (with_entry e entries) ≡ (if nat_eq p e.oid then has_text k (values_for i e) else is_valued i k p entries)
with_entry_is i k p e entries =
    any_put (λ (f : Entry). nat_eq p f.oid && has_text k (values_for i f)) oid_before e (λ (f : Entry). nat_eq e.oid f.oid) (λ f. differ e.oid f.oid) entries
    ∙ ap (λ b. (nat_eq p e.oid && has_text k (values_for i e)) || b) (without_entry_is i k p e.oid entries ∙ ap (λ b. is_valued i k p entries && not b) (same_either e.oid p))
    ∙ at (has_text k (values_for i e)) (is_valued i k p entries) (nat_eq p e.oid)
  where
    at : (a b same : Bool) → ((same && a) || (b && not same)) ≡ (if same then a else b)
    at true b true = refl
    at false true true = refl
    at false false true = refl
    at a b false = and_true b

widened_value : (i : ℕ) (values : List (List (List ℕ))) → get_or (values ++ [] ∷ []) i [] ≡ get_or values i []
widened_value zero [] = refl
widened_value (suc i) [] = refl
widened_value zero (v ∷ vs) = refl
widened_value (suc i) (v ∷ vs) = widened_value i vs

pub widened_is : (i : ℕ) (k : List ℕ) (p : ℕ) (entries : List Entry) → is_valued i k p (widened entries) ≡ is_valued i k p entries
widened_is i k p entries =
    any_map (λ (e : Entry). nat_eq p e.oid && has_text k (values_for i e)) (λ (e : Entry). record e { values = e.values ++ [] ∷ [] }) entries
    ∙ any_same (λ (e : Entry). nat_eq p e.oid && has_text k (get_or (e.values ++ [] ∷ []) i [])) (λ (e : Entry). nat_eq p e.oid && has_text k (values_for i e)) (λ e. ap (λ v. nat_eq p e.oid && has_text k v) (widened_value i e.values)) entries

-- nothing has values behind the last column
pub none_behind : (n : ℕ) (k : List ℕ) (p : ℕ) (entries : List Entry) → AllByRecursion (IsEntry n) entries → is_valued n k p entries ≡ false
none_behind n k p [] wide = refl
none_behind n k p (e ∷ es) wide =
    let none : get_or e.values n [] ≡ [] = get_or_past e.values n [] (omega (arith, wide.0.wide)) in
    rw none (rw (and_false (nat_eq p e.oid)) (none_behind n k p es wide.1))
