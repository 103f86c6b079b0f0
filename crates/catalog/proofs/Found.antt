-- What the indexes find is what a filter of the entries finds, where they agree.
use Rattle.std.proofs.Common.{ℕ, zero, suc, ◌+◌, ◌<◌, ◌≡◌, ◌∙◌, refl, sym, ap, subst, arith, Bool, true, false, ◌&&◌, ◌||◌, List, [], ◌∷◌, flat_map, length, nat_eq, nat_lt}
use Rattle.std.specs.List.{filter, list_all, list_any, AllByRecursion}
use Rattle.std.proofs.lemmas.Bool.Decides.{nat_tests}
use Rattle.zobject.specs.Rules.{Rise}
use Rattle.catalog.specs.declared.document.Posting.{Posting}
use Rattle.catalog.specs.declared.document.Contents.{Contents}
use Rattle.catalog.specs.declared.document.Entry.{Entry}
use Rattle.catalog.specs.declared.document.Sought.{Sought}
use Rattle.catalog.specs.declared.document.Index.{Index}
use Rattle.catalog.specs.Placing.{has_text, is_among}
use Rattle.catalog.specs.Postings.{is_posted, is_valued, oid_before, oids_under, values_for}
use Rattle.catalog.specs.Agreeing.{Agrees, AreInverses, IsInverse}
use Rattle.catalog.specs.Hits.{found_by, found_by_all, has_one, hits, ids_of, ids_under, is_hit, postings_of, sorted_ids}
use Rattle.catalog.specs.Laws.{SearchesFindHits}
use Rattle.catalog.proofs.Any.{any_filter, any_map, any_same, any_none, any_flat, any_and}
use Rattle.catalog.proofs.Inverse.{under_is, with_oid_is}
use Rattle.catalog.proofs.Rising.{filter_rise, entry_chain, lt_chain, rise_above, rise_behind, rising_same, sorted_rise}

-- ---- what stands in the lists

pub sorted_is : (p : ℕ) (os : List ℕ) → is_among p (sorted_ids os) ≡ is_among p os
sorted_is p [] = refl
sorted_is p (o ∷ os) = with_oid_is p o (sorted_ids os) ∙ ap (λ b. nat_eq p o || b) (sorted_is p os)

ids_under_is : (p : ℕ) (keys : List (List ℕ)) (postings : List Posting) → is_among p (ids_under keys postings) ≡ list_any (λ key. is_posted key p postings) keys
ids_under_is p keys postings =
    sorted_is p (flat_map (λ key. oids_under key postings) keys)
    ∙ any_flat (nat_eq p) (λ key. oids_under key postings) keys
    ∙ any_same (λ key. is_among p (oids_under key postings)) (λ key. is_posted key p postings) (λ key. under_is key p postings) keys

inverse_at : (n i : ℕ) (entries : List Entry) (xs : List Index) → i < length xs → AreInverses n entries xs → IsInverse (n + i) entries (postings_of i xs)
inverse_at n i entries [] few all = absurd (omega (arith, few))
inverse_at n zero entries (x ∷ xs) few all = subst (λ m. IsInverse m entries x.postings) (omega arith) all.0
inverse_at n (suc i) entries (x ∷ xs) few all = subst (λ m. IsInverse m entries (postings_of i xs)) (omega arith) (inverse_at (suc n) i entries xs (omega (arith, few)) all.1)

-- two tests one inside the other may change places
or_any : {X : Type 0} (p : X → Bool) (q : X → Bool) (xs : List X) → (list_any p xs || list_any q xs) ≡ list_any (λ x. p x || q x) xs
or_any p q [] = refl
or_any p q (x ∷ xs) = mixed (p x) (list_any p xs) (q x) (list_any q xs) ∙ ap (λ b. (p x || q x) || b) (or_any p q xs)
  where
    mixed : (a b c d : Bool) → ((a || b) || (c || d)) ≡ ((a || c) || (b || d))
    mixed true b c d = refl
    mixed false true true d = refl
    mixed false true false d = refl
    mixed false false c d = refl

spread : (a b c : Bool) → ((a && b) || (a && c)) ≡ (a && (b || c))
spread true b c = refl
spread false b c = refl

-- one of the keys is among the object's values
swapped : (i p : ℕ) (keys : List (List ℕ)) (entries : List Entry) → list_any (λ key. is_valued i key p entries) keys ≡ list_any (λ (e : Entry). nat_eq p e.oid && list_any (λ key. has_text key (values_for i e)) keys) entries
swapped i p [] entries = sym (any_none (λ (e : Entry). nat_eq p e.oid && false) (λ e. never (nat_eq p e.oid)) entries)
  where
    never : (b : Bool) → (b && false) ≡ false
    never true = refl
    never false = refl
swapped i p (key ∷ keys) entries =
    ap (λ b. is_valued i key p entries || b) (swapped i p keys entries)
    ∙ or_any (λ (e : Entry). nat_eq p e.oid && has_text key (values_for i e)) (λ (e : Entry). nat_eq p e.oid && list_any (λ key. has_text key (values_for i e)) keys) entries
    ∙ any_same (λ (e : Entry). (nat_eq p e.oid && has_text key (values_for i e)) || (nat_eq p e.oid && list_any (λ key. has_text key (values_for i e)) keys)) (λ (e : Entry). nat_eq p e.oid && (has_text key (values_for i e) || list_any (λ key. has_text key (values_for i e)) keys))
    (λ e. spread (nat_eq p e.oid) (has_text key (values_for i e)) (list_any (λ key. has_text key (values_for i e)) keys)) entries

-- the object has an entry that passes the test
abbrev passes : (Entry → Bool) → ℕ → List Entry → Bool
passes test p entries = list_any (λ (e : Entry). nat_eq p e.oid && test e) entries

found_is : (p : ℕ) (c : Contents) (s : Sought) → Agrees c → s.index < length c.indexes → is_among p (found_by c.indexes s) ≡ passes (has_one s) p c.entries
found_is p c s agrees few =
    let inverse : IsInverse s.index c.entries (postings_of s.index c.indexes) = subst (λ m. IsInverse m c.entries (postings_of s.index c.indexes)) (omega arith) (inverse_at 0 s.index c.entries c.indexes few agrees.inverses) in
    ids_under_is p s.given (postings_of s.index c.indexes)
    ∙ any_same (λ key. is_posted key p (postings_of s.index c.indexes)) (λ key. is_valued s.index key p c.entries) (λ key. inverse key p) s.given
    ∙ swapped s.index p s.given c.entries

-- ---- entries that rise

none_above : (test : Entry → Bool) (e : Entry) (es : List Entry) → AllByRecursion (λ f. oid_before e f ≡ true) es → passes test e.oid es ≡ false
none_above test e [] all = refl
none_above test e (f ∷ fs) all = rw (other e.oid f.oid all.0) (none_above test e fs all.1)
  where
    other : (o p : ℕ) → nat_lt o p ≡ true → nat_eq o p ≡ false
    other o p e = grind (arith, nat_tests)

-- an object has one entry at most
both_pass : (f g : Entry → Bool) (p : ℕ) (entries : List Entry) → Rise oid_before entries → (passes f p entries && passes g p entries) ≡ passes (λ e. f e && g e) p entries
both_pass f g p [] rise = refl
both_pass f g p (e ∷ es) rise = at (nat_eq p e.oid) refl (both_pass f g p es (rise_behind oid_before entry_chain e es rise))
  where
    equal : nat_eq p e.oid ≡ true → p ≡ e.oid
    equal is = grind (arith, nat_tests)

    none : (test : Entry → Bool) → nat_eq p e.oid ≡ true → passes test p es ≡ false
    none test is = rw (equal is) (none_above test e es (rise_above oid_before entry_chain e es rise))

    alone : (a b : Bool) → ((a || false) && (b || false)) ≡ ((a && b) || false)
    alone true true = refl
    alone true false = refl
    alone false b = refl

    at : (is : Bool) → nat_eq p e.oid ≡ is → (passes f p es && passes g p es) ≡ passes (λ e. f e && g e) p es →
        (((is && f e) || passes f p es) && ((is && g e) || passes g p es)) ≡ ((is && (f e && g e)) || passes (λ e. f e && g e) p es)
    at true is deeper = rw (none f is) (rw (none g is) (rw (none (λ e. f e && g e) is) (alone (f e) (g e))))
    at false is deeper = deeper

abbrev AreKnown : Contents → List Sought → Type 0
AreKnown c sought = AllByRecursion (λ (s : Sought). s.index < length c.indexes) sought

-- each further index finds it, and it passes already
further_is : (p : ℕ) (c : Contents) (further : List Sought) (test : Entry → Bool) → Agrees c → Rise oid_before c.entries → AreKnown c further →
    (passes test p c.entries && list_all (λ t. is_among p (found_by c.indexes t)) further) ≡ passes (λ e. test e && is_hit further e) p c.entries
further_is p c [] test agrees rise known = last (passes test p c.entries) ∙ sym (any_same (λ (e : Entry). nat_eq p e.oid && (test e && true)) (λ (e : Entry). nat_eq p e.oid && test e) (λ e. ap (λ b. nat_eq p e.oid && b) (last (test e))) c.entries)
  where
    last : (b : Bool) → (b && true) ≡ b
    last true = refl
    last false = refl
further_is p c (t ∷ ts) test agrees rise known =
    ap (λ b. passes test p c.entries && (b && list_all (λ t. is_among p (found_by c.indexes t)) ts)) (found_is p c t agrees known.0)
    ∙ grouped (passes test p c.entries) (passes (has_one t) p c.entries) (list_all (λ t. is_among p (found_by c.indexes t)) ts)
    ∙ ap (λ b. b && list_all (λ t. is_among p (found_by c.indexes t)) ts) (both_pass test (has_one t) p c.entries rise)
    ∙ further_is p c ts (λ e. test e && has_one t e) agrees rise known.1
    ∙ any_same (λ (e : Entry). nat_eq p e.oid && ((test e && has_one t e) && is_hit ts e)) (λ (e : Entry). nat_eq p e.oid && (test e && (has_one t e && is_hit ts e))) (λ e. ap (λ b. nat_eq p e.oid && b) (sym (grouped (test e) (has_one t e) (is_hit ts e)))) c.entries
  where
    grouped : (a b c : Bool) → (a && (b && c)) ≡ ((a && b) && c)
    grouped true b c = refl
    grouped false b c = refl

found_all_is : (p : ℕ) (c : Contents) (s : Sought) (further : List Sought) → Agrees c → Rise oid_before c.entries → s.index < length c.indexes → AreKnown c further → is_among p (found_by_all c.indexes s further) ≡ passes (is_hit (s ∷ further)) p c.entries
found_all_is p c s further agrees rise few known =
    any_filter (nat_eq p) (λ o. list_all (λ t. is_among o (found_by c.indexes t)) further) (found_by c.indexes s)
    ∙ any_same (λ o. nat_eq p o && list_all (λ t. is_among o (found_by c.indexes t)) further) (λ o. nat_eq p o && list_all (λ t. is_among p (found_by c.indexes t)) further) (λ o. own o (nat_eq p o) refl) (found_by c.indexes s)
    ∙ any_and (nat_eq p) (list_all (λ t. is_among p (found_by c.indexes t)) further) (found_by c.indexes s)
    ∙ ap (λ b. b && list_all (λ t. is_among p (found_by c.indexes t)) further) (found_is p c s agrees few)
    ∙ further_is p c further (has_one s) agrees rise known
  where
    equal : (o : ℕ) → nat_eq p o ≡ true → o ≡ p
    equal o is = grind (arith, nat_tests)

    own : (o : ℕ) (is : Bool) → nat_eq p o ≡ is → (is && list_all (λ t. is_among o (found_by c.indexes t)) further) ≡ (is && list_all (λ t. is_among p (found_by c.indexes t)) further)
    own o true is = ap (λ q. list_all (λ t. is_among q (found_by c.indexes t)) further) (equal o is)
    own o false is = refl

-- ---- the hits

hits_are : (p : ℕ) (sought : List Sought) (entries : List Entry) → is_among p (hits sought entries) ≡ passes (is_hit sought) p entries
hits_are p sought entries = any_map (nat_eq p) (λ (e : Entry). e.oid) (filter (is_hit sought) entries) ∙ any_filter (λ (e : Entry). nat_eq p e.oid) (is_hit sought) entries

ids_rise : (entries : List Entry) → Rise oid_before entries → Rise nat_lt (ids_of entries)
ids_rise [] rise = tt
ids_rise (e ∷ []) rise = tt
ids_rise (e ∷ f ∷ es) rise = (rise.0, ids_rise (f ∷ es) rise.1)

pub searches_find : SearchesFindHits
searches_find = λ c s further agrees few known.
    rising_same (found_by_all c.indexes s further) (hits (s ∷ further) c.entries)
    (filter_rise nat_lt lt_chain (λ o. list_all (λ t. is_among o (found_by c.indexes t)) further) (found_by c.indexes s) (sorted_rise (flat_map (λ key. oids_under key (postings_of s.index c.indexes)) s.given)))
    (ids_rise (filter (is_hit (s ∷ further)) c.entries) (filter_rise oid_before entry_chain (is_hit (s ∷ further)) c.entries agrees.entries.rise))
    (λ p. found_all_is p c s further agrees agrees.entries.rise few known ∙ sym (hits_are p (s ∷ further) c.entries))
