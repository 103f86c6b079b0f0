-- Each call keeps the agreement of a catalog's documents.
use Rattle.std.proofs.Common.{ℕ, zero, suc, ◌+◌, ◌≡◌, ◌∙◌, refl, sym, ap, subst, arith, Bool, true, false, not, ◌&&◌, ◌||◌, List, [], ◌∷◌, ◌++◌, map, length, if◌then◌else◌, nat_eq, nat_lt, length-append, get_or, append-nil}
use Rattle.std.specs.List.{AllByRecursion, filter}
use Rattle.catalog.specs.declared.document.Posting.{Posting}
use Rattle.catalog.specs.declared.document.Entry.{Entry}
use Rattle.catalog.specs.declared.document.Index.{Index}
use Rattle.catalog.specs.declared.document.IndexKind.{IndexKind}
use Rattle.std.specs.Str.{bytes_eq}
use Rattle.zobject.specs.Rules.{Rise, comes_before}
use Rattle.catalog.specs.Placing.{has_text, with_oid, without_oid}
use Rattle.catalog.specs.Postings.{has_oids, key_before, oid_before, oids_under, posted, posted_all, reposted, unposted, values_for, widened, with_entry, without_entry}
use Rattle.catalog.specs.Forms.{AreEntries, ArePostings, AreValues, IsEntry, IsOid, IsPosting, IsText}
use Rattle.catalog.specs.Agreeing.{AreIndexes, AreInverses, IsInverse, reindexed, unindexed}
use Rattle.catalog.specs.Laws.{CallsKeepAgreement}
use Rattle.catalog.proofs.Rising.{each_filtered, each_joined, each_mapped, each_passes, each_put, entry_chain, filter_rise, lt_chain, posting_chain, put_rise, rise_above, rise_behind, rise_mapped}
use Rattle.catalog.proofs.Inverse.{keys_differ, same_bytes, reposted_is, unposted_is, with_entry_is, without_entry_is, widened_is, none_behind}

-- ---- forms

pub no_key_left : (key : List ℕ) (p : Posting) (ps : List Posting) → bytes_eq key p.key ≡ true → AllByRecursion (λ q. key_before p q ≡ true) ps → oids_under key ps ≡ []
no_key_left key p [] is all = refl
no_key_left key p (q ∷ qs) is all = rw other (no_key_left key p qs is all.1)
  where
    same : key ≡ p.key
    same = same_bytes key p.key is

    at : (b : Bool) → bytes_eq key q.key ≡ b → b ≡ false
    at false e = refl
    at true e =
        let apart = keys_differ p.key q.key in
        let whole : bytes_eq p.key q.key ≡ true = subst (λ k. bytes_eq k q.key ≡ true) same e in
        let before = all.0 in
        absurd (clash (comes_before q.key p.key) (comes_before p.key q.key) (bytes_eq p.key q.key) apart whole before)
      where
        clash : (a b c : Bool) → (a || b) ≡ not c → c ≡ true → b ≡ true → ⊥
        clash true true true x y z = let bad = x in cc
        clash false true true x y z = let bad = x in cc
        clash a false c x y z = let bad = z in cc
        clash a b false x y z = let bad = y in cc

    other : bytes_eq key q.key ≡ false
    other = at (bytes_eq key q.key) refl

-- a key stands once
under_right : (key : List ℕ) (ps : List Posting) → ArePostings ps → Rise nat_lt (oids_under key ps) × AllByRecursion IsOid (oids_under key ps)
under_right key [] are = (tt, tt)
under_right key (p ∷ ps) are = at (bytes_eq key p.key) refl (under_right key ps (record { each = are.each.1; rise = rise_behind key_before posting_chain p ps are.rise }))
  where
    at : (b : Bool) → bytes_eq key p.key ≡ b → Rise nat_lt (oids_under key ps) × AllByRecursion IsOid (oids_under key ps) → Rise nat_lt ((if b then p.oids else []) ++ oids_under key ps) × AllByRecursion IsOid ((if b then p.oids else []) ++ oids_under key ps)
    at false e deeper = deeper
    at true e deeper = rw (no_key_left key p ps e (rise_above key_before posting_chain p ps are.rise)) (rw (append-nil p.oids) (are.each.0.rise, are.each.0.each))

pub some_put : (o : ℕ) (oids : List ℕ) → has_oids (with_oid o oids) ≡ true
some_put o oids = at (filter (λ p. nat_lt p o) oids)
  where
    at : (front : List ℕ) → has_oids (front ++ o ∷ filter (λ p. nat_lt o p) oids) ≡ true
    at [] = refl
    at (p ∷ ps) = refl

posted_right : (o : ℕ) (key : List ℕ) (ps : List Posting) → IsOid o → IsText key → ArePostings ps → ArePostings (posted o key ps)
posted_right o key ps is text are =
    let under = under_right key ps are in
    let new : Posting = record { key = key; oids = with_oid o (oids_under key ps) } in
    record {
      each = each_put IsPosting key_before new ps (record {
        key = text;
        some = some_put o (oids_under key ps);
        each = each_put IsOid nat_lt o (oids_under key ps) is under.1;
        rise = put_rise nat_lt lt_chain o (oids_under key ps) under.0;
      }) are.each;
      rise = put_rise key_before posting_chain new ps are.rise;
    }

pub posted_all_right : (o : ℕ) (keys : List (List ℕ)) (ps : List Posting) → IsOid o → AllByRecursion IsText keys → ArePostings ps → ArePostings (posted_all o keys ps)
posted_all_right o [] ps is texts are = are
posted_all_right o (key ∷ keys) ps is texts are = posted_all_right o keys (posted o key ps) is texts.1 (posted_right o key ps is texts.0 are)

-- all but that it has an object
record IsNearly (p : Posting) : Type 0 where
  key : IsText p.key
  each : AllByRecursion IsOid p.oids
  rise : Rise nat_lt p.oids

both_ways : (ps : List Posting) → AllByRecursion IsNearly ps → AllByRecursion (λ (p : Posting). has_oids p.oids ≡ true) ps → AllByRecursion IsPosting ps
both_ways [] a b = tt
both_ways (p ∷ ps) a b = (record { key = a.0.key; some = b.0; each = a.0.each; rise = a.0.rise }, both_ways ps a.1 b.1)

pub unposted_right : (o : ℕ) (ps : List Posting) → ArePostings ps → ArePostings (unposted o ps)
unposted_right o ps are =
    let less : Posting → Posting = λ p. record p { oids = without_oid o p.oids } in
    let some : Posting → Bool = λ p. has_oids p.oids in
    record {
      each = both_ways (filter some (map less ps))
          (each_filtered IsNearly some (map less ps) (each_mapped IsPosting IsNearly less (λ p is. record { key = is.key; each = each_filtered IsOid (λ q. not (nat_eq o q)) p.oids is.each; rise = filter_rise nat_lt lt_chain (λ q. not (nat_eq o q)) p.oids is.rise }) ps are.each))
          (each_passes some (map less ps));
      rise = filter_rise key_before posting_chain some (map less ps) (rise_mapped key_before key_before less (λ p q e. e) ps are.rise);
    }

wider : (n : ℕ) (entries : List Entry) → AreEntries n entries → AreEntries (n + 1) (widened entries)
wider n entries are =
    let more : Entry → Entry = λ e. record e { values = e.values ++ [] ∷ [] } in
    record {
      each = each_mapped (IsEntry n) (IsEntry (n + 1)) more (λ e is. record {
        oid = is.oid;
        wide = length-append e.values ([] ∷ []) ∙ ap (λ m. m + 1) is.wide;
        values = each_joined AreValues e.values ([] ∷ []) is.values (record { each = tt; rise = tt }, tt);
      }) entries are.each;
      rise = rise_mapped oid_before oid_before more (λ d e is. is) entries are.rise;
    }

-- ---- lengths

reindexed_long : (i : ℕ) (e : Entry) (xs : List Index) → length (reindexed i e xs) ≡ length xs
reindexed_long i e [] = refl
reindexed_long i e (x ∷ xs) = ap suc (reindexed_long (suc i) e xs)

unindexed_long : (o : ℕ) (xs : List Index) → length (unindexed o xs) ≡ length xs
unindexed_long o [] = refl
unindexed_long o (x ∷ xs) = ap suc (unindexed_long o xs)

-- ---- inverses

inverse_made : (i : ℕ) (e : Entry) (entries : List Entry) (postings : List Posting) → IsInverse i entries postings → IsInverse i (with_entry e entries) (reposted e.oid (values_for i e) postings)
inverse_made i e entries postings is = λ key o.
    reposted_is key o e.oid (values_for i e) postings
    ∙ ap (λ b. if nat_eq o e.oid then has_text key (values_for i e) else b) (is key o)
    ∙ sym (with_entry_is i key o e entries)

all_made : (i : ℕ) (e : Entry) (entries : List Entry) (xs : List Index) → AreInverses i entries xs → AreInverses i (with_entry e entries) (reindexed i e xs)
all_made i e entries [] all = tt
all_made i e entries (x ∷ xs) all = (inverse_made i e entries x.postings all.0, all_made (suc i) e entries xs all.1)

inverse_removed : (i o : ℕ) (entries : List Entry) (postings : List Posting) → IsInverse i entries postings → IsInverse i (without_entry o entries) (unposted o postings)
inverse_removed i o entries postings is = λ key p.
    unposted_is key p o postings ∙ ap (λ b. b && not (nat_eq o p)) (is key p) ∙ sym (without_entry_is i key p o entries)

all_removed : (i o : ℕ) (entries : List Entry) (xs : List Index) → AreInverses i entries xs → AreInverses i (without_entry o entries) (unindexed o xs)
all_removed i o entries [] all = tt
all_removed i o entries (x ∷ xs) all = (inverse_removed i o entries x.postings all.0, all_removed (suc i) o entries xs all.1)

-- the new index has no key, and nothing has values in its column
all_widened : (kind : IndexKind) (i n : ℕ) (entries : List Entry) (xs : List Index) → i + length xs ≡ n → AllByRecursion (IsEntry n) entries → AreInverses i entries xs → AreInverses i (widened entries) (xs ++ record { kind = kind; postings = [] } ∷ [])
all_widened kind i n entries [] end wide all =
    let at : n ≡ i = omega (arith, end) in
    let so : AllByRecursion (IsEntry i) entries = subst (λ m. AllByRecursion (IsEntry m) entries) at wide in
    ((λ key o. sym (widened_is i key o entries ∙ none_behind i key o entries so)), tt)
all_widened kind i n entries (x ∷ xs) end wide all =
    ((λ key o. all.0 key o ∙ sym (widened_is i key o entries)), all_widened kind (suc i) n entries xs (omega (arith, end)) wide all.1)

pub values_are_texts : (i : ℕ) (vs : List (List (List ℕ))) → AllByRecursion AreValues vs → AllByRecursion IsText (get_or vs i [])
values_are_texts i [] all = tt
values_are_texts zero (v ∷ vs) all = all.0.each
values_are_texts (suc i) (v ∷ vs) all = values_are_texts i vs all.1

pub reindexed_right : (i : ℕ) (e : Entry) (xs : List Index) → IsOid e.oid → AllByRecursion AreValues e.values → AreIndexes xs → AreIndexes (reindexed i e xs)
reindexed_right i e [] is values are = tt
reindexed_right i e (x ∷ xs) is values are = (posted_all_right e.oid (values_for i e) (unposted e.oid x.postings) is (values_are_texts i e.values values) (unposted_right e.oid x.postings are.0), reindexed_right (suc i) e xs is values are.1)

pub unindexed_right : (o : ℕ) (xs : List Index) → AreIndexes xs → AreIndexes (unindexed o xs)
unindexed_right o [] are = tt
unindexed_right o (x ∷ xs) are = (unposted_right o x.postings are.0, unindexed_right o xs are.1)

-- ---- the calls

pub calls_keep : CallsKeepAgreement
calls_keep = record {
  new = record { entries = record { each = tt; rise = tt }; indexes = tt; inverses = tt };
  index_added = λ kind c agrees. record {
    entries = subst (λ n. AreEntries n (widened c.entries)) (sym (length-append c.indexes (record { kind = kind; postings = [] } ∷ []))) (wider (length c.indexes) c.entries agrees.entries);
    indexes = each_joined (λ (x : Index). ArePostings x.postings) c.indexes (record { kind = kind; postings = [] } ∷ []) agrees.indexes (record { each = tt; rise = tt }, tt);
    inverses = all_widened kind 0 (length c.indexes) c.entries c.indexes (omega arith) agrees.entries.each agrees.inverses;
  };
  entry_made = λ e c is agrees. record {
    entries = subst (λ n. AreEntries n (with_entry e c.entries)) (sym (reindexed_long 0 e c.indexes)) (record {
      each = each_put (IsEntry (length c.indexes)) oid_before e c.entries is agrees.entries.each;
      rise = put_rise oid_before entry_chain e c.entries agrees.entries.rise;
    });
    indexes = reindexed_right 0 e c.indexes is.oid is.values agrees.indexes;
    inverses = all_made 0 e c.entries c.indexes agrees.inverses;
  };
  entry_removed = λ o c agrees. record {
    entries = subst (λ n. AreEntries n (without_entry o c.entries)) (sym (unindexed_long o c.indexes)) (record {
      each = each_filtered (IsEntry (length c.indexes)) (λ (f : Entry). not (nat_eq o f.oid)) c.entries agrees.entries.each;
      rise = filter_rise oid_before entry_chain (λ (f : Entry). not (nat_eq o f.oid)) c.entries agrees.entries.rise;
    });
    indexes = unindexed_right o c.indexes agrees.indexes;
    inverses = all_removed 0 o c.entries c.indexes agrees.inverses;
  };
}
