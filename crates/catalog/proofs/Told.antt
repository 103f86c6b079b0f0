-- What is read is of the form and has its text; and the other way round.
use Rattle.std.proofs.Common.{ℕ, ◌≡◌, ◌∙◌, ◌==◌, ◌&&◌, refl, sym, ap, subst, arith, Bool, true, false, List, [], ◌∷◌, length, map, nat_lt, Option, Some, None, Result, Ok, Err, if◌then◌else◌}
use Rattle.std.specs.Prelude.{IfOk, IfSome}
use Rattle.std.specs.List.{list_all, AllByRecursion}
use Rattle.std.specs.Str.{bytes_eq, is_utf8}
use Rattle.std.proofs.lemmas.Bool.Decides.{nat_tests}
use Rattle.std.proofs.lemmas.Str.{IsUtf8-nil, is_utf8-from_IsUtf8}
use Rattle.zobject.specs.Rules.{Rise, comes_before}
use Rattle.catalog.specs.declared.document.Entry.{Entry}
use Rattle.catalog.specs.declared.document.Index.{Index}
use Rattle.catalog.specs.declared.document.Posting.{Posting}
use Rattle.catalog.specs.Postings.{has_oids, key_before, oid_before}
use Rattle.catalog.specs.Forms.{AreEntries, ArePostings, AreValues, IsEntry, IsOid, IsPosting, IsText}
use Rattle.catalog.specs.Spelling.{entries_text, index_text}
use Rattle.catalog.specs.Reading.{are_entries, are_postings, bytes_of, column_in, entries_in, entries_read, entry_from, index_from, index_in, index_read, is_entry, is_posting, lines_in, number_of, parts, posting_from, rises, text_of, value_in, where_so}
use Rattle.catalog.specs.Laws.{TextsAreRead}
use Rattle.catalog.proofs.Digits.{oid_small}
use Rattle.catalog.proofs.Inverse.{bytes_same, same_bytes}
use Rattle.catalog.proofs.OneReading.{entries_back, index_back}

-- ---- tests

parts_of : (a b : Bool) → (a && b) ≡ true → (a ≡ true) × (b ≡ true)
parts_of true true e = (refl, refl)
parts_of true false e = absurd (let bad = e in cc)
parts_of false b e = absurd (let bad = e in cc)

whole_of : (a b : Bool) → a ≡ true → b ≡ true → (a && b) ≡ true
whole_of true true x y = refl
whole_of true false x y = absurd (let bad = y in cc)
whole_of false b x y = absurd (let bad = x in cc)

rise_told : {X : Type 0} (before : X → X → Bool) (xs : List X) → rises before xs ≡ true → Rise before xs
rise_told before [] e = tt
rise_told before (x ∷ []) e = tt
rise_told before (x ∷ y ∷ ys) e = let two = parts_of (before x y) (rises before (y ∷ ys)) e in (two.0, rise_told before (y ∷ ys) two.1)

rise_passes : {X : Type 0} (before : X → X → Bool) (xs : List X) → Rise before xs → rises before xs ≡ true
rise_passes before [] rise = refl
rise_passes before (x ∷ []) rise = refl
rise_passes before (x ∷ y ∷ ys) rise = whole_of (before x y) (rises before (y ∷ ys)) rise.0 (rise_passes before (y ∷ ys) rise.1)

equal : (m n : ℕ) → (m == n) ≡ true → m ≡ n
equal m n e = grind (arith, nat_tests)

alike : (m n : ℕ) → m ≡ n → (m == n) ≡ true
alike m n e = grind (arith, nat_tests)

-- ---- what was taken apart has ids of 64 bits and texts

text_is : (bytes : List ℕ) → IsText (text_of bytes)
text_is bytes = at (is_utf8 bytes) refl
  where
    at : (b : Bool) → is_utf8 bytes ≡ b → is_utf8 (if b then bytes else []) ≡ true
    at true e = e
    at false e = is_utf8-from_IsUtf8 [] IsUtf8-nil

value_is : (text : List ℕ) → IsText (value_in text)
value_is text = at (bytes_eq text (46 ∷ []))
  where
    at : (b : Bool) → is_utf8 (if b then [] else text_of (bytes_of text)) ≡ true
    at true = is_utf8-from_IsUtf8 [] IsUtf8-nil
    at false = text_is (bytes_of text)

each_value_is : (texts : List (List ℕ)) → AllByRecursion IsText (map value_in texts)
each_value_is [] = tt
each_value_is (t ∷ ts) = (value_is t, each_value_is ts)

column_is : (text : List ℕ) → AllByRecursion IsText (column_in text)
column_is text = at (bytes_eq text (45 ∷ []))
  where
    at : (b : Bool) → AllByRecursion IsText (if b then [] else map value_in (parts 44 text))
    at true = tt
    at false = each_value_is (parts 44 text)

each_column_is : (texts : List (List ℕ)) → AllByRecursion (λ vs. AllByRecursion IsText vs) (map column_in texts)
each_column_is [] = tt
each_column_is (t ∷ ts) = (column_is t, each_column_is ts)

record IsApart (e : Entry) : Type 0 where
  oid : IsOid e.oid
  texts : AllByRecursion (λ (vs : List (List ℕ)). AllByRecursion IsText vs) e.values

entry_apart : (fields : List (List ℕ)) → IsApart (entry_from fields)
entry_apart [] = record { oid = omega arith; texts = tt }
entry_apart (oid ∷ columns) = record { oid = oid_small oid; texts = each_column_is columns }

entries_apart : (ls : List (List ℕ)) → AllByRecursion IsApart (map (λ l. entry_from (parts 32 l)) ls)
entries_apart [] = tt
entries_apart (l ∷ ls) = (entry_apart (parts 32 l), entries_apart ls)

record IsKey (p : Posting) : Type 0 where
  key : IsText p.key
  oids : AllByRecursion IsOid p.oids

ids_apart : (texts : List (List ℕ)) → AllByRecursion IsOid (map number_of texts)
ids_apart [] = tt
ids_apart (t ∷ ts) = (oid_small t, ids_apart ts)

posting_apart : (fields : List (List ℕ)) → IsKey (posting_from fields)
posting_apart [] = record { key = is_utf8-from_IsUtf8 [] IsUtf8-nil; oids = tt }
posting_apart (key ∷ []) = record { key = value_is key; oids = tt }
posting_apart (key ∷ oids ∷ rest) = record { key = value_is key; oids = ids_apart (parts 44 oids) }

postings_apart : (ls : List (List ℕ)) → AllByRecursion IsKey (map (λ l. posting_from (parts 32 l)) ls)
postings_apart [] = tt
postings_apart (l ∷ ls) = (posting_apart (parts 32 l), postings_apart ls)

index_apart : (ls : List (List ℕ)) → AllByRecursion IsKey (index_from ls).postings
index_apart [] = tt
index_apart (l ∷ ls) = postings_apart ls

-- ---- of the form

values_told : (columns : List (List (List ℕ))) → list_all (rises comes_before) columns ≡ true → AllByRecursion (λ vs. AllByRecursion IsText vs) columns → AllByRecursion AreValues columns
values_told [] e texts = tt
values_told (c ∷ cs) e texts = let two = parts_of (rises comes_before c) (list_all (rises comes_before) cs) e in (record { each = texts.0; rise = rise_told comes_before c two.0 }, values_told cs two.1 texts.1)

values_pass : (columns : List (List (List ℕ))) → AllByRecursion AreValues columns → list_all (rises comes_before) columns ≡ true
values_pass [] are = refl
values_pass (c ∷ cs) are = whole_of (rises comes_before c) (list_all (rises comes_before) cs) (rise_passes comes_before c are.0.rise) (values_pass cs are.1)

entry_told : (n : ℕ) (e : Entry) → is_entry n e ≡ true → IsApart e → IsEntry n e
entry_told n e is apart =
    let two = parts_of (length e.values == n) (list_all (rises comes_before) e.values) is in
    record { oid = apart.oid; wide = equal (length e.values) n two.0; values = values_told e.values two.1 apart.texts }

entries_told : (n : ℕ) (es : List Entry) → list_all (is_entry n) es ≡ true → AllByRecursion IsApart es → AllByRecursion (IsEntry n) es
entries_told n [] e apart = tt
entries_told n (x ∷ xs) e apart = let two = parts_of (is_entry n x) (list_all (is_entry n) xs) e in (entry_told n x two.0 apart.0, entries_told n xs two.1 apart.1)

entries_pass : (n : ℕ) (es : List Entry) → AllByRecursion (IsEntry n) es → list_all (is_entry n) es ≡ true
entries_pass n [] are = refl
entries_pass n (e ∷ es) are =
    whole_of (is_entry n e) (list_all (is_entry n) es) (whole_of (length e.values == n) (list_all (rises comes_before) e.values) (alike (length e.values) n are.0.wide) (values_pass e.values are.0.values)) (entries_pass n es are.1)

all_told : (n : ℕ) (es : List Entry) → are_entries n es ≡ true → AllByRecursion IsApart es → AreEntries n es
all_told n es is apart = let two = parts_of (list_all (is_entry n) es) (rises oid_before es) is in record { each = entries_told n es two.0 apart; rise = rise_told oid_before es two.1 }

all_pass : (n : ℕ) (es : List Entry) → AreEntries n es → are_entries n es ≡ true
all_pass n es are = whole_of (list_all (is_entry n) es) (rises oid_before es) (entries_pass n es are.each) (rise_passes oid_before es are.rise)

postings_told : (ps : List Posting) → list_all is_posting ps ≡ true → AllByRecursion IsKey ps → AllByRecursion IsPosting ps
postings_told [] e apart = tt
postings_told (p ∷ ps) e apart =
    let two = parts_of (is_posting p) (list_all is_posting ps) e in
    let own = parts_of (has_oids p.oids) (rises nat_lt p.oids) two.0 in
    (record { key = apart.0.key; some = own.0; each = apart.0.oids; rise = rise_told nat_lt p.oids own.1 }, postings_told ps two.1 apart.1)

postings_pass : (ps : List Posting) → AllByRecursion IsPosting ps → list_all is_posting ps ≡ true
postings_pass [] are = refl
postings_pass (p ∷ ps) are = whole_of (is_posting p) (list_all is_posting ps) (whole_of (has_oids p.oids) (rises nat_lt p.oids) are.0.some (rise_passes nat_lt p.oids are.0.rise)) (postings_pass ps are.1)

keys_told : (ps : List Posting) → are_postings ps ≡ true → AllByRecursion IsKey ps → ArePostings ps
keys_told ps is apart = let two = parts_of (list_all is_posting ps) (rises key_before ps) is in record { each = postings_told ps two.0 apart; rise = rise_told key_before ps two.1 }

keys_pass : (ps : List Posting) → ArePostings ps → are_postings ps ≡ true
keys_pass ps are = whole_of (list_all is_posting ps) (rises key_before ps) (postings_pass ps are.each) (rise_passes key_before ps are.rise)

-- ---- read

where_told : {X : Type 0} (b : Bool) (x y : X) → where_so b x ≡ Some y → (b ≡ true) × (x ≡ y)
where_told true x y e = (refl, cc)
where_told false x y e = absurd (let bad = e in cc)

lines_apart : (text : List ℕ) → AllByRecursion IsApart (entries_in text)
lines_apart text = entries_apart (lines_in text)

read_told : (n : ℕ) (text : List ℕ) (es : List Entry) → entries_read n text ≡ Some es → AreEntries n es × (entries_text es ≡ text)
unfolding entries_read
read_told n text es e =
    let told = where_told (are_entries n (entries_in text) && bytes_eq (entries_text (entries_in text)) text) (entries_in text) es e in
    let two = parts_of (are_entries n (entries_in text)) (bytes_eq (entries_text (entries_in text)) text) told.0 in
    (subst (AreEntries n) told.1 (all_told n (entries_in text) two.0 (lines_apart text)), sym (ap entries_text told.1) ∙ same_bytes (entries_text (entries_in text)) text two.1)

read_spelled : (n : ℕ) (es : List Entry) → AreEntries n es → entries_read n (entries_text es) ≡ Some es
unfolding entries_read
read_spelled n es are =
    ap (λ xs. where_so (are_entries n xs && bytes_eq (entries_text xs) (entries_text es)) xs) (entries_back n es are.each)
    ∙ ap (λ b. where_so b es) (whole_of (are_entries n es) (bytes_eq (entries_text es) (entries_text es)) (all_pass n es are) (bytes_same (entries_text es)))

index_told : (text : List ℕ) (x : Index) → index_read text ≡ Some x → ArePostings x.postings × (index_text x ≡ text)
unfolding index_read
index_told text x e =
    let told = where_told (are_postings (index_in text).postings && bytes_eq (index_text (index_in text)) text) (index_in text) x e in
    let two = parts_of (are_postings (index_in text).postings) (bytes_eq (index_text (index_in text)) text) told.0 in
    (subst (λ (y : Index). ArePostings y.postings) told.1 (keys_told (index_in text).postings two.0 (index_apart (lines_in text))), sym (ap index_text told.1) ∙ same_bytes (index_text (index_in text)) text two.1)

index_spelled : (x : Index) → ArePostings x.postings → index_read (index_text x) ≡ Some x
unfolding index_read
index_spelled x are =
    ap (λ y. where_so (are_postings y.postings && bytes_eq (index_text y) (index_text x)) y) (index_back x are.each)
    ∙ ap (λ b. where_so b x) (whole_of (are_postings x.postings) (bytes_eq (index_text x) (index_text x)) (keys_pass x.postings are) (bytes_same (index_text x)))

pub texts_read : TextsAreRead
texts_read = record { entries_spelled = read_spelled; entries_told = read_told; index_spelled = index_spelled; index_told = index_told }

-- ---- what is answered

pub entries_form : {M : Type 0} (n : ℕ) (text : List ℕ) (r : Result (Option (List Entry)) M) → IfOk r (λ entries. entries ≡ entries_read n text) → IfOk r (λ entries. IfSome entries (AreEntries n))
entries_form n text (Ok (Some es)) is = (read_told n text es (sym is)).0
entries_form n text (Ok None) is = tt
entries_form n text (Err e) is = tt

pub index_form : {M : Type 0} (text : List ℕ) (r : Result (Option Index) M) → IfOk r (λ index. index ≡ index_read text) → IfOk r (λ index. IfSome index (λ (x : Index). ArePostings x.postings))
index_form text (Ok (Some x)) is = (index_told text x (sym is)).0
index_form text (Ok None) is = tt
index_form text (Err e) is = tt
