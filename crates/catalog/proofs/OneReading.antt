-- What entries and indexes spell is taken apart into the same.
use Rattle.std.proofs.Common.{ℕ, ◌/◌, ◌≡◌, ◌∙◌, refl, sym, ap, subst, arith, true, false, List, [], ◌∷◌, map, nat_eq, nat_lt}
use Rattle.std.specs.List.{AllByRecursion}
use Rattle.std.specs.Str.{bytes_eq, is_utf8}
use Rattle.std.proofs.lemmas.Bool.Decides.{nat_tests}
use Rattle.zbase.specs.Hex.{hex_bytes, hex_digit, hex16_text}
use Rattle.catalog.specs.declared.document.Entry.{Entry}
use Rattle.catalog.specs.declared.document.Index.{Index}
use Rattle.catalog.specs.declared.document.IndexKind.{IndexKind}
use Rattle.catalog.specs.declared.document.IndexKind.TheVariants as kinds
use Rattle.catalog.specs.declared.document.Posting.{Posting}
use Rattle.catalog.specs.Postings.{has_oids}
use Rattle.catalog.specs.Forms.{AreValues, IsEntry, IsOid, IsPosting, IsText}
use Rattle.catalog.specs.Spelling.{column_text, entries_text, index_text, joined_by, kind_text, value_text}
use Rattle.catalog.specs.Reading.{bytes_of, column_in, entries_in, entry_from, index_from, index_in, kind_in, number_of, parts, posting_from, text_of, value_in}
use Rattle.catalog.proofs.Bytes.{text_bytes}
use Rattle.catalog.proofs.Digits.{bytes_above, bytes_back, digit_high, oid_above, oid_back}
use Rattle.catalog.proofs.Splits.{Above, each_lower, headed_back, join_above, lines_back, lower, lower_one, split_joined}

-- ---- values

value_above : (v : List ℕ) → Above 45 (value_text v)
value_above [] = (refl, tt)
value_above (b ∷ bs) = lower 45 47 (hex_bytes (b ∷ bs)) refl (bytes_above (b ∷ bs))

high_apart : (m h : ℕ) → nat_lt m h ≡ true → nat_eq h m ≡ false
high_apart m h e = grind (arith, nat_tests)

digit_apart : (m d : ℕ) → nat_lt m 47 ≡ true → nat_eq (hex_digit d) m ≡ false
digit_apart m d less = high_apart m (hex_digit d) (lower_one m 47 (hex_digit d) less (digit_high d))

text_same : (v : List ℕ) → is_utf8 v ≡ true → text_of v ≡ v
text_same v is = rw is refl

not_dot : (b : ℕ) (bs : List ℕ) → bytes_eq (hex_bytes (b ∷ bs)) (46 ∷ []) ≡ false
not_dot b bs = rw (digit_apart 46 (b / 16) refl) refl

other_value : (text : List ℕ) → bytes_eq text (46 ∷ []) ≡ false → value_in text ≡ text_of (bytes_of text)
other_value text e = rw e refl

value_back : (v : List ℕ) → IsText v → value_in (value_text v) ≡ v
value_back [] is = refl
value_back (b ∷ bs) is = other_value (hex_bytes (b ∷ bs)) (not_dot b bs) ∙ ap text_of (bytes_back (b ∷ bs) (text_bytes (b ∷ bs) is)) ∙ text_same (b ∷ bs) is

each_value_above : (m : ℕ) → nat_lt m 45 ≡ true → (vs : List (List ℕ)) → AllByRecursion (λ y. Above m y) (map value_text vs)
each_value_above m less [] = tt
each_value_above m less (v ∷ vs) = (lower m 45 (value_text v) less (value_above v), each_value_above m less vs)

same_values : (a b : List ℕ) (ps qs : List (List ℕ)) → a ≡ b → ps ≡ qs → a ∷ ps ≡ b ∷ qs
same_values a b ps qs x y = cc

values_back : (vs : List (List ℕ)) → AllByRecursion IsText vs → map value_in (map value_text vs) ≡ vs
values_back [] all = refl
values_back (v ∷ vs) all = same_values (value_in (value_text v)) v (map value_in (map value_text vs)) vs (value_back v all.0) (values_back vs all.1)

-- ---- columns

-- a list of values isn't a dash
no_dash : (v : List ℕ) (rest : List (List ℕ)) → bytes_eq (joined_by 44 (value_text v ∷ rest)) (45 ∷ []) ≡ false
no_dash [] rest = refl
no_dash (b ∷ bs) rest = rw (digit_apart 45 (b / 16) refl) refl

other_column : (text : List ℕ) → bytes_eq text (45 ∷ []) ≡ false → column_in text ≡ map value_in (parts 44 text)
other_column text e = rw e refl

column_back : (vs : List (List ℕ)) → AllByRecursion IsText vs → column_in (column_text vs) ≡ vs
column_back [] all = refl
column_back (v ∷ vs) all =
    other_column (column_text (v ∷ vs)) (no_dash v (map value_text vs))
    ∙ ap (map value_in) (split_joined 44 (value_text v) (map value_text vs) (lower 44 45 (value_text v) refl (value_above v)) (each_value_above 44 refl vs))
    ∙ values_back (v ∷ vs) all

column_above : (m : ℕ) → nat_lt m 44 ≡ true → (vs : List (List ℕ)) → Above m (column_text vs)
column_above m less [] = (lower_one m 44 45 less refl, tt)
column_above m less (v ∷ vs) = join_above m 44 (value_text v) (map value_text vs) less (lower m 45 (value_text v) (lower_one m 44 45 less refl) (value_above v)) (each_value_above m (lower_one m 44 45 less refl) vs)

each_column_above : (m : ℕ) → nat_lt m 44 ≡ true → (columns : List (List (List ℕ))) → AllByRecursion (λ y. Above m y) (map column_text columns)
each_column_above m less [] = tt
each_column_above m less (c ∷ cs) = (column_above m less c, each_column_above m less cs)

same_columns : (a b : List (List ℕ)) (ps qs : List (List (List ℕ))) → a ≡ b → ps ≡ qs → a ∷ ps ≡ b ∷ qs
same_columns a b ps qs x y = cc

columns_back : (columns : List (List (List ℕ))) → AllByRecursion AreValues columns → map column_in (map column_text columns) ≡ columns
columns_back [] all = refl
columns_back (c ∷ cs) all = same_columns (column_in (column_text c)) c (map column_in (map column_text cs)) cs (column_back c all.0.each) (columns_back cs all.1)

-- ---- entries

abbrev entry_line : Entry → List ℕ
entry_line e = joined_by 32 (hex16_text e.oid ∷ map column_text e.values)

entry_above : (e : Entry) → Above 10 (entry_line e)
entry_above e = join_above 10 32 (hex16_text e.oid) (map column_text e.values) refl (lower 10 47 (hex16_text e.oid) refl (oid_above e.oid)) (each_column_above 10 refl e.values)

one_entry : (e : Entry) (o : ℕ) (columns : List (List (List ℕ))) → o ≡ e.oid → columns ≡ e.values → ◌≡◌ {A = Entry} (record { oid = o; values = columns }) e
one_entry e o columns a b = sym (subst (λ (p : ℕ). e ≡ record { oid = p; values = e.values }) (sym a) refl ∙ subst (λ (cs : List (List (List ℕ))). ◌≡◌ {A = Entry} (record { oid = o; values = e.values }) (record { oid = o; values = cs })) (sym b) refl)

entry_back : (n : ℕ) (e : Entry) → IsEntry n e → entry_from (parts 32 (entry_line e)) ≡ e
entry_back n e is =
    ap entry_from (split_joined 32 (hex16_text e.oid) (map column_text e.values) (lower 32 47 (hex16_text e.oid) refl (oid_above e.oid)) (each_column_above 32 refl e.values))
    ∙ one_entry e (number_of (hex16_text e.oid)) (map column_in (map column_text e.values)) (oid_back e.oid is.oid) (columns_back e.values is.values)

entries_above : (es : List Entry) → AllByRecursion (λ e. Above 10 (entry_line e)) es
entries_above [] = tt
entries_above (e ∷ es) = (entry_above e, entries_above es)

same_entries : (a b : Entry) (ps qs : List Entry) → a ≡ b → ps ≡ qs → a ∷ ps ≡ b ∷ qs
same_entries a b ps qs x y = cc

each_back : (n : ℕ) (es : List Entry) → AllByRecursion (IsEntry n) es → map (λ l. entry_from (parts 32 l)) (map entry_line es) ≡ es
each_back n [] are = refl
each_back n (e ∷ es) are = same_entries (entry_from (parts 32 (entry_line e))) e (map (λ l. entry_from (parts 32 l)) (map entry_line es)) es (entry_back n e are.0) (each_back n es are.1)

pub entries_back : (n : ℕ) (es : List Entry) → AllByRecursion (IsEntry n) es → entries_in (entries_text es) ≡ es
unfolding entries_text
entries_back n es are = ap (map (λ l. entry_from (parts 32 l))) (lines_back entry_line es (entries_above es)) ∙ each_back n es are

-- ---- indexes

ids_above : (os : List ℕ) → AllByRecursion (λ y. Above 47 y) (map hex16_text os)
ids_above [] = tt
ids_above (o ∷ os) = (oid_above o, ids_above os)

same_ids : (a b : ℕ) (ps qs : List ℕ) → a ≡ b → ps ≡ qs → a ∷ ps ≡ b ∷ qs
same_ids a b ps qs x y = cc

ids_back : (os : List ℕ) → AllByRecursion IsOid os → map number_of (map hex16_text os) ≡ os
ids_back [] all = refl
ids_back (o ∷ os) all = same_ids (number_of (hex16_text o)) o (map number_of (map hex16_text os)) os (oid_back o all.0) (ids_back os all.1)

list_back : (os : List ℕ) → has_oids os ≡ true → AllByRecursion IsOid os → map number_of (parts 44 (joined_by 44 (map hex16_text os))) ≡ os
list_back [] some all = absurd (let bad = some in cc)
list_back (o ∷ os) some all = ap (map number_of) (split_joined 44 (hex16_text o) (map hex16_text os) (lower 44 47 (hex16_text o) refl (oid_above o)) (each_lower 44 47 (map hex16_text os) refl (ids_above os))) ∙ ids_back (o ∷ os) all

list_above : (m : ℕ) → nat_lt m 44 ≡ true → (os : List ℕ) → Above m (joined_by 44 (map hex16_text os))
list_above m less [] = tt
list_above m less (o ∷ os) = join_above m 44 (hex16_text o) (map hex16_text os) less (lower m 47 (hex16_text o) (lower_one m 44 47 less refl) (oid_above o)) (each_lower m 47 (map hex16_text os) (lower_one m 44 47 less refl) (ids_above os))

abbrev posting_line : Posting → List ℕ
posting_line p = joined_by 32 (value_text p.key ∷ joined_by 44 (map hex16_text p.oids) ∷ [])

posting_above : (p : Posting) → Above 10 (posting_line p)
posting_above p = join_above 10 32 (value_text p.key) (joined_by 44 (map hex16_text p.oids) ∷ []) refl (lower 10 45 (value_text p.key) refl (value_above p.key)) (list_above 10 refl p.oids, tt)

postings_above : (ps : List Posting) → AllByRecursion (λ p. Above 10 (posting_line p)) ps
postings_above [] = tt
postings_above (p ∷ ps) = (posting_above p, postings_above ps)

one_posting : (p : Posting) (key : List ℕ) (os : List ℕ) → key ≡ p.key → os ≡ p.oids → ◌≡◌ {A = Posting} (record { key = key; oids = os }) p
one_posting p key os a b = sym (subst (λ (k : List ℕ). p ≡ record { key = k; oids = p.oids }) (sym a) refl ∙ subst (λ (qs : List ℕ). ◌≡◌ {A = Posting} (record { key = key; oids = p.oids }) (record { key = key; oids = qs })) (sym b) refl)

posting_back : (p : Posting) → IsPosting p → posting_from (parts 32 (posting_line p)) ≡ p
posting_back p is =
    ap posting_from (split_joined 32 (value_text p.key) (joined_by 44 (map hex16_text p.oids) ∷ []) (lower 32 45 (value_text p.key) refl (value_above p.key)) (list_above 32 refl p.oids, tt))
    ∙ one_posting p (value_in (value_text p.key)) (map number_of (parts 44 (joined_by 44 (map hex16_text p.oids)))) (value_back p.key is.key) (list_back p.oids is.some is.each)

same_postings : (a b : Posting) (ps qs : List Posting) → a ≡ b → ps ≡ qs → a ∷ ps ≡ b ∷ qs
same_postings a b ps qs x y = cc

postings_back : (ps : List Posting) → AllByRecursion IsPosting ps → map (λ l. posting_from (parts 32 l)) (map posting_line ps) ≡ ps
postings_back [] are = refl
postings_back (p ∷ ps) are = same_postings (posting_from (parts 32 (posting_line p))) p (map (λ l. posting_from (parts 32 l)) (map posting_line ps)) ps (posting_back p are.0) (postings_back ps are.1)

kind_above : (k : IndexKind) → Above 10 (kind_text k)
kind_above kinds.Field = (refl, (refl, (refl, (refl, (refl, tt)))))
kind_above kinds.Keyword = (refl, (refl, (refl, (refl, (refl, (refl, (refl, tt)))))))

kind_back : (k : IndexKind) → kind_in (kind_text k) ≡ k
kind_back kinds.Field = refl
kind_back kinds.Keyword = refl

one_index : (x : Index) (k : IndexKind) (ps : List Posting) → k ≡ x.kind → ps ≡ x.postings → ◌≡◌ {A = Index} (record { kind = k; postings = ps }) x
one_index x k ps a b = sym (subst (λ (j : IndexKind). x ≡ record { kind = j; postings = x.postings }) (sym a) refl ∙ subst (λ (qs : List Posting). ◌≡◌ {A = Index} (record { kind = k; postings = x.postings }) (record { kind = k; postings = qs })) (sym b) refl)

pub index_back : (x : Index) → AllByRecursion IsPosting x.postings → index_in (index_text x) ≡ x
unfolding index_text
index_back x are =
    ap index_from (headed_back posting_line (kind_text x.kind) x.postings (kind_above x.kind) (postings_above x.postings))
    ∙ one_index x (kind_in (kind_text x.kind)) (map (λ l. posting_from (parts 32 l)) (map posting_line x.postings)) (kind_back x.kind) (postings_back x.postings are)
