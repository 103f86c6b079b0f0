-- What an index says of objects, and how it changes where an object gets other values.
--
-- Zope Book, "Searching and Categorizing Content".
use Rattle.std.specs.Prelude.{ℕ, nat_eq, nat_lt, Bool, true, false, not, ◌&&◌, List, [], ◌∷◌, ◌++◌, map, get_or, flat_map, if◌then◌else◌}
use Rattle.std.specs.List.{filter, list_any}
use Rattle.std.specs.Str.{bytes_eq}
use Rattle.zobject.specs.Rules.{comes_before}
use Rattle.catalog.specs.declared.document.Posting.{Posting}
use Rattle.catalog.specs.declared.document.Entry.{Entry}
use Rattle.zobject.specs.Changes.{put}
use Rattle.catalog.specs.Placing.{is_among, without_oid, with_oid, has_text}

-- ---- an index

-- the object stands under the key
abbrev pub is_posted : List ℕ → ℕ → List Posting → Bool
is_posted key o postings = list_any (λ (p : Posting). bytes_eq key p.key && is_among o p.oids) postings

-- the objects under a key
abbrev pub oids_under : List ℕ → List Posting → List ℕ
oids_under key postings = flat_map (λ (p : Posting). if bytes_eq key p.key then p.oids else []) postings

-- by rising bytes
abbrev pub key_before : Posting → Posting → Bool
key_before p q = comes_before p.key q.key

-- the object under one key more
abbrev pub posted : ℕ → List ℕ → List Posting → List Posting
posted o key postings = put key_before (record { key = key; oids = with_oid o (oids_under key postings) }) postings

abbrev pub posted_all : ℕ → List (List ℕ) → List Posting → List Posting
posted_all o [] postings = postings
posted_all o (key ∷ keys) postings = posted_all o keys (posted o key postings)

abbrev pub has_oids : List ℕ → Bool
has_oids [] = false
has_oids (o ∷ os) = true

-- the object under no key; keys without objects are dropped
abbrev pub unposted : ℕ → List Posting → List Posting
unposted o postings = filter (λ (p : Posting). has_oids p.oids) (map (λ (p : Posting). record p { oids = without_oid o p.oids }) postings)

-- the object under these keys alone
abbrev pub reposted : ℕ → List (List ℕ) → List Posting → List Posting
reposted o keys postings = posted_all o keys (unposted o postings)

-- ---- what is catalogued

-- the values of an entry for an index
abbrev pub values_for : ℕ → Entry → List (List ℕ)
values_for i e = get_or e.values i []

-- the key is among the values of the object for an index
abbrev pub is_valued : ℕ → List ℕ → ℕ → List Entry → Bool
is_valued i key o entries = list_any (λ (e : Entry). nat_eq o e.oid && has_text key (values_for i e)) entries

abbrev pub without_entry : ℕ → List Entry → List Entry
without_entry o entries = filter (λ (e : Entry). not (nat_eq o e.oid)) entries

abbrev pub oid_before : Entry → Entry → Bool
oid_before d e = nat_lt d.oid e.oid

-- in place of an earlier one of its object
abbrev pub with_entry : Entry → List Entry → List Entry
with_entry e entries = put oid_before e entries

-- a column more, in which nothing has values
abbrev pub widened : List Entry → List Entry
widened entries = map (λ (e : Entry). record e { values = e.values ++ [] ∷ [] }) entries
