-- What a search finds.
use Rattle.std.specs.Prelude.{ℕ, zero, suc, Bool, List, [], ◌∷◌, map, flat_map}
use Rattle.std.specs.List.{filter, list_all, list_any}
use Rattle.catalog.specs.declared.document.Entry.{Entry}
use Rattle.catalog.specs.declared.document.Index.{Index}
use Rattle.catalog.specs.declared.document.Posting.{Posting}
use Rattle.catalog.specs.declared.document.Sought.{Sought}
use Rattle.catalog.specs.Placing.{has_text, is_among, with_oid}
use Rattle.catalog.specs.Postings.{oids_under, values_for}

-- ---- by the entries

-- one of the given values at least is among the entry's
abbrev pub has_one : Sought → Entry → Bool
has_one s e = list_any (λ key. has_text key (values_for s.index e)) s.given

-- the entries that have one of the given values for each index that is named
abbrev pub is_hit : List Sought → Entry → Bool
is_hit sought e = list_all (λ s. has_one s e) sought

abbrev pub ids_of : List Entry → List ℕ
ids_of entries = map (λ (e : Entry). e.oid) entries

abbrev pub hits : List Sought → List Entry → List ℕ
hits sought entries = ids_of (filter (is_hit sought) entries)

-- ---- by the indexes

abbrev pub postings_of : ℕ → List Index → List Posting
postings_of i [] = []
postings_of zero (x ∷ xs) = x.postings
postings_of (suc i) (x ∷ xs) = postings_of i xs

-- the ids by rising number, each once
abbrev pub sorted_ids : List ℕ → List ℕ
sorted_ids [] = []
sorted_ids (o ∷ os) = with_oid o (sorted_ids os)

-- the objects under one of the keys
abbrev pub ids_under : List (List ℕ) → List Posting → List ℕ
ids_under keys postings = sorted_ids (flat_map (λ key. oids_under key postings) keys)

abbrev pub found_by : List Index → Sought → List ℕ
found_by indexes s = ids_under s.given (postings_of s.index indexes)

-- the objects that the first and each further one of the named indexes finds
abbrev pub found_by_all : List Index → Sought → List Sought → List ℕ
found_by_all indexes s further = filter (λ o. list_all (λ t. is_among o (found_by indexes t)) further) (found_by indexes s)
