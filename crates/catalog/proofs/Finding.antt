-- What the functions of a search answer, from what those below them do.
use Rattle.std.proofs.Common.{ℕ, ◌<◌, ◌≡◌, ◌∙◌, ap, List, ◌∷◌, flat_map, length, Result, Ok, Err}
use Rattle.std.specs.Prelude.{IfOk}
use Rattle.std.specs.List.{AllByRecursion}
use Rattle.std.specs.List.Sorted.{IsPermutation, IsSorted}
use Rattle.std.specs.Ordering.{nat_cmp}
use Rattle.catalog.specs.declared.document.Contents.{Contents}
use Rattle.catalog.specs.declared.document.Posting.{Posting}
use Rattle.catalog.specs.declared.document.Sought.{Sought}
use Rattle.catalog.specs.Agreeing.{Agrees}
use Rattle.catalog.specs.Hits.{found_by_all, hits, ids_under, sorted_ids}
use Rattle.catalog.specs.Merging.{once}
use Rattle.catalog.specs.Postings.{oids_under}
use Rattle.catalog.proofs.Found.{searches_find}
use Rattle.catalog.proofs.Searched.{sorted_once}

pub gathered : {M : Type 0} (keys : List (List ℕ)) (ps : List Posting) (ids sorted : List ℕ) (r : Result (List ℕ) M) → ids ≡ flat_map (λ key. oids_under key ps) keys → IsPermutation ids sorted → IsSorted nat_cmp sorted → IfOk r (λ all. all ≡ once sorted) →
    IfOk r (λ all. all ≡ ids_under keys ps)
gathered keys ps ids sorted (Ok all) is moved up found = found ∙ sorted_once ids sorted moved up ∙ ap sorted_ids is
gathered keys ps ids sorted (Err e) is moved up found = tt

pub finds_hits : {M : Type 0} (c : Contents) (s : Sought) (further : List Sought) (r : Result (List ℕ) M) → IfOk r (λ oids. oids ≡ found_by_all c.indexes s further) → Agrees c → s.index < length c.indexes → AllByRecursion (λ (t : Sought). t.index < length c.indexes) further →
    IfOk r (λ oids. oids ≡ hits (s ∷ further) c.entries)
finds_hits c s further (Ok oids) is agrees few known = is ∙ searches_find c s further agrees few known
finds_hits c s further (Err e) is agrees few known = tt
