-- One step of a pass over the keys of an index.
use Rattle.std.proofs.Common.{ℕ, ◌≡◌, ◌≢◌, refl, Bool, true, false, List, [], ◌∷◌, ◌++◌, cond}
use Rattle.std.specs.Str.{bytes_eq}
use Rattle.std.proofs.lemmas.Slice.Eq.{bytes_eq-Decides}
use Rattle.catalog.specs.declared.document.Posting.{Posting}
use Rattle.catalog.specs.Placing.{without_oid}
use Rattle.catalog.specs.Postings.{has_oids, unposted}

pub unposted_more : (o : ℕ) (p : Posting) (ps : List Posting) → unposted o (p ∷ ps) ≡ unposted o (p ∷ []) ++ unposted o ps
unposted_more o p ps = at (has_oids (without_oid o p.oids))
  where
    less : Posting
    less = record p { oids = without_oid o p.oids }

    at : (b : Bool) → cond b (less ∷ unposted o ps) (unposted o ps) ≡ cond b (less ∷ []) [] ++ unposted o ps
    at true = refl
    at false = refl

pub is_same : (a b : List ℕ) → a ≡ b → bytes_eq a b ≡ true
is_same a b e = (bytes_eq-Decides a b).1 e

pub is_other : (a b : List ℕ) → a ≢ b → bytes_eq a b ≡ false
is_other a b e = at (bytes_eq a b) refl
  where
    at : (x : Bool) → bytes_eq a b ≡ x → x ≡ false
    at true is = absurd (e ((bytes_eq-Decides a b).0 is))
    at false is = refl
