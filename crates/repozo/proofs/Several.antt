-- Several disks, of which a loop takes one after the other.
use Rattle.std.proofs.Common.{◌≡◌, ℕ, zero, suc, ◌<◌, List, [], ◌∷◌, ◌++◌, map, length, get_or, set, take, drop, refl, sym, ap, subst, arith, inl, inr, take_at}
use Rattle.zbase.specs.Faults.{Counter, Counts, counts_as, counts_none, counts_then}
use Rattle.repozo.specs.Disks.{AllCalm, OneCounts}

module _ {S C : Type 0} (f : S → C) where
  -- what stays the same of one stays so of all
  pub same_set : (xs : List S) (i : ℕ) (x d : S) → i < length xs → f x ≡ f (get_or xs i d) → map f (set xs i x) ≡ map f xs
  same_set [] i x d lt e = refl
  same_set (y ∷ ys) zero x d lt e = ap (λ (c : C). c ∷ map f ys) e
  same_set (y ∷ ys) (suc i) x d lt e = ap (λ (cs : List C). f y ∷ cs) (same_set ys i x d (omega (arith, lt)) e)

module _ {S : Type 0} (counter : S → Counter) where
  pub calm_none : (xs : List S) → AllCalm (map counter xs) (map counter xs)
  calm_none [] = tt
  calm_none (x ∷ xs) = (counts_none (counter x) ⊥ (λ n. n), calm_none xs)

  -- one disk more that didn't fail
  pub calm_set : (os xs : List S) (i : ℕ) (x d : S) → AllCalm (map counter os) (map counter xs) → i < length xs → Counts (counter (get_or xs i d)) (counter x) ⊥ → AllCalm (map counter os) (map counter (set xs i x))
  calm_set [] [] i x d calm lt one = calm
  calm_set [] (y ∷ ys) i x d calm lt one = absurd calm
  calm_set (o ∷ os) [] i x d calm lt one = absurd calm
  calm_set (o ∷ os) (y ∷ ys) zero x d calm lt one = (counts_then calm.0 (λ n. n) one, calm.1)
  calm_set (o ∷ os) (y ∷ ys) (suc i) x d calm lt one = (calm.0, calm_set os ys i x d calm.1 (omega (arith, lt)) one)

  -- the first that may have failed
  pub one_set : {F : Type 0} (os xs : List S) (i : ℕ) (x d : S) → AllCalm (map counter os) (map counter xs) → i < length xs → Counts (counter (get_or xs i d)) (counter x) F → OneCounts (map counter os) (map counter (set xs i x)) F
  one_set [] [] i x d calm lt one = absurd (omega (arith, lt))
  one_set [] (y ∷ ys) i x d calm lt one = absurd calm
  one_set (o ∷ os) [] i x d calm lt one = absurd calm
  one_set (o ∷ os) (y ∷ ys) zero x d calm lt one = inl (counts_then calm.0 (λ n. n) one, calm.1)
  one_set (o ∷ os) (y ∷ ys) (suc i) x d calm lt one = inr (calm.0, one_set os ys i x d calm.1 (omega (arith, lt)) one)

  pub one_calm : {F : Type 0} (os xs : List S) → AllCalm (map counter os) (map counter xs) → (F → ⊥) → OneCounts (map counter os) (map counter xs) F
  one_calm [] [] calm none = none
  one_calm [] (y ∷ ys) calm none = absurd calm
  one_calm (o ∷ os) [] calm none = absurd calm
  one_calm (o ∷ os) (y ∷ ys) calm none = inr (calm.0, one_calm os ys calm.1 none)

-- the same fault, told in other words
pub one_as : {F G : Type 0} (os ns : List Counter) → (F → G) → (G → F) → OneCounts os ns F → OneCounts os ns G
one_as [] [] to from h = λ g. h (from g)
one_as [] (n ∷ ns) to from h = absurd h
one_as (o ∷ os) [] to from h = absurd h
one_as (o ∷ os) (n ∷ ns) to from (inl h) = inl (counts_as h.0 to from, h.1)
one_as (o ∷ os) (n ∷ ns) to from (inr h) = inr (h.0, one_as os ns to from h.1)

-- ---- one call behind another

calm_then : (xs bs cs : List Counter) → AllCalm xs bs → AllCalm bs cs → AllCalm xs cs
calm_then [] [] [] p q = tt
calm_then [] [] (c ∷ cs) p q = absurd q
calm_then [] (b ∷ bs) cs p q = absurd p
calm_then (a ∷ xs) [] cs p q = absurd p
calm_then (a ∷ xs) (b ∷ bs) [] p q = absurd q
calm_then (a ∷ xs) (b ∷ bs) (c ∷ cs) p q = (counts_then p.0 (λ n. n) q.0, calm_then xs bs cs p.1 q.1)

calm_of : {F : Type 0} (os ns : List Counter) → (F → ⊥) → OneCounts os ns F → AllCalm os ns
calm_of [] [] none h = tt
calm_of [] (n ∷ ns) none h = absurd h
calm_of (o ∷ os) [] none h = absurd h
calm_of (o ∷ os) (n ∷ ns) none (inl h) = (counts_as h.0 none (λ e. absurd e), h.1)
calm_of (o ∷ os) (n ∷ ns) none (inr h) = (h.0, calm_of os ns none h.1)

one_after : (G : Type 0) (xs bs cs : List Counter) → AllCalm xs bs → OneCounts bs cs G → OneCounts xs cs G
one_after G [] [] [] p q = q
one_after G [] [] (c ∷ cs) p q = absurd q
one_after G [] (b ∷ bs) cs p q = absurd p
one_after G (a ∷ xs) [] cs p q = absurd p
one_after G (a ∷ xs) (b ∷ bs) [] p q = absurd q
one_after G (a ∷ xs) (b ∷ bs) (c ∷ cs) p (inl q) = inl (counts_then p.0 (λ n. n) q.0, calm_then xs bs cs p.1 q.1)
one_after G (a ∷ xs) (b ∷ bs) (c ∷ cs) p (inr q) = inr (counts_then p.0 (λ n. n) q.0, one_after G xs bs cs p.1 q.1)

pub one_then : {F : Type 0} (G : Type 0) (xs bs cs : List Counter) → OneCounts xs bs F → (F → ⊥) → OneCounts bs cs G → OneCounts xs cs G
one_then G xs bs cs h none k = one_after G xs bs cs (calm_of xs bs none h) k

-- a slice of a vector that is written back
pub back_counts : {S : Type 0} (F : Type 0) (count : S → Counter) (items old new : List S) (n : ℕ) → old ≡ items → length new ≡ n → OneCounts (map count old) (map count new) F → OneCounts (map count items) (map count (take n (new ++ drop (length new) items))) F
back_counts {S = S} F count items old new n same long h =
    subst (λ (ns : List S). OneCounts (map count items) (map count ns) F) (sym (take_at new (drop (length new) items) n long)) (subst (λ (os : List S). OneCounts (map count os) (map count new) F) same h)
