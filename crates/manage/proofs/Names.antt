-- A set of texts, as a loop fills it.
use Rattle.std.proofs.Common.{◌≡◌, ◌∙◌, ℕ, suc, ◌+◌, ◌<◌, ◌≤◌, length, drop, get_or, add-one, drop-cons, ◌||◌, Bool, true, false, List, [], ◌∷◌, map, refl, sym, ap, nat_cmp, Ordering, Less, Equal, Greater}
use Rattle.std.specs.List.{list_any}
use Rattle.std.specs.Ordering.{is_eq}
use Rattle.std.specs.Str.{bytes_eq}
use Rattle.std.specs.BTreeMap.{is_at}
use Rattle.std.proofs.lemmas.Map.Text.{is_eq-slice_cmp}
use Rattle.std.proofs.lemmas.Slice.Eq.{bytes_eq-Decides}
use Rattle.manage.specs.Becoming.{is_among}
use Rattle.std.specs.Ordering.{match_ordering}
use Rattle.std.specs.Cmp.Lexicographic.{slice_cmp}
use Rattle.std.specs.BTreeSet.{BTreeSet, insert_key}
use denote.Ref.{Bor}
use Rattle.std.proofs.lemmas.List.{drop_all}
use Rattle.zobject.specs.Sorting.{sorted, sorted_with}
use Rattle.manage.specs.Naming.{has, keys_now}

abbrev order : Bor (List ℕ) → Bor (List ℕ) → Ordering
order x y = slice_cmp nat_cmp x.now y.now

texts : List (Bor (List ℕ)) → List (List ℕ)
texts ks = map (λ (k : Bor (List ℕ)). k.now) ks

put : (ks : List (Bor (List ℕ))) (k : Bor (List ℕ)) → texts (insert_key order ks k) ≡ insert_key (slice_cmp nat_cmp) (texts ks) k.now
unfolding texts
put [] k = refl
put (x ∷ xs) k = at (slice_cmp nat_cmp k.now x.now) (put xs k)
  where
    at : (o : Ordering) → texts (insert_key order xs k) ≡ insert_key (slice_cmp nat_cmp) (texts xs) k.now
        → texts (match_ordering o (k ∷ x ∷ xs) (x ∷ xs) (x ∷ insert_key order xs k)) ≡ match_ordering o (k.now ∷ x.now ∷ texts xs) (x.now ∷ texts xs) (x.now ∷ insert_key (slice_cmp nat_cmp) (texts xs) k.now)
    at Less e = refl
    at Equal e = refl
    at Greater e = ap (λ ts. x.now ∷ ts) e

-- the set has one text more
pub keys_more : (old new : BTreeSet (Bor (List ℕ))) (k : Bor (List ℕ)) → new.keys ≡ insert_key order old.keys k → keys_now new ≡ insert_key (slice_cmp nat_cmp) (keys_now old) k.now
unfolding texts
keys_more old new k e = ap texts e ∙ put old.keys k

-- ---- whether a text is in it

names : List ℕ → Bor (List ℕ) → Bool
names q = is_at (λ (k : Bor (List ℕ)). slice_cmp nat_cmp q k.now)

twice : (a b : Bool) → (a || b) ≡ (a || (a || b))
twice true b = refl
twice false b = refl

swap : (a b c : Bool) → (a || (b || c)) ≡ (b || (a || c))
swap true true c = refl
swap true false c = refl
swap false b c = refl

behind_or : (a b c : Bool) → ((a || b) || c) ≡ (b || (a || c))
behind_or true true c = refl
behind_or true false c = refl
behind_or false b c = refl

same : (k x : List ℕ) → slice_cmp nat_cmp k x ≡ Equal → k ≡ x
same k x e = (bytes_eq-Decides k x).0 (sym (is_eq-slice_cmp k x) ∙ ap is_eq e)

inserted : (q : List ℕ) (k : Bor (List ℕ)) (ks : List (Bor (List ℕ))) → list_any (names q) (insert_key order ks k) ≡ (bytes_eq q k.now || list_any (names q) ks)
unfolding names
inserted q k [] = ap (λ b. b || false) (is_eq-slice_cmp q k.now)
inserted q k (x ∷ xs) = (elim (slice_cmp nat_cmp k.now x.now) as (λ o. slice_cmp nat_cmp k.now x.now ≡ o → list_any (names q) (insert_key order (x ∷ xs) k) ≡ (bytes_eq q k.now || list_any (names q) (x ∷ xs))) [
  | Less ↦ λ e. rw e (ap (λ b. b || list_any (names q) (x ∷ xs)) (is_eq-slice_cmp q k.now))
  | Equal ↦ λ e. rw e (twice (names q x) (list_any (names q) xs) ∙ ap (λ b. b || list_any (names q) (x ∷ xs)) (ap (λ n. is_eq (slice_cmp nat_cmp q n)) (sym (same k.now x.now e)) ∙ is_eq-slice_cmp q k.now))
  | Greater ↦ λ e. rw e (ap (λ b. names q x || b) (inserted q k xs) ∙ swap (names q x) (bytes_eq q k.now) (list_any (names q) xs))
]) refl

-- one text more in the set is one less to come
pub has_more : (old new : BTreeSet (Bor (List ℕ))) (k : Bor (List ℕ)) (q : List ℕ) (rest : Bool) → new.keys ≡ insert_key order old.keys k → (has new q || rest) ≡ (has old q || (bytes_eq q k.now || rest))
unfolding names
has_more old new k q rest e = ap (λ b. b || rest) (ap (list_any (names q)) e ∙ inserted q k old.keys) ∙ behind_or (bytes_eq q k.now) (has old q) rest

-- what is still to come begins with the item
pub front_of : {A : Type 0} (xs : List A) (i : ℕ) (item : A) → i < length xs → item ≡ get_or xs i item → drop i xs ≡ item ∷ drop (i + 1) xs
front_of {A = A} xs i item lt is = rw (add-one, drop-cons xs i item lt) (ap (λ (x : A). x ∷ drop (suc i) xs) (sym is))

-- so after each text of a list, which it has in order
abbrev pub Fills : BTreeSet (Bor (List ℕ)) → List (List ℕ) → List (List ℕ) → Type 0
Fills set rest all = (sorted_with (keys_now set) rest ≡ sorted all) × ((q : List ℕ) → (has set q || is_among rest q) ≡ is_among all q)

pub text_more : (xs : List (List ℕ)) (i : ℕ) (item : List ℕ) (k : Bor (List ℕ)) (old new : BTreeSet (Bor (List ℕ))) → i < length xs → item ≡ get_or xs i item → k.now ≡ item → new.keys ≡ insert_key order old.keys k
    → Fills old (drop i xs) xs → Fills new (drop (i + 1) xs) xs
unfolding sorted_with
text_more xs i item k old new lt is named e h = (
  ap (λ (ks : List (List ℕ)). sorted_with ks (drop (i + 1) xs)) (keys_more old new k e ∙ ap (λ (t : List ℕ). insert_key (slice_cmp nat_cmp) (keys_now old) t) named)
      ∙ ap (λ (ys : List (List ℕ)). sorted_with (keys_now old) ys) (sym (front_of xs i item lt is)) ∙ h.0,
  λ q. has_more old new k q (is_among (drop (i + 1) xs) q) e ∙ ap (λ (t : List ℕ). has old q || (bytes_eq q t || is_among (drop (i + 1) xs) q)) named
      ∙ ap (λ (ys : List (List ℕ)). has old q || is_among ys q) (sym (front_of xs i item lt is)) ∙ h.1 q,
)

-- at the end the set has them all
pub all_sorted : (xs : List (List ℕ)) (i : ℕ) (set : BTreeSet (Bor (List ℕ))) → length xs ≤ i → sorted_with (keys_now set) (drop i xs) ≡ sorted xs → keys_now set ≡ sorted xs
unfolding sorted_with
all_sorted xs i set end h = ap (λ (ys : List (List ℕ)). sorted_with (keys_now set) ys) (sym (drop_all i xs end)) ∙ h
