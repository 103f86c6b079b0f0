-- Lists that rise: what is left of them, an item put in, and that two of them with the same items are the same.
use Rattle.std.proofs.Common.{ℕ, ◌≡◌, ◌∙◌, refl, sym, ap, arith, Bool, true, false, not, ◌&&◌, ◌||◌, List, [], ◌∷◌, ◌++◌, map, cond, nat_eq, nat_lt}
use Rattle.std.specs.List.{filter, AllByRecursion}
use Rattle.std.proofs.lemmas.Bool.Decides.{nat_tests}
use Rattle.std.proofs.Common.{Ordering, Less, Equal, Greater}
use Rattle.std.specs.Ordering.{nat_cmp, is_lt}
use Rattle.std.specs.Cmp.Lexicographic.{slice_cmp}
use Rattle.std.proofs.lemmas.Cmp.{nat_list_cmp_total}
use Rattle.catalog.specs.declared.document.Posting.{Posting}
use Rattle.catalog.specs.declared.document.Entry.{Entry}
use Rattle.catalog.specs.Postings.{key_before, oid_before}
use Rattle.zobject.specs.Rules.{Rise, comes_before}
use Rattle.zobject.specs.Changes.{put}
use Rattle.catalog.specs.Placing.{is_among}
use Rattle.catalog.specs.Hits.{sorted_ids}

pub each_filtered : {X : Type 0} (P : X → Type 0) (test : X → Bool) (xs : List X) → AllByRecursion P xs → AllByRecursion P (filter test xs)
each_filtered P test [] all = tt
each_filtered P test (x ∷ xs) all =
    let deeper = each_filtered P test xs all.1 in
    elim (test x) as (λ b. AllByRecursion P (cond b (x ∷ filter test xs) (filter test xs))) [ true ↦ (all.0, deeper) | false ↦ deeper ]

pub each_passes : {X : Type 0} (test : X → Bool) (xs : List X) → AllByRecursion (λ x. test x ≡ true) (filter test xs)
each_passes test [] = tt
each_passes test (x ∷ xs) = at (test x) refl (each_passes test xs)
  where
    at : (b : Bool) → test x ≡ b → AllByRecursion (λ y. test y ≡ true) (filter test xs) → AllByRecursion (λ y. test y ≡ true) (cond b (x ∷ filter test xs) (filter test xs))
    at true e rest = (e, rest)
    at false e rest = rest

module _ {X : Type 0} (before : X → X → Bool) (trans : (x y z : X) → before x y ≡ true → before y z ≡ true → before x z ≡ true) where
  abbrev pub Above : X → List X → Type 0
  Above x ys = AllByRecursion (λ y. before x y ≡ true) ys

  above_more : (x y : X) (ys : List X) → before x y ≡ true → Above y ys → Above x ys
  above_more x y [] e all = tt
  above_more x y (z ∷ zs) e all = (trans x y z e all.0, above_more x y zs e all.1)

  pub rise_above : (x : X) (ys : List X) → Rise before (x ∷ ys) → Above x ys
  rise_above x [] rise = tt
  rise_above x (y ∷ ys) rise = (rise.0, above_more x y ys rise.0 (rise_above y ys rise.1))

  pub rise_behind : (x : X) (ys : List X) → Rise before (x ∷ ys) → Rise before ys
  rise_behind x [] rise = tt
  rise_behind x (y ∷ ys) rise = rise.1

  pub above_rise : (x : X) (ys : List X) → Above x ys → Rise before ys → Rise before (x ∷ ys)
  above_rise x [] all rise = tt
  above_rise x (y ∷ ys) all rise = (all.0, rise)

  pub filter_rise : (keep : X → Bool) (xs : List X) → Rise before xs → Rise before (filter keep xs)
  filter_rise keep [] rise = tt
  filter_rise keep (x ∷ xs) rise = at (keep x) (filter_rise keep xs (rise_behind x xs rise)) (each_filtered (λ y. before x y ≡ true) keep xs (rise_above x xs rise))
    where
      at : (b : Bool) → Rise before (filter keep xs) → Above x (filter keep xs) → Rise before (cond b (x ∷ filter keep xs) (filter keep xs))
      at true rest all = above_rise x (filter keep xs) all rest
      at false rest all = rest

  pub joined_rise : (xs : List X) (y : X) (ys : List X) → Rise before xs → AllByRecursion (λ x. before x y ≡ true) xs → Rise before (y ∷ ys) → Rise before (xs ++ y ∷ ys)
  joined_rise [] y ys rise all behind = behind
  joined_rise (x ∷ []) y ys rise all behind = (all.0, behind)
  joined_rise (x ∷ z ∷ xs) y ys rise all behind = (rise.0, joined_rise (z ∷ xs) y ys rise.1 all.1 behind)

  pub put_rise : (x : X) (xs : List X) → Rise before xs → Rise before (put before x xs)
  put_rise x xs rise =
      joined_rise (filter (λ y. before y x) xs) x (filter (λ y. before x y) xs) (filter_rise (λ y. before y x) xs rise) (each_passes (λ y. before y x) xs)
      (above_rise x (filter (λ y. before x y) xs) (each_passes (λ y. before x y) xs) (filter_rise (λ y. before x y) xs rise))

-- ---- ids

pub lt_chain : (x y z : ℕ) → nat_lt x y ≡ true → nat_lt y z ≡ true → nat_lt x z ≡ true
lt_chain x y z a b = grind (arith, nat_tests)

pub sorted_rise : (os : List ℕ) → Rise nat_lt (sorted_ids os)
sorted_rise [] = tt
sorted_rise (o ∷ os) = put_rise nat_lt lt_chain o (sorted_ids os) (sorted_rise os)

-- nothing is among ids that are all greater
pub not_among : (o : ℕ) (os : List ℕ) → AllByRecursion (λ p. nat_lt o p ≡ true) os → is_among o os ≡ false
not_among o [] all = refl
not_among o (p ∷ ps) all = rw (other all.0) (not_among o ps all.1)
  where
    other : nat_lt o p ≡ true → nat_eq o p ≡ false
    other e = grind (arith, nat_tests)

-- an id that is the least of one is the least of the other
pub no_less : (x y : ℕ) (ys : List ℕ) → Rise nat_lt (y ∷ ys) → is_among x (y ∷ ys) ≡ true → nat_lt x y ≡ false
no_less x y ys rise is = at (nat_lt x y) refl
  where
    above : (zs : List ℕ) → nat_lt x y ≡ true → AllByRecursion (λ p. nat_lt y p ≡ true) zs → AllByRecursion (λ p. nat_lt x p ≡ true) zs
    above [] e all = tt
    above (z ∷ zs) e all = (lt_chain x y z e all.0, above zs e all.1)

    at : (b : Bool) → nat_lt x y ≡ b → b ≡ false
    at false e = refl
    at true e = absurd (let none = not_among x (y ∷ ys) (e, above ys e (rise_above nat_lt lt_chain y ys rise)) in cc)

same_least : (x y : ℕ) → nat_lt x y ≡ false → nat_lt y x ≡ false → x ≡ y
same_least x y a b = grind (arith, nat_tests)

self_same : (x : ℕ) → nat_eq x x ≡ true
self_same x = grind (arith, nat_tests)

pub first_among : (x : ℕ) (xs : List ℕ) → is_among x (x ∷ xs) ≡ true
first_among x xs = rw (self_same x) refl

self_equal : (o z : ℕ) → nat_eq o z ≡ true → o ≡ z
self_equal o z e = grind (arith, nat_tests)

kept : (c : Bool) → (c && true) ≡ c
kept true = refl
kept false = refl

-- what stands behind the first
behind_first : (z : ℕ) (zs : List ℕ) → Rise nat_lt (z ∷ zs) → (o : ℕ) → is_among o zs ≡ (is_among o (z ∷ zs) && not (nat_eq o z))
behind_first z zs rise o = at (nat_eq o z) refl
  where
    at : (b : Bool) → nat_eq o z ≡ b → is_among o zs ≡ ((b || is_among o zs) && not b)
    at true e = rw (self_equal o z e) (not_among z zs (rise_above nat_lt lt_chain z zs rise))
    at false e = sym (kept (is_among o zs))

same_parts : (x y : ℕ) (xs ys : List ℕ) → x ≡ y → xs ≡ ys → x ∷ xs ≡ y ∷ ys
same_parts x y xs ys a b = cc

-- Two lists of rising ids in which the same ids stand are one.
pub rising_same : (xs ys : List ℕ) → Rise nat_lt xs → Rise nat_lt ys → ((o : ℕ) → is_among o xs ≡ is_among o ys) → xs ≡ ys
rising_same [] [] rise other same = refl
rising_same [] (y ∷ ys) rise other same = absurd (let a = same y in let b = first_among y ys in cc)
rising_same (x ∷ xs) [] rise other same = absurd (let a = same x in let b = first_among x xs in cc)
rising_same (x ∷ xs) (y ∷ ys) rise other same =
    let heads : x ≡ y = same_least x y (no_less x y ys other (sym (same x) ∙ first_among x xs)) (no_less y x xs rise (same y ∙ first_among y ys)) in
    same_parts x y xs ys heads (rising_same xs ys (rise_behind nat_lt lt_chain x xs rise) (rise_behind nat_lt lt_chain y ys other)
    (λ o. behind_first x xs rise o ∙ ap (λ b. b && not (nat_eq o x)) (same o) ∙ ap (λ z. is_among o (y ∷ ys) && not (nat_eq o z)) heads ∙ sym (behind_first y ys other o)))

-- ---- other lists that rise

pub each_joined : {X : Type 0} (P : X → Type 0) (xs ys : List X) → AllByRecursion P xs → AllByRecursion P ys → AllByRecursion P (xs ++ ys)
each_joined P [] ys all others = others
each_joined P (x ∷ xs) ys all others = (all.0, each_joined P xs ys all.1 others)

pub each_put : {X : Type 0} (P : X → Type 0) (before : X → X → Bool) (x : X) (xs : List X) → P x → AllByRecursion P xs → AllByRecursion P (put before x xs)
each_put P before x xs is all =
    each_joined P (filter (λ y. before y x) xs) (x ∷ filter (λ y. before x y) xs) (each_filtered P (λ y. before y x) xs all) (is, each_filtered P (λ y. before x y) xs all)

pub each_mapped : {X Y : Type 0} (P : X → Type 0) (Q : Y → Type 0) (f : X → Y) → ((x : X) → P x → Q (f x)) → (xs : List X) → AllByRecursion P xs → AllByRecursion Q (map f xs)
each_mapped P Q f step [] all = tt
each_mapped P Q f step (x ∷ xs) all = (step x all.0, each_mapped P Q f step xs all.1)

-- items that stand to one another as they did
pub rise_mapped : {X Y : Type 0} (before : X → X → Bool) (after : Y → Y → Bool) (f : X → Y) → ((x y : X) → before x y ≡ true → after (f x) (f y) ≡ true) → (xs : List X) → Rise before xs → Rise after (map f xs)
rise_mapped before after f step [] rise = tt
rise_mapped before after f step (x ∷ []) rise = tt
rise_mapped before after f step (x ∷ y ∷ ys) rise = (step x y rise.0, rise_mapped before after f step (y ∷ ys) rise.1)

-- ---- keys and entries

less_is : (o : Ordering) → is_lt o ≡ true → o ≡ Less
less_is Less e = refl
less_is Equal e = absurd (let bad = e in cc)
less_is Greater e = absurd (let bad = e in cc)

pub key_chain : (a b c : List ℕ) → comes_before a b ≡ true → comes_before b c ≡ true → comes_before a c ≡ true
key_chain a b c x y = ap is_lt (nat_list_cmp_total.trans a b c (less_is (slice_cmp nat_cmp a b) x) (less_is (slice_cmp nat_cmp b c) y))

pub posting_chain : (p q r : Posting) → key_before p q ≡ true → key_before q r ≡ true → key_before p r ≡ true
posting_chain p q r x y = key_chain p.key q.key r.key x y

pub entry_chain : (a b c : Entry) → oid_before a b ≡ true → oid_before b c ≡ true → oid_before a c ≡ true
entry_chain a b c x y = lt_chain a.oid b.oid c.oid x y
