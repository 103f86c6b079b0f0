-- What a packed history keeps.
use Rattle.std.proofs.Common.{◌≡◌, ℕ, ◌<◌, ◌≤◌, ◌==◌, Bool, true, false, cond, ◌&&◌, ◌||◌, not, max, List, [], ◌∷◌, ◌++◌, Option, Some, None, refl, sym, ap, ap₂, ◌∙◌, subst, arith, nat_lt, nat_le, map, filter, find, flat_map, lt-ltb, le-leb, leb-false, eqb-true, ne_eqb, ◌≢◌}
use Rattle.std.proofs.lemmas.List.Elements.{filter-append}
use Rattle.std.proofs.lemmas.List.Folds.{list_any-append}
use Rattle.std.proofs.lemmas.Grind.{flat_map-append}
use Rattle.std.proofs.lemmas.Bool.Decides.{nat_tests}
use Rattle.std.specs.List.{list_any, AllByRecursion}
use Rattle.zbase.specs.History.{Value, Transaction, History, RisesFrom, IsHistory}
use Rattle.zbase.specs.HistoryLaws.{last_after-append, rises_append, rises_last, rises_rest, rises_front}
use Rattle.zbase.specs.Values.{Revision, revisions_of, revisions, later, newest, value_of, serial_of, last_after, last, upto, before, transaction}
use Rattle.evaluator.specs.declared.fact.Part.{Part}
use Rattle.evaluator.specs.Facts.{last_records, part_of, parts_of}
use Rattle.packing.specs.Reachable.{behind, IsClosed, IsKeep, Linking}
use Rattle.packing.specs.Packed.{has_record, records_in, standing, is_empty, with_records, put_before, thinned, packed}

-- ---- newest revisions

later_none : (r : Option Revision) → later None r ≡ r
later_none None = refl
later_none (Some r) = refl

later_assoc : (a b c : Option Revision) → later a (later b c) ≡ later (later a b) c
later_assoc a b None = refl
later_assoc a b (Some r) = refl

pub newest-append : (rs ss : List Revision) (o : ℕ) → newest (rs ++ ss) o ≡ later (newest rs o) (newest ss o)
newest-append [] ss o = sym (later_none (newest ss o))
newest-append (r ∷ rs) ss o = rw (newest-append rs ss o) (later_assoc (cond (r.oid == o) (Some r) None) (newest rs o) (newest ss o))

-- the revision of a record in the transaction with this id
abbrev revised : ℕ → ℕ × Value → Revision
revised t r = record { tid = t; oid = r.0; value = r.1 }

none_of : (t o : ℕ) (rs : List (ℕ × Value)) → has_record o rs ≡ false → newest (map (revised t) rs) o ≡ None
none_of t o [] lacks = refl
none_of t o (r ∷ rs) lacks = go (r.0 == o) lacks (none_of t o rs)
  where
    go : (b : Bool) → (b || has_record o rs) ≡ false → (has_record o rs ≡ false → newest (map (revised t) rs) o ≡ None) → later (cond b (Some (revised t r)) None) (newest (map (revised t) rs) o) ≡ None
    go true e deeper = absurd cc
    go false e deeper = rw (deeper e) refl

-- a record that isn't told apart is the newest, or one behind it
abbrev IsSome : Option Revision → Type 0
IsSome o = (r : Revision) × (o ≡ Some r)

some_later : (a b : Option Revision) → IsSome b → IsSome (later a b)
some_later a b s = (s.0, rw s.1 refl)

some_first : (a : Revision) (b : Option Revision) → IsSome (later (Some a) b)
some_first a None = (a, refl)
some_first a (Some b) = (b, refl)

some_of : (t o : ℕ) (rs : List (ℕ × Value)) → has_record o rs ≡ true → IsSome (newest (map (revised t) rs) o)
some_of t o [] has = absurd cc
some_of t o (r ∷ rs) has = go (r.0 == o) has (some_of t o rs)
  where
    go : (b : Bool) → (b || has_record o rs) ≡ true → (has_record o rs ≡ true → IsSome (newest (map (revised t) rs) o)) → IsSome (later (cond b (Some (revised t r)) None) (newest (map (revised t) rs) o))
    go true e deeper = some_first (revised t r) (newest (map (revised t) rs) o)
    go false e deeper = some_later None (newest (map (revised t) rs) o) (deeper e)

hides : (a b c : Option Revision) → IsSome c → later a c ≡ later b c
hides a b c s = rw s.1 refl

-- ---- of the records of a transaction, those that stand are enough for a kept object without a later record

enough : (keep : ℕ → Bool) (t o : ℕ) (rs behind : List (ℕ × Value)) → keep o ≡ true → has_record o behind ≡ false → newest (map (revised t) (standing keep rs behind)) o ≡ newest (map (revised t) rs) o
enough keep t o [] behind kept none = refl
enough keep t o (r ∷ rs) behind kept none = go (r.0 == o) (keep r.0) (has_record r.0 (rs ++ behind)) refl refl refl (enough keep t o rs behind kept none)
  where
    old : Option Revision
    old = newest (map (revised t) rs) o

    go : (is k more : Bool) → (r.0 == o) ≡ is → keep r.0 ≡ k → has_record r.0 (rs ++ behind) ≡ more → newest (map (revised t) (standing keep rs behind)) o ≡ newest (map (revised t) rs) o
        → newest (map (revised t) (cond (k && not more) (r ∷ standing keep rs behind) (standing keep rs behind))) o ≡ later (cond is (Some (revised t r)) None) (newest (map (revised t) rs) o)
    go is true false e1 e2 e3 deeper = rw (e1) (ap (later (cond is (Some (revised t r)) None)) deeper)
    go false false more e1 e2 e3 deeper = deeper ∙ sym (later_none (newest (map (revised t) rs) o))
    go false true true e1 e2 e3 deeper = deeper ∙ sym (later_none (newest (map (revised t) rs) o))
    go true false more e1 e2 e3 deeper =
        let same : r.0 ≡ o = eqb-true r.0 o e1 in
        let k : keep r.0 ≡ true = ap keep same ∙ kept in
        absurd cc
    go true true true e1 e2 e3 deeper =
        let same : r.0 ≡ o = eqb-true r.0 o e1 in
        let here : has_record o (rs ++ behind) ≡ true = ap (λ p. has_record p (rs ++ behind)) (sym same) ∙ e3 in
        let parts : (has_record o rs || has_record o behind) ≡ true = sym (list_any-append (λ (s : ℕ × Value). s.0 == o) rs behind) ∙ here in
        deeper ∙ sym (later_none (newest (map (revised t) rs) o)) ∙ hides None (Some (revised t r)) (newest (map (revised t) rs) o) (some_of t o rs (front (has_record o rs) (has_record o behind) parts none))
      where
        front : (a b : Bool) → (a || b) ≡ true → b ≡ false → a ≡ true
        front true b e f = refl
        front false b e f = absurd cc

-- ---- the transactions that stand are enough for a kept object

-- records of transactions, each as a revision of its own
some_later_record : (o : ℕ) (xs : List Transaction) → has_record o (records_in xs) ≡ true → IsSome (newest (flat_map revisions_of xs) o)
some_later_record o [] has = absurd cc
some_later_record o (x ∷ xs) has = go (has_record o (records_in xs)) refl (some_later_record o xs)
  where
    e : (has_record o x.records || has_record o (records_in xs)) ≡ true
    e = sym (list_any-append (λ (s : ℕ × Value). s.0 == o) x.records (records_in xs)) ∙ has

    split : newest (flat_map revisions_of (x ∷ xs)) o ≡ later (newest (revisions_of x) o) (newest (flat_map revisions_of xs) o)
    split = newest-append (revisions_of x) (flat_map revisions_of xs) o

    first : (a b : Bool) → (a || b) ≡ true → b ≡ false → a ≡ true
    first true b p q = refl
    first false b p q = absurd cc

    equal_some : (a b : Option Revision) → a ≡ b → IsSome b → IsSome a
    equal_some a b p s = (s.0, p ∙ s.1)

    or_later : (a b : Option Revision) → IsSome a → IsSome (later a b)
    or_later a None s = s
    or_later a (Some r) s = (r, refl)

    go : (b : Bool) → has_record o (records_in xs) ≡ b → (has_record o (records_in xs) ≡ true → IsSome (newest (flat_map revisions_of xs) o)) → IsSome (newest (flat_map revisions_of (x ∷ xs)) o)
    go true is deeper = equal_some _ _ split (some_later (newest (revisions_of x) o) (newest (flat_map revisions_of xs) o) (deeper is))
    go false is deeper = equal_some _ _ split (or_later (newest (revisions_of x) o) (newest (flat_map revisions_of xs) o) (some_of x.tid o x.records (first (has_record o x.records) (has_record o (records_in xs)) e is)))

-- what stands of a transaction stands also where it is left out for want of records
revisions_put : (x : Transaction) (rs : List (ℕ × Value)) (is_last : Bool) (xs : List Transaction) → flat_map revisions_of (put_before x rs is_last xs) ≡ map (revised x.tid) rs ++ flat_map revisions_of xs
revisions_put x [] true xs = refl
revisions_put x [] false xs = refl
revisions_put x (r ∷ rs) is_last xs = refl

pub thinned_enough : (keep : ℕ → Bool) (o : ℕ) (xs : List Transaction) → keep o ≡ true → newest (flat_map revisions_of (thinned keep xs)) o ≡ newest (flat_map revisions_of xs) o
thinned_enough keep o [] kept = refl
thinned_enough keep o (x ∷ xs) kept =
    ap (λ rs. newest rs o) (revisions_put x stand (is_empty xs) (thinned keep xs))
    ∙ newest-append (map (revised x.tid) stand) (flat_map revisions_of (thinned keep xs)) o
    ∙ ap (later (newest (map (revised x.tid) stand) o)) (thinned_enough keep o xs kept)
    ∙ go (has_record o (records_in xs)) refl
    ∙ sym (newest-append (revisions_of x) (flat_map revisions_of xs) o)
  where
    stand : List (ℕ × Value)
    stand = standing keep x.records (records_in xs)

    go : (b : Bool) → has_record o (records_in xs) ≡ b → later (newest (map (revised x.tid) stand) o) (newest (flat_map revisions_of xs) o) ≡ later (newest (revisions_of x) o) (newest (flat_map revisions_of xs) o)
    go true is = hides (newest (map (revised x.tid) stand) o) (newest (revisions_of x) o) (newest (flat_map revisions_of xs) o) (some_later_record o xs is)
    go false is = ap (λ a. later a (newest (flat_map revisions_of xs) o)) (enough keep x.tid o x.records (records_in xs) kept is)

-- ---- a history falls into the part up to t and the part behind it

not_le : (a b : ℕ) → b < a → nat_le a b ≡ false
not_le a b h = grind (arith, nat_tests)

not_lt : (a b : ℕ) → b ≤ a → nat_lt a b ≡ false
not_lt a b h = grind (arith, nat_tests)

keep_none : (f : Transaction → Bool) (n : ℕ) (xs : List Transaction) → ((x : Transaction) → n < x.tid → f x ≡ false) → RisesFrom n xs → filter f xs ≡ []
keep_none f n [] fails h = refl
keep_none f n (x ∷ xs) fails h = rw (fails x h.0) (keep_none f x.tid xs (λ y above. fails y (omega (arith, h.0, above))) h.1)

-- a test that all up to m pass
keep_all : (f : Transaction → Bool) (m : ℕ) (xs : List Transaction) → ((x : Transaction) → x.tid ≤ m → f x ≡ true) → AllByRecursion (λ (x : Transaction). x.tid ≤ m) xs → filter f xs ≡ xs
keep_all f m [] passes all = refl
keep_all f m (x ∷ xs) passes all = rw (passes x all.0) (ap (λ ys. x ∷ ys) (keep_all f m xs passes all.1))

pub falls_apart : (t n : ℕ) (xs : List Transaction) → RisesFrom n xs → filter (λ x. nat_le x.tid t) xs ++ filter (λ x. nat_lt t x.tid) xs ≡ xs
falls_apart t n [] h = refl
falls_apart t n (x ∷ xs) h = go (nat_le x.tid t) (nat_lt t x.tid) refl refl (falls_apart t x.tid xs h.1)
  where
    go : (a b : Bool) → nat_le x.tid t ≡ a → nat_lt t x.tid ≡ b → filter (λ y. nat_le y.tid t) xs ++ filter (λ y. nat_lt t y.tid) xs ≡ xs
        → cond a (x ∷ filter (λ y. nat_le y.tid t) xs) (filter (λ y. nat_le y.tid t) xs) ++ cond b (x ∷ filter (λ y. nat_lt t y.tid) xs) (filter (λ y. nat_lt t y.tid) xs) ≡ x ∷ xs
    go true false p q deeper = ap (λ ys. x ∷ ys) deeper
    go false true p q deeper =
        let above : t < x.tid = leb-false x.tid t p in
        let none : filter (λ y. nat_le y.tid t) xs ≡ [] = keep_none (λ y. nat_le y.tid t) x.tid xs (λ y after. not_le y.tid t (omega arith)) h.1 in
        rw none (ap (λ ys. x ∷ ys) (ap (λ ys. ys ++ filter (λ y. nat_lt t y.tid) xs) (sym none) ∙ deeper))
    go true true p q deeper = absurd (grind (arith, nat_tests))
    go false false p q deeper = absurd (grind (arith, nat_tests))

abbrev front : History → ℕ → List Transaction
front h t = (upto h t).transactions

parts_join : (h : History) (t : ℕ) → IsHistory h → front h t ++ behind h t ≡ h.transactions
parts_join h t good = falls_apart t 0 h.transactions good

front_rises : (h : History) (t : ℕ) → IsHistory h → RisesFrom 0 (front h t)
front_rises h t good = rises_front 0 (front h t) (behind h t) (subst (RisesFrom 0) (sym (parts_join h t good)) good)

behind_rises : (h : History) (t : ℕ) → IsHistory h → RisesFrom (last (upto h t)) (behind h t)
behind_rises h t good = rises_rest 0 (front h t) (behind h t) (subst (RisesFrom 0) (sym (parts_join h t good)) good)

-- no id passes the last one
up_to_last : (m n : ℕ) (xs : List Transaction) → RisesFrom n xs → last_after n xs ≤ m → AllByRecursion (λ (x : Transaction). x.tid ≤ m) xs
up_to_last m n [] h le = tt
up_to_last m n (x ∷ xs) h le = (omega (arith, rises_last x.tid xs h.1), up_to_last m x.tid xs h.1 le)

-- and none of the part up to t passes t
up_to_time : (t : ℕ) (xs : List Transaction) → AllByRecursion (λ (x : Transaction). x.tid ≤ t) (filter (λ x. nat_le x.tid t) xs)
up_to_time t [] = tt
up_to_time t (x ∷ xs) = go (nat_le x.tid t) refl (up_to_time t xs)
  where
    go : (b : Bool) → nat_le x.tid t ≡ b → AllByRecursion (λ (y : Transaction). y.tid ≤ t) (filter (λ y. nat_le y.tid t) xs) → AllByRecursion (λ (y : Transaction). y.tid ≤ t) (cond b (x ∷ filter (λ y. nat_le y.tid t) xs) (filter (λ y. nat_le y.tid t) xs))
    go true p deeper = (grind (arith, nat_tests), deeper)
    go false p deeper = deeper

-- what all transactions have, those that stand have too
thinned_all : (P : Transaction → Type 0) (keep : ℕ → Bool) (xs : List Transaction) → ((x : Transaction) (rs : List (ℕ × Value)) → P x → P (with_records x rs)) → AllByRecursion P xs → AllByRecursion P (thinned keep xs)
thinned_all P keep [] stays all = tt
thinned_all P keep (x ∷ xs) stays all = go (is_empty stand && not (is_empty xs)) (thinned_all P keep xs stays all.1)
  where
    stand : List (ℕ × Value)
    stand = standing keep x.records (records_in xs)

    go : (b : Bool) → AllByRecursion P (thinned keep xs) → AllByRecursion P (cond b (thinned keep xs) (with_records x stand ∷ thinned keep xs))
    go true deeper = deeper
    go false deeper = (stays x stand all.0, deeper)

-- ---- the same values at each time that all transactions of the front pass

cut_newest : (f : Transaction → Bool) (m o : ℕ) (keep : ℕ → Bool) (xs ys : List Transaction) → ((x : Transaction) → x.tid ≤ m → f x ≡ true) → AllByRecursion (λ (x : Transaction). x.tid ≤ m) xs → keep o ≡ true
    → newest (flat_map revisions_of (filter f (thinned keep xs ++ ys))) o ≡ newest (flat_map revisions_of (filter f (xs ++ ys))) o
cut_newest f m o keep xs ys passes all kept =
    let thin : filter f (thinned keep xs) ≡ thinned keep xs = keep_all f m (thinned keep xs) passes (thinned_all (λ (x : Transaction). x.tid ≤ m) keep xs (λ x rs le. le) all) in
    let thick : filter f xs ≡ xs = keep_all f m xs passes all in
    let rest = filter f ys in
    parted _ (thinned keep xs) rest (filter-append f (thinned keep xs) ys ∙ ap (λ zs. zs ++ rest) thin)
    ∙ ap (λ a. later a (newest (flat_map revisions_of rest) o)) (thinned_enough keep o xs kept)
    ∙ sym (parted _ xs rest (filter-append f xs ys ∙ ap (λ zs. zs ++ rest) thick))
  where
    parted : (ws zs vs : List Transaction) → ws ≡ zs ++ vs → newest (flat_map revisions_of ws) o ≡ later (newest (flat_map revisions_of zs) o) (newest (flat_map revisions_of vs) o)
    parted ws zs vs e =
        ap (λ us. newest (flat_map revisions_of us) o) e
        ∙ ap (λ rs. newest rs o) (flat_map-append revisions_of zs vs)
        ∙ newest-append (flat_map revisions_of zs) (flat_map revisions_of vs) o

pub same_newest : (keep : ℕ → Bool) (h : History) (t at o : ℕ) → IsHistory h → t ≤ at → keep o ≡ true → newest (revisions (upto (packed keep h t) at)) o ≡ newest (revisions (upto h at)) o
same_newest keep h t at o good le kept =
    cut_newest (λ x. nat_le x.tid at) t o keep (front h t) (behind h t) (λ x below. le-leb x.tid at (omega arith)) (up_to_time t h.transactions) kept
    ∙ ap (λ ts. newest (flat_map revisions_of (filter (λ x. nat_le x.tid at) ts)) o) (parts_join h t good)

pub same_before : (keep : ℕ → Bool) (h : History) (t u o : ℕ) → IsHistory h → last (upto h t) < u → keep o ≡ true → newest (revisions (before (packed keep h t) u)) o ≡ newest (revisions (before h u)) o
same_before keep h t u o good above kept =
    cut_newest (λ x. nat_lt x.tid u) (last (upto h t)) o keep (front h t) (behind h t) (λ x below. lt-ltb x.tid u (omega arith)) (up_to_last (last (upto h t)) 0 (front h t) (front_rises h t good) (omega arith)) kept
    ∙ ap (λ ts. newest (flat_map revisions_of (filter (λ x. nat_lt x.tid u) ts)) o) (parts_join h t good)

-- ---- the same transactions above the floor

skips : (u m : ℕ) (xs ys : List Transaction) → AllByRecursion (λ (x : Transaction). x.tid ≤ m) xs → m < u → find (λ (x : Transaction). x.tid == u) (xs ++ ys) ≡ find (λ (x : Transaction). x.tid == u) ys
skips u m [] ys all above = refl
skips u m (x ∷ xs) ys all above =
    let other : x.tid ≢ u = (λ e. omega (arith, all.0, above, e)) in
    rw (ne_eqb x.tid u other) (skips u m xs ys all.1 above)

front_below : (h : History) (t : ℕ) → IsHistory h → AllByRecursion (λ (x : Transaction). x.tid ≤ last (upto h t)) (front h t)
front_below h t good = up_to_last (last (upto h t)) 0 (front h t) (front_rises h t good) (omega arith)

in_behind : (h : History) (t u : ℕ) → IsHistory h → last (upto h t) < u → transaction h u ≡ find (λ (x : Transaction). x.tid == u) (behind h t)
in_behind h t u good above =
    ap (find (λ (x : Transaction). x.tid == u)) (sym (parts_join h t good)) ∙ skips u (last (upto h t)) (front h t) (behind h t) (front_below h t good) above

pub same_transaction : (keep : ℕ → Bool) (h : History) (t u : ℕ) → IsHistory h → last (upto h t) < u → transaction (packed keep h t) u ≡ transaction h u
same_transaction keep h t u good above =
    skips u (last (upto h t)) (thinned keep (front h t)) (behind h t) (thinned_all (λ (x : Transaction). x.tid ≤ last (upto h t)) keep (front h t) (λ x rs le. le) (front_below h t good)) above
    ∙ sym (in_behind h t u good above)

-- ---- their parts

all_front : {X : Type 0} (P : X → Type 0) (xs ys : List X) → AllByRecursion P (xs ++ ys) → AllByRecursion P xs
all_front P [] ys all = tt
all_front P (x ∷ xs) ys all = (all.0, all_front P xs ys all.1)

all_rest : {X : Type 0} (P : X → Type 0) (xs ys : List X) → AllByRecursion P (xs ++ ys) → AllByRecursion P ys
all_rest P [] ys all = all
all_rest P (x ∷ xs) ys all = all_rest P xs ys all.1

abbrev AreKept : (ℕ → Bool) → List (ℕ × Value) → Type 0
AreKept keep = AllByRecursion (λ (r : ℕ × Value). keep r.0 ≡ true)

kept_records : (keep : ℕ → Bool) (t : ℕ) (rs : List (ℕ × Value)) → AllByRecursion (λ (r : Revision). keep r.oid ≡ true) (map (revised t) rs) → AreKept keep rs
kept_records keep t [] all = tt
kept_records keep t (r ∷ rs) all = (all.0, kept_records keep t rs all.1)

found_kept : (keep : ℕ → Bool) (u : ℕ) (xs : List Transaction) (x : Transaction) → AllByRecursion (λ (r : Revision). keep r.oid ≡ true) (flat_map revisions_of xs) → find (λ (y : Transaction). y.tid == u) xs ≡ Some x → AreKept keep x.records × (x.tid ≡ u)
found_kept keep u [] x all e = absurd cc
found_kept keep u (y ∷ ys) x all e = go (y.tid == u) refl e (found_kept keep u ys x (all_rest (λ (r : Revision). keep r.oid ≡ true) (revisions_of y) (flat_map revisions_of ys) all))
  where
    here : AreKept keep y.records
    here = kept_records keep y.tid y.records (all_front (λ (r : Revision). keep r.oid ≡ true) (revisions_of y) (flat_map revisions_of ys) all)

    go : (b : Bool) → (y.tid == u) ≡ b → cond b (Some y) (find (λ (z : Transaction). z.tid == u) ys) ≡ Some x → (find (λ (z : Transaction). z.tid == u) ys ≡ Some x → AreKept keep x.records × (x.tid ≡ u)) → AreKept keep x.records × (x.tid ≡ u)
    go true is e' deeper = (let one : y ≡ x = cc in subst (λ (z : Transaction). AreKept keep z.records × (z.tid ≡ u)) one (here, eqb-true y.tid u is))
    go false is e' deeper = deeper e'

last_kept : (keep : ℕ → Bool) (rs : List (ℕ × Value)) → AreKept keep rs → AreKept keep (last_records rs)
last_kept keep [] all = tt
last_kept keep (r ∷ rs) all = go (list_any (λ (s : ℕ × Value). s.0 == r.0) rs) (last_kept keep rs all.1)
  where
    go : (b : Bool) → AreKept keep (last_records rs) → AreKept keep (cond b (last_records rs) (r ∷ last_records rs))
    go true deeper = deeper
    go false deeper = (all.0, deeper)

made_part : ℕ × Value → Option Revision → Part
made_part r old = record { oid = r.0; after = r.1; before = value_of old; before_serial = serial_of old }

part_made : (past : History) (r : ℕ × Value) → part_of past r ≡ made_part r (newest (revisions past) r.0)
unfolding made_part
part_made past r = refl

same_part_list : (p q : History) (keep : ℕ → Bool) (rs : List (ℕ × Value)) → AreKept keep rs → ((o : ℕ) → keep o ≡ true → newest (revisions p) o ≡ newest (revisions q) o) → map (part_of p) rs ≡ map (part_of q) rs
same_part_list p q keep [] all same = refl
same_part_list p q keep (r ∷ rs) all same = ap₂ (λ (a : Part) (b : List Part). a ∷ b) (part_made p r ∙ ap (made_part r) (same r.0 all.0) ∙ sym (part_made q r)) (same_part_list p q keep rs all.1 same)

pub same_parts : (links : Linking) (keep : ℕ → Bool) (h : History) (t u : ℕ) (x : Transaction) → IsHistory h → IsClosed links h t keep → last (upto h t) < u → transaction h u ≡ Some x → parts_of (packed keep h t) x ≡ parts_of h x
same_parts links keep h t u x good closed above e =
    let found = found_kept keep u (behind h t) x closed.written (sym (in_behind h t u good above) ∙ e) in
    same_part_list (before (packed keep h t) x.tid) (before h x.tid) keep (last_records x.records) (last_kept keep x.records found.0)
    (λ o kept. same_before keep h t x.tid o good (omega (arith, above, found.1)) kept)

-- ---- a history again, with the same end

rises_lower : (m n : ℕ) (xs : List Transaction) → m ≤ n → RisesFrom n xs → RisesFrom m xs
rises_lower m n [] le h = tt
rises_lower m n (x ∷ xs) le h = (omega (arith, h.0), h.1)

thinned_rises : (keep : ℕ → Bool) (n : ℕ) (xs : List Transaction) → RisesFrom n xs → RisesFrom n (thinned keep xs)
thinned_rises keep n [] h = tt
thinned_rises keep n (x ∷ xs) h = go (is_empty stand && not (is_empty xs)) (thinned_rises keep x.tid xs h.1)
  where
    stand : List (ℕ × Value)
    stand = standing keep x.records (records_in xs)

    go : (b : Bool) → RisesFrom x.tid (thinned keep xs) → RisesFrom n (cond b (thinned keep xs) (with_records x stand ∷ thinned keep xs))
    go true deeper = rises_lower n x.tid (thinned keep xs) (omega (arith, h.0)) deeper
    go false deeper = (h.0, deeper)

-- the last transaction always stands
pub thinned_last : (keep : ℕ → Bool) (n : ℕ) (xs : List Transaction) → last_after n (thinned keep xs) ≡ last_after n xs
thinned_last keep n [] = refl
thinned_last keep n (x ∷ []) = one (is_empty (standing keep x.records []))
  where
    one : (b : Bool) → last_after n (cond (b && false) [] (with_records x (standing keep x.records []) ∷ [])) ≡ x.tid
    one true = refl
    one false = refl
thinned_last keep n (x ∷ (y ∷ ys)) = go (is_empty stand) (thinned_last keep n (y ∷ ys)) (thinned_last keep x.tid (y ∷ ys))
  where
    stand : List (ℕ × Value)
    stand = standing keep x.records (records_in (y ∷ ys))

    go : (b : Bool) → last_after n (thinned keep (y ∷ ys)) ≡ last_after y.tid ys → last_after x.tid (thinned keep (y ∷ ys)) ≡ last_after y.tid ys
        → last_after n (cond (b && true) (thinned keep (y ∷ ys)) (with_records x stand ∷ thinned keep (y ∷ ys))) ≡ last_after y.tid ys
    go true left stays = left
    go false left stays = stays

pub packed_rises : (keep : ℕ → Bool) (h : History) (t : ℕ) → IsHistory h → IsHistory (packed keep h t)
packed_rises keep h t good =
    rises_append 0 (thinned keep (front h t)) (behind h t) (thinned_rises keep 0 (front h t) (front_rises h t good))
    (subst (λ n. RisesFrom n (behind h t)) (sym (thinned_last keep 0 (front h t))) (behind_rises h t good))

pub packed_last : (keep : ℕ → Bool) (h : History) (t : ℕ) → IsHistory h → last (packed keep h t) ≡ last h
packed_last keep h t good =
    last_after-append 0 (thinned keep (front h t)) (behind h t)
    ∙ ap (λ n. last_after n (behind h t)) (thinned_last keep 0 (front h t))
    ∙ sym (last_after-append 0 (front h t) (behind h t))
    ∙ ap (last_after 0) (parts_join h t good)

-- ---- one set of kept objects, and one packed history

same_test : (a b : Bool) → (a ≡ true → b ≡ true) → (b ≡ true → a ≡ true) → a ≡ b
same_test true b p q = sym (p refl)
same_test false true p q = absurd (let wrong : false ≡ true = q refl in cc)
same_test false false p q = refl

pub one_keep : (links : Linking) (h : History) (t : ℕ) (keep other : ℕ → Bool) → IsKeep links h t keep → IsKeep links h t other → (o : ℕ) → keep o ≡ other o
one_keep links h t keep other a b o = same_test (keep o) (other o) (a.least other b.closed o) (b.least keep a.closed o)

same_standing : (keep other : ℕ → Bool) (rs later : List (ℕ × Value)) → ((o : ℕ) → keep o ≡ other o) → standing keep rs later ≡ standing other rs later
same_standing keep other [] later same = refl
same_standing keep other (r ∷ rs) later same = rw (same r.0, same_standing keep other rs later same) refl

same_thinned : (keep other : ℕ → Bool) (xs : List Transaction) → ((o : ℕ) → keep o ≡ other o) → thinned keep xs ≡ thinned other xs
same_thinned keep other [] same = refl
same_thinned keep other (x ∷ xs) same = ap₂ (λ (rs : List (ℕ × Value)) (ys : List Transaction). put_before x rs (is_empty xs) ys) (same_standing keep other x.records (records_in xs) same) (same_thinned keep other xs same)

pub one_pack : (h : History) (t : ℕ) (keep other : ℕ → Bool) → ((o : ℕ) → keep o ≡ other o) → packed keep h t ≡ packed other h t
one_pack h t keep other same = ap (λ (xs : List Transaction). let g : History = record { floor = max h.floor (last (upto h t)); transactions = xs ++ behind h t } in g) (same_thinned keep other (front h t) same)
