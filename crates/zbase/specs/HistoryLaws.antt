-- What a history keeps when it grows.
use Rattle.std.proofs.Common.{◌≡◌, ℕ, ◌<◌, ◌≤◌, ◌==◌, ◌≢◌, Bool, true, false, cond, List, [], ◌∷◌, ◌++◌, Option, Some, None, refl, sym, ap, ◌∙◌, subst, ap₂, arith, append_assoc, append-nil, lt_trans, le_trans, nat_lt, nat_le, map, filter, find, flat_map, lt-ltb, le-leb, leb-false, eq-eqb, ne_eqb, eqb-true}
use Rattle.std.proofs.lemmas.List.Elements.{filter-append}
use Rattle.std.proofs.lemmas.List.Folds.{find-append}
use Rattle.std.proofs.lemmas.Grind.{flat_map-append}
use Rattle.std.proofs.lemmas.Bool.Decides.{nat_tests}
use Rattle.std.specs.List.{AllByRecursion}
use Rattle.std.specs.Option.{option_or}
use Rattle.zbase.specs.History.{Value, Transaction, History, RisesFrom, IsHistory, added, IsPrefixOf}
use Rattle.zbase.specs.Values.{Revision, revisions_of, revisions, later, newest, serial_of, serial, last_after, last, upto, before, transaction}

not_le : (a b : ℕ) → b < a → nat_le a b ≡ false
not_le a b h = grind (arith, nat_tests)

not_lt : (a b : ℕ) → b ≤ a → nat_lt a b ≡ false
not_lt a b h = grind (arith, nat_tests)

pub last_after-append : (n : ℕ) (xs ys : List Transaction) → last_after n (xs ++ ys) ≡ last_after (last_after n xs) ys
last_after-append n [] ys = refl
last_after-append n (x ∷ xs) ys = last_after-append x.tid xs ys

pub rises_front : (n : ℕ) (xs ys : List Transaction) → RisesFrom n (xs ++ ys) → RisesFrom n xs
rises_front n [] ys h = tt
rises_front n (x ∷ xs) ys h = (h.0, rises_front x.tid xs ys h.1)

pub rises_rest : (n : ℕ) (xs ys : List Transaction) → RisesFrom n (xs ++ ys) → RisesFrom (last_after n xs) ys
rises_rest n [] ys h = h
rises_rest n (x ∷ xs) ys h = rises_rest x.tid xs ys h.1

pub rises_append : (n : ℕ) (xs ys : List Transaction) → RisesFrom n xs → RisesFrom (last_after n xs) ys → RisesFrom n (xs ++ ys)
rises_append n [] ys h k = k
rises_append n (x ∷ xs) ys h k = (h.0, rises_append x.tid xs ys h.1 k)

pub rises_last : (n : ℕ) (xs : List Transaction) → RisesFrom n xs → n ≤ last_after n xs
rises_last n [] h = omega arith
rises_last n (x ∷ xs) h =
    let rest = rises_last x.tid xs h.1 in
    omega (arith, h.0)

-- a test that later transactions fail, and one that earlier ones pass
keep_none : (f : Transaction → Bool) (n : ℕ) (xs : List Transaction) → ((x : Transaction) → n < x.tid → f x ≡ false) → RisesFrom n xs → filter f xs ≡ []
keep_none f n [] fails h = refl
keep_none f n (x ∷ xs) fails h =
    rw (fails x h.0) (keep_none f x.tid xs (λ y later. fails y (lt_trans h.0 later)) h.1)

keep_all : (f : Transaction → Bool) (m n : ℕ) (xs : List Transaction) → ((x : Transaction) → x.tid ≤ m → f x ≡ true) → RisesFrom n xs → last_after n xs ≤ m → filter f xs ≡ xs
keep_all f m n [] passes h below = refl
keep_all f m n (x ∷ xs) passes h below =
    rw (passes x (le_trans (rises_last x.tid xs h.1) below)) (ap (λ ys. x ∷ ys) (keep_all f m x.tid xs passes h.1 below))

pub find_none : (t n : ℕ) (xs : List Transaction) → RisesFrom n xs → last_after n xs < t → find (λ x. x.tid == t) xs ≡ None
find_none t n [] h below = refl
find_none t n (x ∷ xs) h below =
    let here : x.tid ≢ t = (λ e. omega (arith, rises_last x.tid xs h.1)) in
    rw (ne_eqb x.tid t here) (find_none t x.tid xs h.1 below)

pub found_within : (t n : ℕ) (xs : List Transaction) (x : Transaction) → RisesFrom n xs → find (λ y. y.tid == t) xs ≡ Some x → (x.tid ≡ t) × (t ≤ last_after n xs)
found_within t n [] x h e = cc
found_within t n (y ∷ xs) x h e = go (y.tid == t) refl (found_within t y.tid xs x h.1)
  where
    go : (b : Bool) → (y.tid == t) ≡ b → (find (λ z. z.tid == t) xs ≡ Some x → (x.tid ≡ t) × (t ≤ last_after y.tid xs)) → (x.tid ≡ t) × (t ≤ last_after y.tid xs)
    go true passes deeper =
        let same : y ≡ x = (let here = rw passes at e in cc) in
        let tid : y.tid ≡ t = eqb-true y.tid t passes in
        (ap (λ (z : Transaction). z.tid) (sym same) ∙ tid, omega (arith, tid, rises_last y.tid xs h.1))
    go false fails deeper = deeper (rw fails at e)

-- a history, and what goes on where it ends
pub prefix_refl : (h : History) → IsPrefixOf h h
prefix_refl h = record { floor = refl; rest = []; transactions = append-nil h.transactions }

pub prefix_trans : {a b c : History} → IsPrefixOf a b → IsPrefixOf b c → IsPrefixOf a c
prefix_trans {a} {b} {c} p q = record {
  floor = p.floor ∙ q.floor;
  rest = p.rest ++ q.rest;
  transactions = sym (append_assoc a.transactions p.rest q.rest) ∙ ap (λ ts. ts ++ q.rest) p.transactions ∙ q.transactions;
}

pub prefix_added : (h : History) (x : Transaction) → IsPrefixOf h (added h x)
prefix_added h x = record { floor = refl; rest = x ∷ []; transactions = refl }

pub prefix_history : {a b : History} → IsPrefixOf a b → IsHistory b → IsHistory a
prefix_history {a} {b} p h = rises_front 0 a.transactions p.rest (subst (λ ts. RisesFrom 0 ts) (sym p.transactions) h)

rest_rises : {a b : History} → (p : IsPrefixOf a b) → IsHistory b → RisesFrom (last a) p.rest
rest_rises {a} {b} p h = rises_rest 0 a.transactions p.rest (subst (λ ts. RisesFrom 0 ts) (sym p.transactions) h)

pub added_history : (h : History) (x : Transaction) → IsHistory h → last h < x.tid → IsHistory (added h x)
added_history h x good above = rises_append 0 h.transactions (x ∷ []) good (above, tt)

same_history : {a b : History} → a.floor ≡ b.floor → a.transactions ≡ b.transactions → a ≡ b
same_history {a} {b} e f = ap₂ (λ (n : ℕ) (ts : List Transaction). let h : History = record { floor = n; transactions = ts } in h) e f

-- the part up to where a prefix ends is that prefix
pub upto_prefix : {p h : History} → IsPrefixOf p h → IsHistory h → upto h (last p) ≡ p
upto_prefix {p} {h} is good =
    let test : Transaction → Bool = (λ x. nat_le x.tid (last p)) in
    let front : filter test p.transactions ≡ p.transactions = keep_all test (last p) 0 p.transactions (λ x below. le-leb x.tid (last p) below) (prefix_history is good) (omega arith) in
    let back : filter test is.rest ≡ [] = keep_none test (last p) is.rest (λ x above. not_le x.tid (last p) above) (rest_rises is good) in
    let all : filter test h.transactions ≡ p.transactions = ap (λ ts. filter test ts) (sym is.transactions) ∙ filter-append test p.transactions is.rest ∙ ap (λ ts. filter test p.transactions ++ ts) back ∙ append-nil (filter test p.transactions) ∙ front in
    same_history (sym is.floor) all

-- the part before a transaction that comes next is the prefix that it comes behind
pub before_next : {p h : History} (x : Transaction) → IsPrefixOf (added p x) h → IsHistory h → before h x.tid ≡ p
before_next {p} {h} x is good =
    let test : Transaction → Bool = (λ y. nat_lt y.tid x.tid) in
    let whole : IsHistory (added p x) = prefix_history is good in
    let above : RisesFrom (last p) (x ∷ []) = rises_rest 0 p.transactions (x ∷ []) whole in
    let end : last (added p x) ≡ x.tid = last_after-append 0 p.transactions (x ∷ []) in
    let front : filter test p.transactions ≡ p.transactions = keep_all test (last p) 0 p.transactions (λ y below. lt-ltb y.tid x.tid (omega (arith, above.0))) (rises_front 0 p.transactions (x ∷ []) whole) (omega arith) in
    let back : filter test is.rest ≡ [] = keep_none test x.tid is.rest (λ y after. not_lt y.tid x.tid (omega arith)) (subst (λ t. RisesFrom t is.rest) end (rest_rises is good)) in
    let here : filter test (x ∷ []) ≡ [] = rw (not_lt x.tid x.tid (omega arith)) refl in
    let all : filter test h.transactions ≡ p.transactions =
    ap (λ ts. filter test ts) (sym is.transactions) ∙ filter-append test (p.transactions ++ x ∷ []) is.rest
    ∙ ap (λ ts. filter test (p.transactions ++ x ∷ []) ++ ts) back ∙ append-nil (filter test (p.transactions ++ x ∷ []))
    ∙ filter-append test p.transactions (x ∷ []) ∙ ap (λ ts. filter test p.transactions ++ ts) here ∙ append-nil (filter test p.transactions) ∙ front in
    same_history (sym is.floor) all

pub transaction_next : (p : History) {h : History} (x : Transaction) → IsPrefixOf (added p x) h → IsHistory h → transaction h x.tid ≡ Some x
transaction_next p {h} x is good =
    let test : Transaction → Bool = (λ y. y.tid == x.tid) in
    let whole : IsHistory (added p x) = prefix_history is good in
    let above : RisesFrom (last p) (x ∷ []) = rises_rest 0 p.transactions (x ∷ []) whole in
    let front : find test p.transactions ≡ None = find_none x.tid 0 p.transactions (rises_front 0 p.transactions (x ∷ []) whole) above.0 in
    let here : find test (x ∷ []) ≡ Some x = rw (eq-eqb x.tid x.tid refl) refl in
    ap (λ ts. find test ts) (sym is.transactions) ∙ find-append test (p.transactions ++ x ∷ []) is.rest
    ∙ ap (λ o. option_or o (find test is.rest)) (find-append test p.transactions (x ∷ []) ∙ ap (λ o. option_or o (find test (x ∷ []))) front ∙ here)

-- what a prefix has of a transaction stays
pub transaction_stays : {p h : History} (t : ℕ) (x : Transaction) → IsPrefixOf p h → transaction p t ≡ Some x → transaction h t ≡ Some x
transaction_stays {p} {h} t x is e =
    let test : Transaction → Bool = (λ y. y.tid == t) in
    ap (λ ts. find test ts) (sym is.transactions) ∙ find-append test p.transactions is.rest ∙ ap (λ o. option_or o (find test is.rest)) e

pub before_stays : {p h : History} (t : ℕ) → IsPrefixOf p h → IsHistory h → t ≤ last p → before h t ≡ before p t
before_stays {p} {h} t is good below =
    let test : Transaction → Bool = (λ y. nat_lt y.tid t) in
    let back : filter test is.rest ≡ [] = keep_none test (last p) is.rest (λ y after. not_lt y.tid t (omega arith)) (rest_rises is good) in
    let all : filter test h.transactions ≡ filter test p.transactions =
    ap (λ ts. filter test ts) (sym is.transactions) ∙ filter-append test p.transactions is.rest ∙ ap (λ ts. filter test p.transactions ++ ts) back ∙ append-nil (filter test p.transactions) in
    same_history (sym is.floor) all

-- revisions
newest-append : (rs ss : List Revision) (o : ℕ) → newest (rs ++ ss) o ≡ later (newest rs o) (newest ss o)
newest-append [] ss o = later_none (newest ss o)
  where
    later_none : (r : Option Revision) → r ≡ later None r
    later_none None = refl
    later_none (Some r) = refl
newest-append (r ∷ rs) ss o = rw (newest-append rs ss o) (later_assoc (cond (r.oid == o) (Some r) None) (newest rs o) (newest ss o))
  where
    later_assoc : (a b c : Option Revision) → later a (later b c) ≡ later (later a b) c
    later_assoc a b None = refl
    later_assoc a b (Some r) = refl

newest_has : (P : Revision → Type 0) (rs : List Revision) (o : ℕ) (r : Revision) → AllByRecursion P rs → newest rs o ≡ Some r → P r
newest_has P [] o r all e = cc
newest_has P (s ∷ rs) o r all e = go (newest rs o) (newest_has P rs o r all.1) (s.oid == o) e
  where
    go : (n : Option Revision) → (n ≡ Some r → P r) → (b : Bool) → later (cond b (Some s) None) n ≡ Some r → P r
    go (Some q) deeper b e' = deeper e'
    go None deeper true e' = (let same : s ≡ r = cc in subst P same all.0)
    go None deeper false e' = cc

all_append : {X : Type 0} (P : X → Type 0) (xs ys : List X) → AllByRecursion P xs → AllByRecursion P ys → AllByRecursion P (xs ++ ys)
all_append P [] ys h k = k
all_append P (x ∷ xs) ys h k = (h.0, all_append P xs ys h.1 k)

own_revisions : (P : Revision → Type 0) (t : ℕ) → ((r : Revision) → r.tid ≡ t → P r) → (rs : List (ℕ × Value)) → AllByRecursion P (map (λ r. record { tid = t; oid = r.0; value = r.1 }) rs)
own_revisions P t each [] = tt
own_revisions P t each (r ∷ rs) = (each (record { tid = t; oid = r.0; value = r.1 }) refl, own_revisions P t each rs)

revisions_above : (m n : ℕ) (xs : List Transaction) → m ≤ n → RisesFrom n xs → AllByRecursion (λ r. m < r.tid) (flat_map revisions_of xs)
revisions_above m n [] le h = tt
revisions_above m n (x ∷ xs) le h =
    all_append (λ r. m < r.tid) (revisions_of x) (flat_map revisions_of xs)
    (own_revisions (λ r. m < r.tid) x.tid (λ r e. omega (arith, e, h.0)) x.records)
    (revisions_above m x.tid xs (omega (arith, h.0)) h.1)

revisions_below : (m n : ℕ) (xs : List Transaction) → RisesFrom n xs → last_after n xs ≤ m → AllByRecursion (λ r. r.tid ≤ m) (flat_map revisions_of xs)
revisions_below m n [] h le = tt
revisions_below m n (x ∷ xs) h le =
    all_append (λ r. r.tid ≤ m) (revisions_of x) (flat_map revisions_of xs)
    (own_revisions (λ r. r.tid ≤ m) x.tid (λ r e. omega (arith, e, rises_last x.tid xs h.1)) x.records)
    (revisions_below m x.tid xs h.1 le)

serial_below : (h : History) (o : ℕ) → IsHistory h → serial h o ≤ last h
serial_below h o good = go (newest (revisions h) o) refl
  where
    go : (r : Option Revision) → newest (revisions h) o ≡ r → serial_of r ≤ last h
    go None e = omega arith
    go (Some r) e = newest_has (λ s. s.tid ≤ last h) (revisions h) o r (revisions_below (last h) 0 h.transactions good (omega arith)) e

-- an object whose serial isn't later is as it was
pub object_stays : {p h : History} (o : ℕ) → IsPrefixOf p h → IsHistory h → serial h o ≤ serial p o → newest (revisions h) o ≡ newest (revisions p) o
object_stays {p} {h} o is good le = go (newest (flat_map revisions_of is.rest) o) refl
  where
    split : newest (revisions h) o ≡ later (newest (revisions p) o) (newest (flat_map revisions_of is.rest) o)
    split =
        ap (λ ts. newest (flat_map revisions_of ts) o) (sym is.transactions)
        ∙ ap (λ rs. newest rs o) (flat_map-append revisions_of p.transactions is.rest)
        ∙ newest-append (revisions p) (flat_map revisions_of is.rest) o

    go : (r : Option Revision) → newest (flat_map revisions_of is.rest) o ≡ r → newest (revisions h) o ≡ newest (revisions p) o
    go None e = split ∙ ap (λ r. later (newest (revisions p) o) r) e
    go (Some r) e =
        let above : last p < r.tid = newest_has (λ s. last p < s.tid) (flat_map revisions_of is.rest) o r (revisions_above (last p) (last p) is.rest (omega arith) (rest_rises is good)) e in
        let now : serial h o ≡ r.tid = ap serial_of (split ∙ ap (λ q. later (newest (revisions p) o) q) e) in
        absurd (omega (arith, now, above, le, serial_below p o (prefix_history is good)))

-- the part up to t: a prefix, and the same one as long as t isn't behind the end
pub upto_stays : {p h : History} (t : ℕ) → IsPrefixOf p h → IsHistory h → t ≤ last p → upto h t ≡ upto p t
upto_stays {p} {h} t is good below =
    let test : Transaction → Bool = (λ y. nat_le y.tid t) in
    let back : filter test is.rest ≡ [] = keep_none test (last p) is.rest (λ y after. not_le y.tid t (omega arith)) (rest_rises is good) in
    let all : filter test h.transactions ≡ filter test p.transactions =
    ap (λ ts. filter test ts) (sym is.transactions) ∙ filter-append test p.transactions is.rest ∙ ap (λ ts. filter test p.transactions ++ ts) back ∙ append-nil (filter test p.transactions) in
    same_history (sym is.floor) all

front_of : (t n : ℕ) (xs : List Transaction) → RisesFrom n xs → (rest : List Transaction) × (filter (λ x. nat_le x.tid t) xs ++ rest ≡ xs)
front_of t n [] h = ([], refl)
front_of t n (x ∷ xs) h = go (nat_le x.tid t) refl (front_of t x.tid xs h.1)
  where
    go : (b : Bool) → nat_le x.tid t ≡ b → (rest : List Transaction) × (filter (λ y. nat_le y.tid t) xs ++ rest ≡ xs) → (rest : List Transaction) × (cond b (x ∷ filter (λ y. nat_le y.tid t) xs) (filter (λ y. nat_le y.tid t) xs) ++ rest ≡ x ∷ xs)
    go true passes deeper = (deeper.0, ap (λ ys. x ∷ ys) deeper.1)
    go false fails deeper =
        let above : t < x.tid = leb-false x.tid t fails in
        (x ∷ xs, ap (λ ys. ys ++ x ∷ xs) (keep_none (λ y. nat_le y.tid t) x.tid xs (λ y after. not_le y.tid t (omega arith)) h.1))

pub upto_is_prefix : (t : ℕ) (h : History) → IsHistory h → IsPrefixOf (upto h t) h
upto_is_prefix t h good = (let front = front_of t 0 h.transactions good in record { floor = refl; rest = front.0; transactions = front.1 })

pub last_grows : {p h : History} → IsPrefixOf p h → IsHistory h → last p ≤ last h
last_grows {p} {h} is good =
    let end : last h ≡ last_after (last p) is.rest = ap (last_after 0) (sym is.transactions) ∙ last_after-append 0 p.transactions is.rest in
    let up : last p ≤ last_after (last p) is.rest = rises_last (last p) is.rest (rest_rises is good) in
    omega (arith, end, up)
