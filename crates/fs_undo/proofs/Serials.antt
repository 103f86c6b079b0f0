-- The value of an object at its serial.
use Rattle.std.proofs.Common.{ℕ, ◌≡◌, ◌∙◌, ◌<◌, ◌≤◌, ◌==◌, ◌++◌, ◌∷◌, [], refl, sym, ap, subst, arith, Bool, true, false, cond, List, map, filter, flat_map, Option, Some, None, nat_lt, nat_le, leb-false}
use Rattle.std.proofs.lemmas.Bool.{ltb-true}
use Rattle.std.proofs.lemmas.Bool.Decides.{nat_tests}
use Rattle.zbase.specs.History.{Value, Transaction, History}
use Rattle.zbase.specs.Values.{Revision, before, later, newest, revisions, revisions_of, serial, serial_of, upto, value, value_of}

later_assoc : (a b c : Option Revision) → later a (later b c) ≡ later (later a b) c
later_assoc a b None = refl
later_assoc a b (Some r) = refl

later_none : (r : Option Revision) → r ≡ later None r
later_none None = refl
later_none (Some r) = refl

pub newest_append : (rs ss : List Revision) (o : ℕ) → newest (rs ++ ss) o ≡ later (newest rs o) (newest ss o)
newest_append [] ss o = later_none (newest ss o)
newest_append (r ∷ rs) ss o = rw (newest_append rs ss o) (later_assoc (cond (r.oid == o) (Some r) None) (newest rs o) (newest ss o))

abbrev pub revision : ℕ → ℕ × Value → Revision
revision t r = record { tid = t; oid = r.0; value = r.1 }

-- a transaction's revisions have its id
own_tid : (t o : ℕ) (rs : List (ℕ × Value)) (r : Revision) → newest (map (revision t) rs) o ≡ Some r → r.tid ≡ t
own_tid t o [] r e = absurd (let bad = e in cc)
own_tid t o (a ∷ rs) r e = at (newest (map (revision t) rs) o) (own_tid t o rs r) (a.0 == o) e
  where
    at : (n : Option Revision) → (n ≡ Some r → r.tid ≡ t) → (b : Bool) → later (cond b (Some (revision t a)) None) n ≡ Some r → r.tid ≡ t
    at (Some q) deeper b e' = deeper e'
    at None deeper true e' = (let same : revision t a ≡ r = cc in sym (ap (λ (q : Revision). q.tid) same))
    at None deeper false e' = absurd (let bad = e' in cc)

abbrev revs : List Transaction → List Revision
revs xs = flat_map revisions_of xs

first_of_both : (x : Transaction) (xs : List Transaction) (o : ℕ) → newest (revs (x ∷ xs)) o ≡ later (newest (revisions_of x) o) (newest (revs xs) o)
first_of_both x xs o = newest_append (revisions_of x) (revs xs) o

-- up to its serial an object is what it is
upto_serial : (o s : ℕ) (xs : List Transaction) → serial_of (newest (revs xs) o) ≤ s → newest (revs (filter (λ x. nat_le x.tid s) xs)) o ≡ newest (revs xs) o
upto_serial o s [] le = refl
upto_serial o s (x ∷ xs) le = at (nat_le x.tid s) refl (newest (revisions_of x) o) refl (newest (revs xs) o) refl (subst (λ r. serial_of r ≤ s) (first_of_both x xs o) le) (upto_serial o s xs)
  where
    rest : List Transaction
    rest = filter (λ y. nat_le y.tid s) xs

    inner : (a b : Option Revision) → newest (revs xs) o ≡ b → serial_of (later a b) ≤ s → (serial_of (newest (revs xs) o) ≤ s → newest (revs rest) o ≡ newest (revs xs) o) → newest (revs rest) o ≡ b
    inner a None is le' deeper = deeper (subst (λ r. serial_of r ≤ s) (sym is) (omega arith)) ∙ is
    inner a (Some r) is le' deeper = deeper (subst (λ r. serial_of r ≤ s) (sym is) le') ∙ is

    none_here : (a b : Option Revision) → newest (revisions_of x) o ≡ a → nat_le x.tid s ≡ false → serial_of (later a b) ≤ s → b ≡ later a b
    none_here a (Some r) is test le' = refl
    none_here None None is test le' = refl
    none_here (Some r) None is test le' = absurd (let own = own_tid x.tid o x.records r is in let above = leb-false x.tid s test in omega (arith, own, above, le'))

    at : (test : Bool) → nat_le x.tid s ≡ test → (a : Option Revision) → newest (revisions_of x) o ≡ a → (b : Option Revision) → newest (revs xs) o ≡ b → serial_of (later a b) ≤ s
        → (serial_of (newest (revs xs) o) ≤ s → newest (revs rest) o ≡ newest (revs xs) o) → newest (revs (cond test (x ∷ rest) rest)) o ≡ newest (revs (x ∷ xs)) o
    at true is a is_a b is_b le' deeper = first_of_both x rest o ∙ ap (later (newest (revisions_of x) o)) (inner a b is_b le' deeper ∙ sym is_b) ∙ sym (first_of_both x xs o)
    at false is a is_a b is_b le' deeper = inner a b is_b le' deeper ∙ none_here a b is_a is le' ∙ sym (ap (λ r. later r b) is_a) ∙ sym (ap (later (newest (revisions_of x) o)) is_b) ∙ sym (first_of_both x xs o)

-- a revision before t has an earlier id
below : (o t : ℕ) (xs : List Transaction) (r : Revision) → newest (revs (filter (λ x. nat_lt x.tid t) xs)) o ≡ Some r → r.tid < t
below o t [] r e = absurd (let bad = e in cc)
below o t (x ∷ xs) r e = at (nat_lt x.tid t) refl e (below o t xs r)
  where
    rest : List Transaction
    rest = filter (λ y. nat_lt y.tid t) xs

    by : (a b : Option Revision) → newest (revisions_of x) o ≡ a → later a b ≡ Some r → x.tid < t → (b ≡ Some r → r.tid < t) → r.tid < t
    by a (Some q) is e' lt deeper = deeper e'
    by (Some q) None is e' lt deeper = (let same : q ≡ r = cc in let own = own_tid x.tid o x.records q is in subst (λ (p : Revision). p.tid < t) same (omega (arith, own, lt)))
    by None None is e' lt deeper = absurd (let bad = e' in cc)

    at : (test : Bool) → nat_lt x.tid t ≡ test → newest (revs (cond test (x ∷ rest) rest)) o ≡ Some r → (newest (revs rest) o ≡ Some r → r.tid < t) → r.tid < t
    at true is e' deeper = by (newest (revisions_of x) o) (newest (revs rest) o) refl (sym (first_of_both x rest o) ∙ e') (ltb-true x.tid t is) deeper
    at false is e' deeper = deeper e'

within : (s t : ℕ) (xs : List Transaction) → s < t → filter (λ x. nat_le x.tid s) (filter (λ x. nat_lt x.tid t) xs) ≡ filter (λ x. nat_le x.tid s) xs
within s t [] lt = refl
within s t (x ∷ xs) lt = at (nat_lt x.tid t) refl (nat_le x.tid s) refl (within s t xs lt)
  where
    at : (b : Bool) → nat_lt x.tid t ≡ b → (c : Bool) → nat_le x.tid s ≡ c → filter (λ y. nat_le y.tid s) (filter (λ y. nat_lt y.tid t) xs) ≡ filter (λ y. nat_le y.tid s) xs
        → filter (λ y. nat_le y.tid s) (cond b (x ∷ filter (λ y. nat_lt y.tid t) xs) (filter (λ y. nat_lt y.tid t) xs)) ≡ cond c (x ∷ filter (λ y. nat_le y.tid s) xs) (filter (λ y. nat_le y.tid s) xs)
    at true p true q deeper = rw q (ap (λ ys. x ∷ ys) deeper)
    at true p false q deeper = rw q deeper
    at false p true q deeper = absurd (grind (arith, nat_tests))
    at false p false q deeper = deeper

serial_below : (h : History) (o t : ℕ) → 0 < t → serial (before h t) o < t
serial_below h o t positive = at (newest (revisions (before h t)) o) refl
  where
    at : (r : Option Revision) → newest (revisions (before h t)) o ≡ r → serial_of r < t
    at None e = positive
    at (Some r) e = below o t h.transactions r e

-- what an object was at its serial before t is what it was before t
pub value_at_serial : (h : History) (o t : ℕ) → 0 < t → value (upto h (serial (before h t) o)) o ≡ value (before h t) o
value_at_serial h o t positive =
    let s = serial (before h t) o in
    ap (λ xs. value_of (newest (revs xs) o)) (sym (within s t h.transactions (serial_below h o t positive)))
    ∙ ap value_of (upto_serial o s (before h t).transactions (omega arith))
