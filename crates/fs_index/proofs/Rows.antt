-- Places in rows and in a tree: one put, one that a row takes over, and a row that begins.
use Rattle.std.proofs.Common.{◌≡◌, ℕ, ◌+◌, ◌*◌, ◌/◌, ◌%◌, ◌<◌, Bool, true, false, Option, Some, None, IsSome, List, [], ◌∷◌, ◌++◌, length, get_or, refl, sym, ap, subst, ◌∙◌, cond, ltb, eqb, arith}
use Rattle.std.proofs.Math.ListN.{set}
use Rattle.std.specs.Prelude.{◌==◌, if◌then◌else◌}
use Rattle.std.specs.Map.{lookup}
use Rattle.std.proofs.lemmas.Bool.{ltb-true, ltb-false, lt-ltb, le-ltb, eqb-true, eqb-false, ne_eqb, eq-eqb, false≢true}
use Rattle.std.proofs.lemmas.Grind.{get_or-set_at}
use Rattle.std.proofs.lemmas.List.{length-set, length-append, get_or-set_other, get_or_append_left, get_or-append-add}
use Rattle.std.specs.declared.cmp.Ordering.TheVariants.{Less, Equal, Greater}
use Rattle.std.specs.Ordering.{is_eq, nat_cmp}
use Rattle.std.specs.BTreeMap.{is_at}
use Rattle.fs_index.specs.Places.{Slots, Keeps, alone, known_in, is_in_row, or_zero, reaches, slot_in, slot_of}

one_of : (p q : Bool) → (p ≡ true → q ≡ false) → is_eq (cond p Less (cond q Equal Greater)) ≡ q
one_of true true h = absurd (false≢true (sym (h refl)))
one_of true false h = refl
one_of false true h = refl
one_of false false h = refl

pub at_same : (a o : ℕ) → is_at (nat_cmp a) o ≡ (a == o)
at_same a o = one_of (ltb a o) (eqb a o) (λ p. ne_eqb a o (λ e. omega (arith, ltb-true a o p, e)))

pub slot_is : (s : Slots) (o : ℕ) → slot_of s o ≡ slot_in (lookup (is_at (nat_cmp (o / 65536))) s.rows) (o % 65536) (lookup (is_at (nat_cmp o)) s.few)
unfolding slot_of
slot_is s o = refl

pub reached : (s : Slots) (id : ℕ) (places : List ℕ) → is_in_row s id ≡ true → Some places ≡ lookup (is_at (nat_cmp (id / 65536))) s.rows → id % 65536 < length places
unfolding is_in_row
reached s id places is found = ltb-true (id % 65536) (length places) (ap (λ (f : Option (List ℕ)). reaches f (id % 65536)) found ∙ is)

pub unreached : (s : Slots) (id : ℕ) → is_in_row s id ≡ true → None ≡ lookup (is_at (nat_cmp (id / 65536))) s.rows → ⊥
unfolding is_in_row
unreached s id is none = false≢true (ap (λ (f : Option (List ℕ)). reaches f (id % 65536)) none ∙ is)

-- ---- a place put in a row

in_place : (t : Bool) (places : List ℕ) (i j place : ℕ) (other : Option ℕ) → i < length places → (i == j) ≡ t → slot_in (Some (set places i place)) j other ≡ cond t (Some place) (slot_in (Some places) j other)
in_place true places i j place other within is =
    let e : i ≡ j = eqb-true i j is in
    rw (lt-ltb j (length (set places i place)) (omega (arith, length-set places i place, e, within))) (ap Some (get_or-set_at places i j place 0 (sym e) within))
in_place false places i j place other within is = rw (length-set places i place, get_or-set_other places i j place 0 (λ e. eqb-false i j is (sym e))) refl

one_row : (t u : Bool) (found : Option (List ℕ)) (places : List ℕ) (id o place : ℕ) (other : Option ℕ) → (id / 65536 == o / 65536) ≡ t → (id % 65536 == o % 65536) ≡ u → id % 65536 < length places → (t ≡ true → found ≡ Some places) → slot_in (cond t (Some (set places (id % 65536) place)) found) (o % 65536) other ≡ (if id == o then Some place else slot_in found (o % 65536) other)
one_row true true found places id o place other row number within was =
    let e : id ≡ o = omega (arith, eqb-true (id / 65536) (o / 65536) row, eqb-true (id % 65536) (o % 65536) number) in
    rw (eq-eqb id o e) (in_place true places (id % 65536) (o % 65536) place other within number)
one_row true false found places id o place other row number within was =
    rw (ne_eqb id o (λ e. eqb-false (id % 65536) (o % 65536) number (ap (λ (n : ℕ). n % 65536) e)), was refl) (in_place false places (id % 65536) (o % 65536) place other within number)
one_row false u found places id o place other row number within was =
    rw (ne_eqb id o (λ e. eqb-false (id / 65536) (o / 65536) row (ap (λ (n : ℕ). n / 65536) e))) refl

pub row_put : (s new : Slots) (places : List ℕ) (id place : ℕ) → lookup (is_at (nat_cmp (id / 65536))) s.rows ≡ Some places → id % 65536 < length places → new.few ≡ s.few → ((n : ℕ) → lookup (is_at (nat_cmp n)) new.rows ≡ cond (is_at (nat_cmp (id / 65536)) n) (Some (set places (id % 65536) place)) (lookup (is_at (nat_cmp n)) s.rows)) → (o : ℕ) → slot_of new o ≡ (if id == o then Some place else slot_of s o)
row_put s new places id place found within few put o =
    slot_is new o
    ∙ ap (λ (f : Option (List ℕ)). slot_in f (o % 65536) (lookup (is_at (nat_cmp o)) new.few)) (put (o / 65536) ∙ ap (λ (t : Bool). cond t (Some (set places (id % 65536) place)) (lookup (is_at (nat_cmp (o / 65536))) s.rows)) (at_same (id / 65536) (o / 65536)))
    ∙ one_row (id / 65536 == o / 65536) (id % 65536 == o % 65536) (lookup (is_at (nat_cmp (o / 65536))) s.rows) places id o place (lookup (is_at (nat_cmp o)) new.few) refl refl within (λ is. ap (λ (n : ℕ). lookup (is_at (nat_cmp n)) s.rows) (sym (eqb-true (id / 65536) (o / 65536) is)) ∙ found)
    ∙ ap (λ (f : Option ℕ). if id == o then Some place else f) (ap (λ (few : List (ℕ × ℕ)). slot_in (lookup (is_at (nat_cmp (o / 65536))) s.rows) (o % 65536) (lookup (is_at (nat_cmp o)) few)) few ∙ sym (slot_is s o))

-- ---- what stays

-- the same place, and room where there was room
abbrev pub Stays : Option ℕ → Option ℕ → Type 0
Stays a b = (known_in b ≡ known_in a) × (IsSome a → IsSome b)

stays : (a : Option ℕ) → Stays a a
stays a = (refl, λ has. has)

choose : (t : Bool) (x a b : Option ℕ) → Stays a b → Stays (if t then x else a) (if t then x else b)
choose true x a b s = stays x
choose false x a b s = s

behind : (found : Option (List ℕ)) (i : ℕ) (a b : Option ℕ) → Stays a b → Stays (slot_in found i a) (slot_in found i b)
behind None i a b s = s
behind (Some places) i a b s = choose (ltb i (length places)) (Some (get_or places i 0)) a b s

all_stay : (s new : Slots) → ((o : ℕ) → Stays (slot_of s o) (slot_of new o)) → Keeps s new
all_stay s new each = record { places = λ o. (each o).0; room = λ o. (each o).1 }

alone_is : (n o : ℕ) (places : List ℕ) (few : List (ℕ × ℕ)) → slot_of (alone n places few) o ≡ slot_in (cond (o / 65536 == n) (Some places) None) (o % 65536) (lookup (is_at (nat_cmp o)) few)
alone_is n o places few = slot_is (alone n places few) o ∙ ap (λ (t : Bool). slot_in (cond t (Some places) None) (o % 65536) (lookup (is_at (nat_cmp o)) few)) (at_same (o / 65536) n)

-- ---- one row changes

one_kept : (t : Bool) (found : Option (List ℕ)) (places next : List ℕ) (i : ℕ) (a b : Option ℕ) → (t ≡ true → found ≡ Some places) → Stays (slot_in (cond t (Some places) None) i a) (slot_in (cond t (Some next) None) i b) → Stays (slot_in found i a) (slot_in (cond t (Some next) found) i b)
one_kept true found places next i a b was s = rw (was refl) s
one_kept false found places next i a b was s = behind found i a b s

turned : (n m : ℕ) → (n == m) ≡ (m == n)
turned n m = by_cases (n == m) refl
  where
    by_cases : (t : Bool) → (n == m) ≡ t → (n == m) ≡ (m == n)
    by_cases true is = is ∙ sym (eq-eqb m n (sym (eqb-true n m is)))
    by_cases false is = is ∙ sym (ne_eqb m n (λ e. eqb-false n m is (sym e)))

pub row_kept : (s new : Slots) (places next : List ℕ) (n : ℕ) → lookup (is_at (nat_cmp n)) s.rows ≡ Some places → ((m : ℕ) → lookup (is_at (nat_cmp m)) new.rows ≡ cond (is_at (nat_cmp n) m) (Some next) (lookup (is_at (nat_cmp m)) s.rows)) → Keeps (alone n places s.few) (alone n next new.few) → Keeps s new
row_kept s new places next n found changed kept = all_stay s new each
  where
    each : (o : ℕ) → Stays (slot_of s o) (slot_of new o)
    each o =
        let mine : Stays (slot_of (alone n places s.few) o) (slot_of (alone n next new.few) o) = (kept.places o, kept.room o) in
        let told = rw (alone_is n o places s.few, alone_is n o next new.few) at mine in
        let row = changed (o / 65536) ∙ ap (λ (t : Bool). cond t (Some next) (lookup (is_at (nat_cmp (o / 65536))) s.rows)) (at_same n (o / 65536) ∙ turned n (o / 65536)) in
        rw (slot_is s o, slot_is new o, row) (one_kept (o / 65536 == n) (lookup (is_at (nat_cmp (o / 65536))) s.rows) places next (o % 65536) (lookup (is_at (nat_cmp o)) s.few) (lookup (is_at (nat_cmp o)) new.few)
        (λ is. ap (λ (m : ℕ). lookup (is_at (nat_cmp m)) s.rows) (eqb-true (o / 65536) n is) ∙ found) told)

-- ---- a row begins

begun : (t : Bool) (found : Option (List ℕ)) (i : ℕ) (a : Option ℕ) → (t ≡ true → found ≡ None) → slot_in (cond t (Some []) found) i a ≡ slot_in found i a
begun true found i a none = rw (none refl, le-ltb i 0 (omega arith)) refl
begun false found i a none = refl

pub row_begun : (s new : Slots) (n : ℕ) → lookup (is_at (nat_cmp n)) s.rows ≡ None → new.few ≡ s.few → ((m : ℕ) → lookup (is_at (nat_cmp m)) new.rows ≡ cond (is_at (nat_cmp n) m) (Some []) (lookup (is_at (nat_cmp m)) s.rows)) → Keeps s new
row_begun s new n none few changed = all_stay s new (λ o. subst (Stays (slot_of s o)) (sym (same o)) (stays (slot_of s o)))
  where
    same : (o : ℕ) → slot_of new o ≡ slot_of s o
    same o =
        slot_is new o
        ∙ ap (λ (f : Option (List ℕ)). slot_in f (o % 65536) (lookup (is_at (nat_cmp o)) new.few)) (changed (o / 65536) ∙ ap (λ (t : Bool). cond t (Some []) (lookup (is_at (nat_cmp (o / 65536))) s.rows)) (at_same n (o / 65536)))
        ∙ begun (n == o / 65536) (lookup (is_at (nat_cmp (o / 65536))) s.rows) (o % 65536) (lookup (is_at (nat_cmp o)) new.few) (λ is. ap (λ (m : ℕ). lookup (is_at (nat_cmp m)) s.rows) (sym (eqb-true n (o / 65536) is)) ∙ none)
        ∙ ap (λ (f : List (ℕ × ℕ)). slot_in (lookup (is_at (nat_cmp (o / 65536))) s.rows) (o % 65536) (lookup (is_at (nat_cmp o)) f)) few
        ∙ sym (slot_is s o)

-- ---- a row takes a place over

last_there : (places : List ℕ) (i place : ℕ) → i ≡ length places → get_or (places ++ place ∷ []) i 0 ≡ place
last_there places i place e = ap (λ (k : ℕ). get_or (places ++ place ∷ []) k 0) (omega (arith, e)) ∙ get_or-append-add places (place ∷ []) 0 0

arrived : (found : Option ℕ) → Stays found (Some (or_zero found))
arrived None = (refl, λ has. refl)
arrived (Some place) = stays (Some place)

-- where the number stands to the row's end
added : (below here : Bool) (places : List ℕ) (i place : ℕ) (a b : Option ℕ) → ltb i (length places) ≡ below → (i == length places) ≡ here → (here ≡ true → place ≡ or_zero a) → (here ≡ false → b ≡ a) → Stays (slot_in (Some places) i a) (slot_in (Some (places ++ place ∷ [])) i b)
added true here places i place a b lt at is other =
    let less = ltb-true i (length places) lt in
    rw (lt, lt-ltb i (length (places ++ place ∷ [])) (omega (arith, length-append places (place ∷ []), less)), get_or_append_left places (place ∷ []) 0 i less) (stays (Some (get_or places i 0)))
added false true places i place a b lt at is other =
    let e = eqb-true i (length places) at in
    rw (lt, lt-ltb i (length (places ++ place ∷ [])) (omega (arith, length-append places (place ∷ []), e)), last_there places i place e, is refl) (arrived a)
added false false places i place a b lt at is other =
    let no = eqb-false i (length places) at in
    rw (lt, le-ltb i (length (places ++ place ∷ [])) (omega (arith, length-append places (place ∷ []), ltb-false i (length places) lt, no)), other refl) (stays a)

one_over : (t u : Bool) (n o : ℕ) (places : List ℕ) (place : ℕ) (a b : Option ℕ) → (o / 65536 == n) ≡ t → (n * 65536 + length places == o) ≡ u → length places < 65536 → (u ≡ true → place ≡ or_zero a) → (u ≡ false → b ≡ a) → Stays (slot_in (cond t (Some places) None) (o % 65536) a) (slot_in (cond t (Some (places ++ place ∷ [])) None) (o % 65536) b)
one_over false true n o places place a b row at short is other = absurd (eqb-false (o / 65536) n row (omega (arith, eqb-true (n * 65536 + length places) o at, short)))
one_over false false n o places place a b row at short is other = rw (other refl) (stays a)
one_over true true n o places place a b row at short is other =
    let e = eqb-true (n * 65536 + length places) o at in
    added (ltb (o % 65536) (length places)) true places (o % 65536) place a b refl (eq-eqb (o % 65536) (length places) (omega (arith, e, short))) (λ _. is refl) (λ no. absurd (false≢true (sym no)))
one_over true false n o places place a b row at short is other =
    let e = eqb-true (o / 65536) n row in
    added (ltb (o % 65536) (length places)) false places (o % 65536) place a b refl (ne_eqb (o % 65536) (length places) (λ here. eqb-false (n * 65536 + length places) o at (omega (arith, e, here)))) (λ no. absurd (false≢true no)) (λ _. other refl)

pub taken_over : (n place : ℕ) (places : List ℕ) (few after : List (ℕ × ℕ)) → length places < 65536 → place ≡ or_zero (lookup (is_at (nat_cmp (n * 65536 + length places))) few) → ((q : ℕ) → lookup (is_at (nat_cmp q)) after ≡ cond (is_at (nat_cmp (n * 65536 + length places)) q) None (lookup (is_at (nat_cmp q)) few)) → Keeps (alone n places few) (alone n (places ++ place ∷ []) after)
taken_over n place places few after short is gone = all_stay (alone n places few) (alone n (places ++ place ∷ []) after) each
  where
    each : (o : ℕ) → Stays (slot_of (alone n places few) o) (slot_of (alone n (places ++ place ∷ []) after) o)
    each o =
        rw (alone_is n o places few, alone_is n o (places ++ place ∷ []) after)
        (one_over (o / 65536 == n) (n * 65536 + length places == o) n o places place (lookup (is_at (nat_cmp o)) few) (lookup (is_at (nat_cmp o)) after) refl refl short
        (λ at. is ∙ ap (λ (q : ℕ). or_zero (lookup (is_at (nat_cmp q)) few)) (eqb-true (n * 65536 + length places) o at))
        (λ at. gone o ∙ ap (λ (t : Bool). cond t None (lookup (is_at (nat_cmp o)) few)) (at_same (n * 65536 + length places) o ∙ at)))

pub keeps_then : (a b c : Slots) → Keeps a b → Keeps b c → Keeps a c
keeps_then a b c x y = record { places = λ o. y.places o ∙ x.places o; room = λ o has. y.room o (x.room o has) }
