-- What one object more leads to.
use Rattle.std.proofs.Common.{◌≡◌, ℕ, suc, zero, ◌+◌, ◌<◌, ◌≤◌, ◌==◌, ◌||◌, Bool, true, false, cond, List, [], ◌∷◌, ◌++◌, length, take, get_or, Option, None, Some, refl, sym, ap, subst, ◌∙◌, arith, append_assoc, append-nil, nat_lt, eqb-true, eq-eqb, if◌then◌else◌}
use Rattle.std.specs.List.{AllByRecursion}
use Rattle.std.proofs.lemmas.List.{take_more, take-append-le}
use Rattle.std.proofs.lemmas.List.Folds.{list_any-append}
use Rattle.std.proofs.lemmas.Bool.Decides.{nat_tests}
use Rattle.zbase.specs.History.{Value}
use Rattle.packing.specs.Reachable.{Linking, links_in, spells_none}
use Rattle.fs_pack.specs.Marked.{AreIn, IsLeast, Leading, LedTo, added, all_added, broken_by, is_in}

-- ---- lists that grow

added_more : (o : ℕ) (os : List ℕ) → (more : List ℕ) × (added o os ≡ os ++ more)
added_more o os = go (is_in os o)
  where
    go : (b : Bool) → (more : List ℕ) × (cond b os (os ++ o ∷ []) ≡ os ++ more)
    go true = ([], sym (append-nil os))
    go false = (o ∷ [], refl)

pub all_more : (ps os : List ℕ) → (more : List ℕ) × (all_added ps os ≡ os ++ more)
all_more [] os = ([], sym (append-nil os))
all_more (p ∷ ps) os =
    let one = added_more p os in
    let rest = all_more ps (added p os) in
    (one.0 ++ rest.0, rest.1 ∙ ap (λ xs. xs ++ rest.0) one.1 ∙ append_assoc os one.0 rest.0)

pub still_in : (os more : List ℕ) (p : ℕ) → is_in os p ≡ true → is_in (os ++ more) p ≡ true
still_in os more p h = list_any-append (λ q. q == p) os more ∙ ap (λ b. b || is_in more p) h

pub still_all : (os more ps : List ℕ) → AreIn os ps → AreIn (os ++ more) ps
still_all os more [] all = tt
still_all os more (p ∷ ps) all = (still_in os more p all.0, still_all os more ps all.1)

in_added : (o : ℕ) (os : List ℕ) → is_in (added o os) o ≡ true
in_added o os = go (is_in os o) refl
  where
    go : (b : Bool) → is_in os o ≡ b → is_in (cond b os (os ++ o ∷ [])) o ≡ true
    go true e = e
    go false e = list_any-append (λ q. q == o) os (o ∷ []) ∙ ap (λ b. b || ((o == o) || false)) e ∙ ap (λ b. b || false) (eq-eqb o o refl)

pub all_in : (ps os : List ℕ) → AreIn (all_added ps os) ps
all_in [] os = tt
all_in (p ∷ ps) os =
    let rest = all_more ps (added p os) in
    (subst (λ xs. is_in xs p ≡ true) (sym rest.1) (still_in (added p os) rest.0 p (in_added p os)), all_in ps (added p os))

-- a set that has all of them has those that are added from it
abbrev Has : (ℕ → Bool) → List ℕ → Type 0
Has other = AllByRecursion (λ p. other p ≡ true)

all_append : {X : Type 0} (P : X → Type 0) (xs ys : List X) → AllByRecursion P xs → AllByRecursion P ys → AllByRecursion P (xs ++ ys)
all_append P [] ys a b = b
all_append P (x ∷ xs) ys a b = (a.0, all_append P xs ys a.1 b)

has_added : (other : ℕ → Bool) (ps os : List ℕ) → Has other ps → Has other os → Has other (all_added ps os)
has_added other [] os a b = b
has_added other (p ∷ ps) os a b = has_added other ps (added p os) a.1 (go (is_in os p))
  where
    go : (c : Bool) → Has other (cond c os (os ++ p ∷ []))
    go true = b
    go false = all_append (λ q. other q ≡ true) os (p ∷ []) b (a.0, tt)

pub of_all : (P : ℕ → Type 0) (os : List ℕ) (o : ℕ) → AllByRecursion P os → is_in os o ≡ true → P o
of_all P [] o all e = absurd cc
of_all P (p ∷ ps) o all e = go (p == o) refl e (of_all P ps o all.1)
  where
    go : (b : Bool) → (p == o) ≡ b → (b || is_in ps o) ≡ true → (is_in ps o ≡ true → P o) → P o
    go true is e' deeper = subst P (eqb-true p o is) all.0
    go false is e' deeper = deeper e'

-- ---- the least that can't be read, of one more

least_more : (broken : ℕ → Bool) (os : List ℕ) (o : ℕ) (b : Bool) (found : Option ℕ) → broken o ≡ b → IsLeast broken os found → IsLeast broken (os ++ o ∷ []) (broken_by b o found)
least_more broken os o false None e all = all_append (λ p. broken p ≡ false) os (o ∷ []) all (e, tt)
least_more broken os o false (Some p) e all = (still_in os (o ∷ []) p all.0, all.1, all_append (λ q. q < p → broken q ≡ false) os (o ∷ []) all.2 ((λ lt. e), tt))
least_more broken os o true None e all = (last_in, e, all_append (λ q. q < o → broken q ≡ false) os (o ∷ []) (weaker os all) ((λ lt. absurd (omega (arith, lt))), tt))
  where
    last_in : is_in (os ++ o ∷ []) o ≡ true
    last_in = list_any-append (λ q. q == o) os (o ∷ []) ∙ ap (λ c. is_in os o || (c || false)) (eq-eqb o o refl) ∙ or_true (is_in os o)
      where
        or_true : (c : Bool) → (c || (true || false)) ≡ true
        or_true true = refl
        or_true false = refl

    weaker : (ps : List ℕ) → AllByRecursion (λ p. broken p ≡ false) ps → AllByRecursion (λ p. p < o → broken p ≡ false) ps
    weaker [] a = tt
    weaker (p ∷ ps) a = ((λ lt. a.0), weaker ps a.1)
least_more broken os o true (Some p) e all = go (nat_lt p o) refl
  where
    last_in : is_in (os ++ o ∷ []) o ≡ true
    last_in = list_any-append (λ q. q == o) os (o ∷ []) ∙ ap (λ c. is_in os o || (c || false)) (eq-eqb o o refl) ∙ or_true (is_in os o)
      where
        or_true : (c : Bool) → (c || (true || false)) ≡ true
        or_true true = refl
        or_true false = refl

    lower : (ps : List ℕ) → o ≤ p → AllByRecursion (λ q. q < p → broken q ≡ false) ps → AllByRecursion (λ q. q < o → broken q ≡ false) ps
    lower [] le a = tt
    lower (q ∷ ps) le a = ((λ lt. a.0 (omega (arith, lt, le))), lower ps le a.1)

    go : (b : Bool) → nat_lt p o ≡ b → IsLeast broken (os ++ o ∷ []) (Some (if b then p else o))
    go true is = (still_in os (o ∷ []) p all.0, all.1, all_append (λ q. q < p → broken q ≡ false) os (o ∷ []) all.2 ((λ lt. absurd (grind (arith, nat_tests))), tt))
    go false is =
        let le : o ≤ p = grind (arith, nat_tests) in
        (last_in, e, all_append (λ q. q < o → broken q ≡ false) os (o ∷ []) (lower os le all.2) ((λ lt. absurd (omega (arith, lt))), tt))

-- ---- one object more

still_closed : (links : Linking) (meant : ℕ → Value) (now more os : List ℕ) → AllByRecursion (λ o. AreIn now (links_in links (meant o))) os → AllByRecursion (λ o. AreIn (now ++ more) (links_in links (meant o))) os
still_closed links meant now more [] all = tt
still_closed links meant now more (o ∷ os) all = (still_all now more (links_in links (meant o)) all.0, still_closed links meant now more os all.1)

pub led_none : (links : Linking) (meant : ℕ → Value) (old : List ℕ) → LedTo links meant old 0 old None
led_none links meant old = record { more = []; grows = sym (append-nil old); closed = tt; least = λ other leads has. has; fails = tt }

pub led_one : (links : Linking) (meant : ℕ → Value) (old now : List ℕ) (n : ℕ) (broken : Option ℕ) → LedTo links meant old n now broken → n < length now
    → LedTo links meant old (n + 1) (all_added (links_in links (meant (get_or now n 0))) now) (broken_by (spells_none links (meant (get_or now n 0))) (get_or now n 0) broken)
led_one links meant old now n broken led lt =
    let o = get_or now n 0 in
    let ps = links_in links (meant o) in
    let grown = all_more ps now in
    let new = all_added ps now in
    let first : take (n + 1) new ≡ take n now ++ o ∷ [] = ap (take (n + 1)) grown.1 ∙ take-append-le (n + 1) now grown.0 (omega (arith, lt)) ∙ take_more now n 0 lt in
    record {
      more = led.more ++ grown.0;
      grows = grown.1 ∙ ap (λ xs. xs ++ grown.0) led.grows ∙ append_assoc old led.more grown.0;
      closed = subst (AllByRecursion (λ p. AreIn new (links_in links (meant p)))) (sym first)
          (all_append (λ p. AreIn new (links_in links (meant p))) (take n now) (o ∷ [])
          (subst (λ xs. AllByRecursion (λ p. AreIn xs (links_in links (meant p))) (take n now)) (sym grown.1) (still_closed links meant now grown.0 (take n now) led.closed))
          (all_in ps now, tt));
      least = λ other leads has.
          let before = led.least other leads has in
          has_added other ps now (leads o (of_index (λ p. other p ≡ true) now n before lt)) before;
      fails = subst (λ xs. IsLeast (λ p. spells_none links (meant p)) xs (broken_by (spells_none links (meant o)) o broken)) (sym first) (least_more (λ p. spells_none links (meant p)) (take n now) o (spells_none links (meant o)) broken refl led.fails);
    }
  where
    of_index : (P : ℕ → Type 0) (os : List ℕ) (i : ℕ) → AllByRecursion P os → i < length os → P (get_or os i 0)
    of_index P [] i all h = absurd (omega (arith, h))
    of_index P (p ∷ ps) zero all h = all.0
    of_index P (p ∷ ps) (suc i) all h = of_index P ps i all.1 (omega (arith, h))

pub led_all : (links : Linking) (meant : ℕ → Value) (old now : List ℕ) (n : ℕ) (broken : Option ℕ) → LedTo links meant old n now broken → length now ≤ n → Leading links meant old now broken
led_all links meant old now n broken led le =
    let whole : take n now ≡ now = take_all n now le in
    record {
      more = led.more;
      grows = led.grows;
      closed = subst (AllByRecursion (λ o. AreIn now (links_in links (meant o)))) whole led.closed;
      least = led.least;
      fails = subst (λ xs. IsLeast (λ p. spells_none links (meant p)) xs broken) whole led.fails;
    }
  where
    take_all : (k : ℕ) (xs : List ℕ) → length xs ≤ k → take k xs ≡ xs
    take_all zero [] h = refl
    take_all (suc k) [] h = refl
    take_all zero (x ∷ xs) h = absurd (omega (arith, h))
    take_all (suc k) (x ∷ xs) h = ap (λ ys. x ∷ ys) (take_all k xs (omega (arith, h)))
