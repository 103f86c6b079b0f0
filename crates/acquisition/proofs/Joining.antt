-- A path and the objects behind it, each once.
use Rattle.std.proofs.Common.{ℕ, ◌≡◌, ◌<◌, ◌%◌, ◌⊎◌, inl, inr, ◌||◌, ◌∙◌, refl, sym, ap, subst, Bool, true, false, if◌then◌else◌, List, [], ◌∷◌, ◌++◌, length, get_or, set, take, drop, nat_eq, eqb-true, append-nil, append_assoc, not, cond}
use Rattle.std.specs.List.{list_any}
use Rattle.std.proofs.lemmas.Bool.{eq-eqb, eqb-false}
use Rattle.std.proofs.lemmas.List.{get_or-set_same, get_or-set_other, take-append-drop}
use Rattle.std.proofs.lemmas.List.Elements.{filter-append}
use Rattle.acquisition.specs.Acquiring.{IsOnce, has, put, joined}
use Rattle.acquisition.specs.Marks.{is_marked, AreMarked, others}

-- ---- marks

-- those that aren't left are marked
abbrev pub MarkedBut : List Bool → List ℕ → List ℕ → Type 0
MarkedBut marks left path = (o : ℕ) → has path o ≡ true → (has left o ≡ true) ⊎ (is_marked marks o ≡ true)

pub marked_first : (marks : List Bool) (path : List ℕ) → MarkedBut marks path path
marked_first marks path o there = inl there

pub marked_all : (marks : List Bool) (path : List ℕ) → MarkedBut marks [] path → AreMarked marks path
marked_all marks path each o there = at (each o there)
  where
    at : (false ≡ true) ⊎ (is_marked marks o ≡ true) → is_marked marks o ≡ true
    at (inl e) = absurd (let bad = e in cc)
    at (inr is) = is

-- a mark that is set stays so
still_marked : (marks : List Bool) (x o : ℕ) → x % 8192 < length marks → is_marked marks o ≡ true → is_marked (set marks (x % 8192) true) o ≡ true
still_marked marks x o within is = at (nat_eq (o % 8192) (x % 8192)) refl
  where
    at : (b : Bool) → nat_eq (o % 8192) (x % 8192) ≡ b → get_or (set marks (x % 8192) true) (o % 8192) false ≡ true
    at true e = subst (λ n. get_or (set marks (x % 8192) true) n false ≡ true) (sym (eqb-true (o % 8192) (x % 8192) e)) (get_or-set_same marks (x % 8192) true false within)
    at false e = get_or-set_other marks (x % 8192) (o % 8192) true false (eqb-false (o % 8192) (x % 8192) e) ∙ is

pub marked_next : (marks : List Bool) (x : ℕ) (left path : List ℕ) → x % 8192 < length marks → MarkedBut marks (x ∷ left) path → MarkedBut (set marks (x % 8192) true) left path
marked_next marks x left path within each o there = at (each o there)
  where
    first : (b : Bool) → nat_eq x o ≡ b → (b || has left o) ≡ true → (has left o ≡ true) ⊎ (is_marked (set marks (x % 8192) true) o ≡ true)
    first true e t = inr (subst (λ z. is_marked (set marks (x % 8192) true) z ≡ true) (eqb-true x o e) (get_or-set_same marks (x % 8192) true false within))
    first false e t = inl t

    at : ((nat_eq x o || has left o) ≡ true) ⊎ (is_marked marks o ≡ true) → (has left o ≡ true) ⊎ (is_marked (set marks (x % 8192) true) o ≡ true)
    at (inl t) = first (nat_eq x o) refl t
    at (inr is) = inr (still_marked marks x o within is)

-- one that isn't marked isn't on the path
pub unmarked : (marks : List Bool) (path : List ℕ) (o : ℕ) → AreMarked marks path → get_or marks (o % 8192) false ≡ false → has path o ≡ false
unmarked marks path o each none = at (has path o) refl
  where
    at : (b : Bool) → has path o ≡ b → b ≡ false
    at false e = refl
    at true e = (let marked = each o e in cc)

-- ---- joining

-- of the objects that are left, those that stand in the list are those of the path
abbrev pub OnlyPath : List ℕ → List ℕ → List ℕ → Type 0
OnlyPath path out left = (o : ℕ) → has left o ≡ true → has out o ≡ has path o

has_behind : (y x : ℕ) (out : List ℕ) → nat_eq x y ≡ false → has (out ++ x ∷ []) y ≡ has out y
has_behind y x [] other = ap (λ b. b || false) other
has_behind y x (o ∷ os) other = ap (λ b. nat_eq o y || b) (has_behind y x os other)

or_right : (a b : Bool) → b ≡ true → (a || b) ≡ true
or_right true b e = refl
or_right false b e = e

same_here : (x : ℕ) (left : List ℕ) → has (x ∷ left) x ≡ true
same_here x left = ap (λ b. b || has left x) (eq-eqb x x refl)

pub only_next : (path out : List ℕ) (x : ℕ) (left : List ℕ) → IsOnce (x ∷ left) → OnlyPath path out (x ∷ left) → OnlyPath path (put out x) left
only_next path out x left once only o there = at (has out x) ∙ only o (or_right (nat_eq x o) (has left o) there)
  where
    differs : (b : Bool) → nat_eq x o ≡ b → b ≡ false
    differs false e = refl
    differs true e = (let same = eqb-true x o e in let t = subst (λ z. has left z ≡ true) (sym same) there in let none = once.0 in cc)

    at : (b : Bool) → has (if b then out else out ++ x ∷ []) o ≡ has out o
    at true = refl
    at false = has_behind o x out (differs (nat_eq x o) refl)

-- where each object stands once, those that aren't on the path are put behind it
pub joined_is : (path out xs : List ℕ) → IsOnce xs → OnlyPath path out xs → joined out xs ≡ out ++ others path xs
joined_is path out [] once only = sym (append-nil out)
joined_is path out (x ∷ xs) once only = joined_is path (put out x) xs once.1 (only_next path out x xs once only) ∙ at (has path x) (only x (same_here x xs))
  where
    at : (b : Bool) → has out x ≡ b → (if has out x then out else out ++ x ∷ []) ++ others path xs ≡ out ++ cond (not b) (x ∷ others path xs) (others path xs)
    at true e = ap (λ t. (if t then out else out ++ x ∷ []) ++ others path xs) e
    at false e = ap (λ t. (if t then out else out ++ x ∷ []) ++ others path xs) e ∙ append_assoc out (x ∷ []) (others path xs)

pub joined_behind : (path xs made : List ℕ) → IsOnce xs → made ≡ path ++ others path xs → made ≡ joined path xs
joined_behind path xs made once is = is ∙ sym (joined_is path path xs once (λ o there. refl))

-- ---- blocks of objects

neither : (a b : Bool) → (a || b) ≡ false → (a ≡ false) × (b ≡ false)
neither true b e = absurd (let bad = e in cc)
neither false b e = (refl, e)

-- where none is marked, none is on the path
pub all_others : (marks : List Bool) (path xs : List ℕ) → AreMarked marks path → list_any (is_marked marks) xs ≡ false → others path xs ≡ xs
all_others marks path [] each none = refl
all_others marks path (x ∷ xs) each none =
    let h = neither (is_marked marks x) (list_any (is_marked marks) xs) none in
    ap (λ b. cond (not b) (x ∷ others path xs) (others path xs)) (unmarked marks path x each h.0) ∙ ap (λ ys. x ∷ ys) (all_others marks path xs each h.1)

-- a block was put, and stands before the rest
pub block_is_put : (path made xs front back all : List ℕ) (n : ℕ) → front ≡ take n xs → back ≡ drop n xs → made ++ others path xs ≡ all → (made ++ others path front) ++ others path back ≡ all
block_is_put path made xs front back all n f b is =
    append_assoc made (others path front) (others path back)
    ∙ ap (λ ys. made ++ (others path ys ++ others path back)) f
    ∙ ap (λ ys. made ++ (others path (take n xs) ++ others path ys)) b
    ∙ ap (λ ys. made ++ ys) (sym (filter-append (λ o. not (has path o)) (take n xs) (drop n xs)))
    ∙ ap (λ ys. made ++ others path ys) (take-append-drop n xs)
    ∙ is

pub all_are_put : (path made xs all : List ℕ) → length xs ≡ 0 → made ++ others path xs ≡ all → made ≡ all
all_are_put path made [] all none is = sym (append-nil made) ∙ is
all_are_put path made (x ∷ xs) all none is = absurd (let bad = none in cc)

-- ---- what is joined stands once

other_way : (x y : ℕ) → nat_eq x y ≡ false → nat_eq y x ≡ false
other_way x y e = at (nat_eq y x) refl
  where
    at : (b : Bool) → nat_eq y x ≡ b → b ≡ false
    at false is = refl
    at true is = (let same = eqb-true y x is in let t = subst (λ z. nat_eq z y ≡ false) (sym same) e in let f = eq-eqb y y refl in cc)

behind_once : (out : List ℕ) (x : ℕ) → IsOnce out → has out x ≡ false → IsOnce (out ++ x ∷ [])
behind_once [] x once none = (refl, tt)
behind_once (o ∷ os) x once none = at (nat_eq o x) refl none (behind_once os x once.1)
  where
    at : (b : Bool) → nat_eq o x ≡ b → (b || has os x) ≡ false → (has os x ≡ false → IsOnce (os ++ x ∷ [])) → (has (os ++ x ∷ []) o ≡ false) × IsOnce (os ++ x ∷ [])
    at true e t deeper = absurd (let bad = t in cc)
    at false e t deeper = (has_behind o x os (other_way o x e) ∙ once.0, deeper t)

put_once : (out : List ℕ) (x : ℕ) → IsOnce out → IsOnce (put out x)
put_once out x once = at (has out x) refl
  where
    at : (b : Bool) → has out x ≡ b → IsOnce (if b then out else out ++ x ∷ [])
    at true e = once
    at false e = behind_once out x once e

pub joined_once : (out xs : List ℕ) → IsOnce out → IsOnce (joined out xs)
joined_once out [] once = once
joined_once out (x ∷ xs) once = joined_once (put out x) xs (put_once out x once)
