-- Numbers of records: more of them, the marks by them, and the places by them.
use Rattle.std.proofs.Common.{◌≡◌, ℕ, suc, ◌+◌, ◌-◌, ◌<◌, ◌==◌, ◌&&◌, ◌||◌, Bool, true, false, cond, not, List, [], ◌∷◌, ◌++◌, map, length, take, get_or, set, replicate, nat_lt, Option, None, Some, refl, sym, ap, ap₂, subst, ◌∙◌, arith, append_assoc, eq-eqb, eqb-true, ne_eqb, lt-ltb, if◌then◌else◌}
use Rattle.std.specs.List.{AllByRecursion}
use Rattle.std.proofs.lemmas.List.{length-append, take_more}
use Rattle.std.proofs.Math.Seq.{get_or-append_seam}
use Rattle.std.proofs.lemmas.List.Folds.{list_any-append}
use Rattle.zbase.specs.History.{Value}
use Rattle.zbase.specs.declared.ids.Row.{Row}
use Rattle.fs_index.specs.Places.{known}
use Rattle.fs_record.specs.File.{last_place}
use Rattle.fs_scan.specs.Keeping.{starts}
use Rattle.packing.specs.Packed.{has_record}
use Rattle.fs_pack.specs.Chosen.{marks_of}
use Rattle.fs_pack.specs.Marked.{is_in}
use Rattle.fs_pack.specs.Numbered.{last_number, marked_at, oids_of, placed_by}

pub number-append : (o n m : ℕ) (found : Option ℕ) (xs ys : List ℕ) → m ≡ n + length xs → last_number o found n (xs ++ ys) ≡ last_number o (last_number o found n xs) m ys
number-append o n m found [] ys is =
    let same : n ≡ m = omega (arith, is) in
    subst (λ (k : ℕ). last_number o found n ys ≡ last_number o found k ys) same refl
number-append o n m found (x ∷ xs) ys is = number-append o (n + 1) m (if x == o then Some (n + 1) else found) xs ys (omega (arith, is))

-- ---- marks

number_none : (o n : ℕ) (found : Option ℕ) (os : List ℕ) → is_in os o ≡ false → last_number o found n os ≡ found
number_none o n found [] none = refl
number_none o n found (x ∷ xs) none = go (x == o) none (λ (e : is_in xs o ≡ false). number_none o (n + 1) found xs e)
  where
    go : (b : Bool) → (b || is_in xs o) ≡ false → (is_in xs o ≡ false → last_number o found (n + 1) xs ≡ found) → last_number o (cond b (Some (n + 1)) found) (n + 1) xs ≡ found
    go true e deeper = absurd cc
    go false e deeper = deeper e

number_some : (o n : ℕ) (os : List ℕ) → is_in os o ≡ true → (k : ℕ) × ((found : Option ℕ) → last_number o found n os ≡ Some (n + suc k))
number_some o n [] some = absurd cc
number_some o n (x ∷ xs) some = go (is_in xs o) (x == o) refl some (λ (e : is_in xs o ≡ true). number_some o (n + 1) xs e)
  where
    go : (a b : Bool) → is_in xs o ≡ a → (b || a) ≡ true → (is_in xs o ≡ true → (k : ℕ) × ((found : Option ℕ) → last_number o found (n + 1) xs ≡ Some (n + 1 + suc k)))
        → (k : ℕ) × ((found : Option ℕ) → last_number o (cond b (Some (n + 1)) found) (n + 1) xs ≡ Some (n + suc k))
    go true b is e behind =
        let deeper = behind is in
        let far : n + 1 + suc deeper.0 ≡ n + suc (suc deeper.0) = omega arith in
        (suc deeper.0, λ found. deeper.1 (cond b (Some (n + 1)) found) ∙ ap Some far)
    go false true is e behind =
        let near : n + 1 ≡ n + suc 0 = omega arith in
        (0, λ found. number_none o (n + 1) (Some (n + 1)) xs is ∙ ap Some near)
    go false false is e behind = absurd cc

-- the mark of the object's last record is set, found from the front
abbrev mark_last : ℕ → List ℕ → List Bool → List Bool
mark_last o [] ms = ms
mark_last o (x ∷ xs) [] = []
mark_last o (x ∷ xs) (m ∷ ms) = (m || ((x == o) && not (is_in xs o))) ∷ mark_last o xs ms

abbrev at_behind : ℕ → Option ℕ → List Bool → List Bool
at_behind n None ms = ms
at_behind n (Some k) ms = set ms (k - (n + 1)) true

or_false : (m : Bool) → (m || false) ≡ m
or_false true = refl
or_false false = refl

or_none : (m b : Bool) → (m || (b && false)) ≡ m
or_none m true = or_false m
or_none m false = or_false m

or_true : (m : Bool) → (m || true) ≡ true
or_true true = refl
or_true false = refl

by_number : (o n : ℕ) (os : List ℕ) (ms : List Bool) → length ms ≡ length os → at_behind n (last_number o None n os) ms ≡ mark_last o os ms
by_number o n [] ms long = refl
by_number o n (x ∷ xs) [] long = absurd (omega (arith, long))
by_number o n (x ∷ xs) (m ∷ ms) long = go (is_in xs o) (x == o) refl (by_number o (n + 1) xs ms (omega (arith, long)))
  where
    go : (a b : Bool) → is_in xs o ≡ a → at_behind (n + 1) (last_number o None (n + 1) xs) ms ≡ mark_last o xs ms
        → at_behind n (last_number o (cond b (Some (n + 1)) None) (n + 1) xs) (m ∷ ms) ≡ (m || (b && not a)) ∷ mark_last o xs ms
    go true b is deeper =
        let some = number_some o (n + 1) xs is in
        let k = some.0 in
        let far : n + 1 + suc k - (n + 1) ≡ suc k = omega arith in
        let near : n + 1 + suc k - (n + 1 + 1) ≡ k = omega arith in
        ap (λ (f : Option ℕ). at_behind n f (m ∷ ms)) (some.1 (cond b (Some (n + 1)) None))
        ∙ ap (λ (i : ℕ). set (m ∷ ms) i true) far
        ∙ ap₂ (λ (c : Bool) (cs : List Bool). c ∷ cs) (sym (or_none m b)) (sym (ap (λ (f : Option ℕ). at_behind (n + 1) f ms) (some.1 None) ∙ ap (λ (i : ℕ). set ms i true) near) ∙ deeper)
    go false true is deeper =
        let none : last_number o (Some (n + 1)) (n + 1) xs ≡ Some (n + 1) = number_none o (n + 1) (Some (n + 1)) xs is in
        let zero : n + 1 - (n + 1) ≡ 0 = omega arith in
        ap (λ (f : Option ℕ). at_behind n f (m ∷ ms)) none
        ∙ ap (λ (i : ℕ). set (m ∷ ms) i true) zero
        ∙ ap₂ (λ (c : Bool) (cs : List Bool). c ∷ cs) (sym (or_true m)) (sym (ap (λ (f : Option ℕ). at_behind (n + 1) f ms) (number_none o (n + 1) None xs is)) ∙ deeper)
    go false false is deeper =
        ap (λ (f : Option ℕ). at_behind n f (m ∷ ms)) (number_none o (n + 1) None xs is)
        ∙ ap₂ (λ (c : Bool) (cs : List Bool). c ∷ cs) (sym (or_false m)) (sym (ap (λ (f : Option ℕ). at_behind (n + 1) f ms) (number_none o (n + 1) None xs is)) ∙ deeper)

from_one : (found : Option ℕ) (ms : List Bool) → marked_at found ms ≡ at_behind 0 found ms
from_one None ms = refl
from_one (Some k) ms = refl

in_oids : (o : ℕ) (rs : List (ℕ × Value)) → has_record o rs ≡ is_in (oids_of rs) o
in_oids o [] = refl
in_oids o (r ∷ rs) = ap (λ (b : Bool). (r.0 == o) || b) (in_oids o rs)

-- one object more is kept
marks_last : (keep new : ℕ → Bool) (o : ℕ) (rs : List (ℕ × Value)) → ((p : ℕ) → new p ≡ (keep p || (o == p))) → marks_of new rs ≡ mark_last o (oids_of rs) (marks_of keep rs)
marks_last keep new o [] more = refl
marks_last keep new o (r ∷ rs) more =
    ap₂ (λ (b : Bool) (ms : List Bool). b ∷ ms) (ap (λ (b : Bool). b && not (has_record r.0 rs)) (more r.0) ∙ head (o == r.0) (r.0 == o) refl refl) (marks_last keep new o rs more)
  where
    head : (a b : Bool) → (o == r.0) ≡ a → (r.0 == o) ≡ b → ((keep r.0 || a) && not (has_record r.0 rs)) ≡ ((keep r.0 && not (has_record r.0 rs)) || (b && not (is_in (oids_of rs) o)))
    head true true p q =
        let here : has_record r.0 rs ≡ is_in (oids_of rs) o = in_oids r.0 rs ∙ ap (is_in (oids_of rs)) (eqb-true r.0 o q) in
        ap (λ (h : Bool). (keep r.0 || true) && not h) here ∙ both (keep r.0) (is_in (oids_of rs) o) ∙ sym (ap (λ (h : Bool). (keep r.0 && not h) || not (is_in (oids_of rs) o)) here)
      where
        both : (k h : Bool) → ((k || true) && not h) ≡ ((k && not h) || not h)
        both true true = refl
        both true false = refl
        both false h = refl
    head false false p q = ap (λ (k : Bool). k && not (has_record r.0 rs)) (or_false (keep r.0)) ∙ sym (or_false (keep r.0 && not (has_record r.0 rs)))
    head true false p q = absurd (other (sym q ∙ eq-eqb r.0 o (sym (eqb-true o r.0 p))))
      where
        other : false ≡ true → ⊥
        other e = cc
    head false true p q = absurd (other (sym p ∙ eq-eqb o r.0 (sym (eqb-true r.0 o q))))
      where
        other : false ≡ true → ⊥
        other e = cc

length_marks : (keep : ℕ → Bool) (rs : List (ℕ × Value)) → length (marks_of keep rs) ≡ length (oids_of rs)
length_marks keep [] = refl
length_marks keep (r ∷ rs) = omega (arith, length_marks keep rs)

-- the marks of the first objects, and of one more
pub marks_none : (rs : List (ℕ × Value)) → replicate (length (oids_of rs)) false ≡ marks_of (is_in []) rs
marks_none [] = refl
marks_none (r ∷ rs) = ap (λ (ms : List Bool). false ∷ ms) (marks_none rs)

pub marks_more : (kept : List ℕ) (i : ℕ) (rs : List (ℕ × Value)) → i < length kept
    → marked_at (last_number (get_or kept i 0) None 0 (oids_of rs)) (marks_of (is_in (take i kept)) rs) ≡ marks_of (is_in (take (i + 1) kept)) rs
marks_more kept i rs within =
    let o = get_or kept i 0 in
    from_one (last_number o None 0 (oids_of rs)) (marks_of (is_in (take i kept)) rs)
    ∙ by_number o 0 (oids_of rs) (marks_of (is_in (take i kept)) rs) (length_marks (is_in (take i kept)) rs)
    ∙ sym (marks_last (is_in (take i kept)) (is_in (take (i + 1) kept)) o rs (λ p. ap (λ (os : List ℕ). is_in os p) (take_more kept i 0 within) ∙ list_any-append (λ q. q == p) (take i kept) (o ∷ []) ∙ ap (λ (b : Bool). is_in (take i kept) p || b) (or_false (o == p))))

-- ---- places

-- no record stands at 0
abbrev pub ArePlaced : List Row → Type 0
ArePlaced = AllByRecursion (λ (r : Row). 0 < r.place)

placed_there : (places ps rest : List ℕ) (p : ℕ) → places ≡ ps ++ p ∷ rest → 0 < p → placed_by places (Some (length ps + 1)) ≡ known p
placed_there places ps rest p is placed =
    let one : length ps + 1 - 1 ≡ length ps = omega arith in
    let within : length ps < length (ps ++ p ∷ rest) = omega (arith, length-append ps (p ∷ rest)) in
    ap (λ (n : ℕ). if nat_lt n (length places) then Some (get_or places n 0) else None) one
    ∙ ap (λ (qs : List ℕ). if nat_lt (length ps) (length qs) then Some (get_or qs (length ps) 0) else None) is
    ∙ ap (λ (b : Bool). if b then Some (get_or (ps ++ p ∷ rest) (length ps) 0) else None) (lt-ltb (length ps) (length (ps ++ p ∷ rest)) within)
    ∙ ap Some (get_or-append_seam ps p rest 0)
    ∙ sym (ap (λ (b : Bool). cond b None (Some p)) (ne_eqb p 0 (λ e. omega (arith, placed, e))))

pub placed_last : (places : List ℕ) (o found : ℕ) (number : Option ℕ) (ps : List ℕ) (rs : List Row) (rest : List ℕ) → places ≡ ps ++ (starts rs ++ rest) → ArePlaced rs → placed_by places number ≡ known found
    → placed_by places (last_number o number (length ps) (map (λ (r : Row). r.oid) rs)) ≡ known (last_place o found rs)
placed_last places o found number ps [] rest is placed same = same
placed_last places o found number ps (r ∷ rs) rest is placed same =
    ap (λ (n : ℕ). placed_by places (last_number o (if r.oid == o then Some (length ps + 1) else number) n (map (λ (q : Row). q.oid) rs))) (sym (length-append ps (r.place ∷ [])))
    ∙ placed_last places o (if r.oid == o then r.place else found) (if r.oid == o then Some (length ps + 1) else number) (ps ++ r.place ∷ []) rs rest (is ∙ sym (append_assoc ps (r.place ∷ []) (starts rs ++ rest))) placed.1 (choose (r.oid == o))
  where
    choose : (b : Bool) → placed_by places (cond b (Some (length ps + 1)) number) ≡ known (cond b r.place found)
    choose true = placed_there places ps (starts rs ++ rest) r.place is placed.0
    choose false = same
