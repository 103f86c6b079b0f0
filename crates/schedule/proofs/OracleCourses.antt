-- What runs by an oracle is a course.
use Rattle.std.proofs.Common.{◌≡◌, ℕ, List, [], ◌∷◌, Option, Some, None, refl, sym, ap, subst, inl, inr}
use Rattle.std.specs.Prelude.{option_and_then}
use Rattle.schedule.specs.declared.item.Item2.{Item2}
use Rattle.schedule.specs.declared.line.Line.{Line}
use Rattle.schedule.specs.Moments.{Terms, Doing, Free, Waiting, Asking, Computed, Moment, doing, turned, clocked}
use Rattle.schedule.specs.Stepping.{Told, Trouble}
use Rattle.schedule.specs.Courses.{Place, Course, Happens}
use Rattle.schedule.proofs.Oracle.{given, happens_by, ran_on, ran}

given_happens : {R : Type 0} (terms : Terms R) (m : Moment R) (w : ℕ) (bytes : List ℕ) (r : Told R) (d : Option (Doing R)) (q : Option R) → doing m w ≡ d → terms.takes bytes ≡ q → given m w d q ≡ Some r → Happens terms m (Item2.Request w bytes) r.0 r.1
given_happens terms m w bytes r (Some Free) (Some q) here takes e =
    let same : ([], turned m w (Waiting q [])) ≡ r = cc in
    (q, takes, here, sym (ap (λ (s : Told _). s.0) same), sym (ap (λ (s : Told _). s.1) same))
given_happens terms m w bytes r None q here takes e = cc
given_happens terms m w bytes r (Some Free) None here takes e = cc
given_happens terms m w bytes r (Some (Waiting p cs)) q here takes e = cc
given_happens terms m w bytes r (Some (Asking a)) q here takes e = cc
given_happens terms m w bytes r (Some (Computed a x d)) q here takes e = cc

happens_so : {R : Type 0} (terms : Terms R) (m : Moment R) (item : Item2) (trouble : Option Trouble) (r : Told R) → happens_by terms m item trouble ≡ Some r → Happens terms m item r.0 r.1
happens_so terms m (Item2.Request w bytes) trouble r e = given_happens terms m w bytes r (doing m w) (terms.takes bytes) refl refl e
happens_so terms m (Item2.Step w) None r e = inl cc
happens_so terms m (Item2.Step w) (Some trouble) r e = inr (trouble, e)
happens_so terms m (Item2.Clock t) trouble r e =
    let same : ([], clocked m t) ≡ r = cc in
    (sym (ap (λ (s : Told _). s.0) same), sym (ap (λ (s : Told _). s.1) same))
happens_so terms m (Item2.Stop n seed) trouble r e =
    let same : ([], m) ≡ r = cc in
    (sym (ap (λ (s : Told _). s.0) same), sym (ap (λ (s : Told _). s.1) same))
happens_so terms m (Item2.Fail n seed) trouble r e =
    let same : ([], m) ≡ r = cc in
    (sym (ap (λ (s : Told _). s.0) same), sym (ap (λ (s : Told _). s.1) same))
happens_so terms m (Item2.Pack t) trouble r e = cc
happens_so terms m Item2.End trouble r e = cc

some_same : {X : Type 0} {x y : X} → Some x ≡ Some y → x ≡ y
some_same e = cc

course_on : {R : Type 0} (terms : Terms R) (m : Moment R) (item : Item2) (lines : List Line) (n : Moment R) (o : Option (List (Place R) × Moment R)) (ps : List (Place R)) (end : Moment R)
    → Happens terms m item lines n → ((qs : List (Place R)) (f : Moment R) → o ≡ Some (qs, f) → Course terms n qs f) → ran_on m item lines n o ≡ Some (ps, end) → Course terms m ps end
course_on terms m item lines n None ps end step rest e = cc
course_on terms m item lines n (Some (qs, f)) ps end step rest e =
    let same = some_same e in
    let tail : record { before = m; item = item; lines = lines; after = n } ∷ qs ≡ ps = ap (λ (s : List (Place _) × Moment _). s.0) same in
    let last : f ≡ end = ap (λ (s : List (Place _) × Moment _). s.1) same in
    subst (λ xs. Course terms m xs end) tail (refl, step, subst (λ k. Course terms n qs k) last (rest qs f refl))

pub ran_course : {R : Type 0} (terms : Terms R) (m : Moment R) (xs : List (Item2 × Option Trouble)) (ps : List (Place R)) (end : Moment R) → ran terms m xs ≡ Some (ps, end) → Course terms m ps end
ran_course terms m [] [] end e = ap (λ (s : List (Place _) × Moment _). s.1) (some_same e)
ran_course terms m [] (p ∷ ps) end e = (let bad : [] ≡ p ∷ ps = ap (λ (s : List (Place _) × Moment _). s.0) (some_same e) in cc)
ran_course {R} terms m (x ∷ xs) ps end e = go (happens_by terms m x.0 x.1) refl e (λ r qs f. ran_course terms r.1 xs qs f)
  where
    go : (o : Option (Told R)) → happens_by terms m x.0 x.1 ≡ o → option_and_then (λ r. ran_on m x.0 r.0 r.1 (ran terms r.1 xs)) o ≡ Some (ps, end)
        → ((r : Told R) (qs : List (Place R)) (f : Moment R) → ran terms r.1 xs ≡ Some (qs, f) → Course terms r.1 qs f) → Course terms m ps end
    go None step e' deeper = cc
    go (Some r) step e' deeper = course_on terms m x.0 r.0 r.1 (ran terms r.1 xs) ps end (happens_so terms m x.0 x.1 r step) (deeper r) e'
