-- What is true of wrappers and the expressions for which they stand.
use Rattle.std.proofs.Common.{ℕ, zero, suc, ◌≡◌, ◌≢◌, ◌≤◌, ◌∙◌, refl, sym, ap, subst, arith, Bool, true, false, List, [], ◌∷◌, ◌++◌, length, Option, Some, None, Result, Ok, Err, nat_eq, eqb-true, append_assoc, append-nil, ◌||◌, if◌then◌else◌}
use Rattle.std.specs.List.{list_any, AllByRecursion}
use Rattle.std.proofs.lemmas.Bool.{eq-eqb}
use Rattle.zbase.specs.Query.{Done, Asks, Halt, ◌>>=◌, run, go_on, and_then}
use Rattle.zbase.specs.QueryLaws.{run_then}
use Rattle.zobject.specs.Shapes.{Shape, child_in}
use Rattle.zknown.specs.Seen.{Seen, Here, Absent, Unreadable, Shapes}
use Rattle.acquisition.specs.declared.limits.TheConstants.{MOST_ON_PATH}
use Rattle.acquisition.specs.Acquiring.{Fault, IsOnce, present, or_search, searched, joined, put, has, upwards, containers, reached}
use Rattle.acquisition.specs.Expressions.{Expr, Plain, Of, leaves, Stands, Contains, IsHere, looked}

-- ---- to look through a list is to look through each expression for which it stands

-- one list and then another; an equation of questions, whatever is known
or_then : (c : Option ℕ) (q rest : Shapes Fault (Option ℕ)) → or_search c (q >>= λ child. or_search child rest) ≡ (or_search c q >>= λ child. or_search child rest)
or_then (Some c) q rest = refl
or_then None q rest = refl

present_then : (o : ℕ) (name : List ℕ) (q all rest : Shapes Fault (Option ℕ)) → all ≡ (q >>= λ child. or_search child rest) → (y : Seen Shape) →
    (present o y >>= λ object. or_search (child_in name object.form) all) ≡ ((present o y >>= λ object. or_search (child_in name object.form) q) >>= λ child. or_search child rest)
present_then o name q all rest is Absent = refl
present_then o name q all rest is Unreadable = refl
present_then o name q all rest is (Here object) = ap (or_search (child_in name object.form)) is ∙ or_then (child_in name object.form) q rest

pub searched_both : (name : List ℕ) (xs ys : List (ℕ)) → searched (xs ++ ys) name ≡ (searched xs name >>= λ child. or_search child (searched ys name))
unfolding searched
searched_both name [] ys = refl
searched_both name (x ∷ xs) ys = λ i. Asks x (λ y. present_then x name (searched xs name) (searched (xs ++ ys) name) (searched ys name) (searched_both name xs ys) y i)

one_leaf : (o : ℕ) (name : List ℕ) (y : Seen Shape) → (present o y >>= λ object. Done (child_in name object.form)) ≡ (present o y >>= λ object. or_search (child_in name object.form) (Done None))
one_leaf o name Absent = refl
one_leaf o name Unreadable = refl
one_leaf o name (Here object) = by (child_in name object.form)
  where
    by : (c : Option ℕ) → Done c ≡ or_search c (Done None)
    by (Some c) = refl
    by None = refl

-- to look in an expression is to look in its leaves, from left to right
pub looked_leaves : (name : List ℕ) (e : Expr) → looked name e ≡ searched (leaves e) name
unfolding searched
looked_leaves name (Plain o) = λ i. Asks o (λ y. one_leaf o name y i)
looked_leaves name (Of e f) = (λ i. looked_leaves name e i >>= λ child. or_search child (looked_leaves name f i)) ∙ sym (searched_both name (leaves e) (leaves f))

-- an object that was looked at before, and had no such child, makes no difference
module _ (k : ℕ → Option (Seen Shape)) (name : List ℕ) where
  Step : ℕ → Shapes Fault (Option ℕ) → Seen Shape → Shapes Fault (Option ℕ)
  Step x q y = present x y >>= λ object. or_search (child_in name object.form) q

  asked_before : (x : ℕ) (out : List ℕ) (q : Shapes Fault (Option ℕ)) → list_any (λ p. nat_eq p x) out ≡ true → run k (searched out name) ≡ Ok None → run k (Asks x (Step x q)) ≡ run k q
  unfolding searched Step
  asked_before x [] q m e = absurd (let bad = m in cc)
  asked_before x (o ∷ os) q m e = at (k o) refl e (λ m e. asked_before x os q m e)
    where
      Deeper : Type 0
      Deeper = list_any (λ p. nat_eq p x) os ≡ true → run k (searched os name) ≡ Ok None → run k (Asks x (Step x q)) ≡ run k q

      same_or : (object : Shape) → k o ≡ Some (Here object) → child_in name object.form ≡ None → run k (searched os name) ≡ Ok None → Deeper → (b : Bool) → nat_eq o x ≡ b → run k (Asks x (Step x q)) ≡ run k q
      same_or object is none e deeper true t = ap (go_on x (λ y. run k (Step x q y))) (subst (λ p. k p ≡ Some (Here object)) (eqb-true o x t) is) ∙ ap (λ c. run k (or_search c q)) none
      same_or object is none e deeper false t = deeper (subst (λ b. (b || list_any (λ p. nat_eq p x) os) ≡ true) t m) e

      found : (object : Shape) → k o ≡ Some (Here object) → (c : Option ℕ) → child_in name object.form ≡ c → run k (or_search c (searched os name)) ≡ Ok None → Deeper → run k (Asks x (Step x q)) ≡ run k q
      found object is (Some c) none e deeper = absurd (let bad = e in cc)
      found object is None none e deeper = same_or object is none e deeper (nat_eq o x) refl

      at : (y : Option (Seen Shape)) → k o ≡ y → go_on o (λ y. run k (Step o (searched os name) y)) y ≡ Ok None → Deeper → run k (Asks x (Step x q)) ≡ run k q
      at None is e deeper = absurd (let bad = e in cc)
      at (Some Absent) is e deeper = absurd (let bad = e in cc)
      at (Some Unreadable) is e deeper = absurd (let bad = e in cc)
      at (Some (Here object)) is e deeper = found object is (child_in name object.form) refl e deeper

  skipped : (x : ℕ) (out xs : List ℕ) → list_any (λ p. nat_eq p x) out ≡ true → run k (searched (out ++ xs) name) ≡ run k (searched (out ++ x ∷ xs) name)
  unfolding searched Step
  skipped x out xs m =
      ap (run k) (searched_both name out xs) ∙ run_then k (searched out name) (λ child. or_search child (searched xs name))
      ∙ at (run k (searched out name)) refl
      ∙ sym (ap (run k) (searched_both name out (x ∷ xs)) ∙ run_then k (searched out name) (λ child. or_search child (searched (x ∷ xs) name)))
    where
      at : (r : Result (Option ℕ) (Halt ℕ Fault)) → run k (searched out name) ≡ r → and_then r (λ child. run k (or_search child (searched xs name))) ≡ and_then r (λ child. run k (or_search child (searched (x ∷ xs) name)))
      at (Err e) is = refl
      at (Ok (Some c)) is = refl
      at (Ok None) is = sym (asked_before x out (searched xs name) m is)

  joined_same : (out xs : List ℕ) → run k (searched (joined out xs) name) ≡ run k (searched (out ++ xs) name)
  joined_same out [] = ap (λ os. run k (searched os name)) (sym (append-nil out))
  joined_same out (x ∷ xs) = at (list_any (λ p. nat_eq p x) out) refl (joined_same out xs) (joined_same (out ++ x ∷ []) xs)
    where
      at : (b : Bool) → list_any (λ p. nat_eq p x) out ≡ b → run k (searched (joined out xs) name) ≡ run k (searched (out ++ xs) name) → run k (searched (joined (out ++ x ∷ []) xs) name) ≡ run k (searched ((out ++ x ∷ []) ++ xs) name) → run k (searched (joined (if b then out else out ++ x ∷ []) xs) name) ≡ run k (searched (out ++ x ∷ xs) name)
      at true m same other = same ∙ skipped x out xs m
      at false m same other = other ∙ ap (λ os. run k (searched os name)) (append_assoc out (x ∷ []) xs)

  -- what is found through a list is what is found through each expression that it stands for
  pub stands_found : (wrapper : List ℕ) (e : Expr) → Stands wrapper e → run k (searched wrapper name) ≡ run k (looked name e)
  stands_found wrapper e is = ap (λ os. run k (searched os name)) is ∙ joined_same [] (leaves e) ∙ sym (ap (run k) (looked_leaves name e))

-- ---- an object reached through a wrapper

-- joined lists, one after another
joined_both : (out xs ys : List ℕ) → joined out (xs ++ ys) ≡ joined (joined out xs) ys
joined_both out [] ys = refl
joined_both out (x ∷ xs) ys = joined_both (put out x) xs ys

-- what stands in a list stands in a longer one
has_more : (x : ℕ) (out more : List ℕ) → has out x ≡ true → has (out ++ more) x ≡ true
has_more x [] more e = absurd (let bad = e in cc)
has_more x (o ∷ os) more e = at (nat_eq o x) e (has_more x os more)
  where
    at : (b : Bool) → (b || has os x) ≡ true → (has os x ≡ true → has (os ++ more) x ≡ true) → (b || has (os ++ more) x) ≡ true
    at true e deeper = refl
    at false e deeper = deeper e

nat_eq_same : (x : ℕ) → nat_eq x x ≡ true
nat_eq_same x = eq-eqb x x refl

has_last : (x : ℕ) (out : List ℕ) → has (out ++ x ∷ []) x ≡ true
has_last x [] = ap (λ b. b || false) (nat_eq_same x)
has_last x (o ∷ os) = at (nat_eq o x) (has_last x os)
  where
    at : (b : Bool) → has (os ++ x ∷ []) x ≡ true → (b || has (os ++ x ∷ []) x) ≡ true
    at true e = refl
    at false e = e

put_keeps : (x o : ℕ) (out : List ℕ) → has out x ≡ true → has (put out o) x ≡ true
put_keeps x o out e = at (has out o)
  where
    at : (b : Bool) → has (if b then out else out ++ o ∷ []) x ≡ true
    at true = e
    at false = has_more x out (o ∷ []) e

put_has : (x : ℕ) (out : List ℕ) → has (put out x) x ≡ true
put_has x out = at (has out x) refl
  where
    at : (b : Bool) → has out x ≡ b → has (if b then out else out ++ x ∷ []) x ≡ true
    at true e = e
    at false e = has_last x out

joined_keeps : (x : ℕ) (out xs : List ℕ) → has out x ≡ true → has (joined out xs) x ≡ true
joined_keeps x out [] e = e
joined_keeps x out (y ∷ ys) e = joined_keeps x (put out y) ys (put_keeps x y out e)

joined_has : (x : ℕ) (out xs : List ℕ) → has xs x ≡ true → has (joined out xs) x ≡ true
joined_has x out [] e = absurd (let bad = e in cc)
joined_has x out (y ∷ ys) e = at (nat_eq y x) refl e (joined_has x (put out y) ys)
  where
    at : (b : Bool) → nat_eq y x ≡ b → (b || has ys x) ≡ true → (has ys x ≡ true → has (joined (put out y) ys) x ≡ true) → has (joined (put out y) ys) x ≡ true
    at true is e deeper = joined_keeps x (put out y) ys (subst (λ z. has (put out y) z ≡ true) (eqb-true y x is) (put_has y out))
    at false is e deeper = deeper e

put_twice : (x : ℕ) (out : List ℕ) → has out x ≡ true → put out x ≡ out
put_twice x out e = ap (λ b. if b then out else out ++ x ∷ []) e

put_through : (x : ℕ) (out acc : List ℕ) → joined out (put acc x) ≡ put (joined out acc) x
put_through x out acc = at (has acc x) refl
  where
    at : (b : Bool) → has acc x ≡ b → joined out (if b then acc else acc ++ x ∷ []) ≡ put (joined out acc) x
    at true e = sym (put_twice x (joined out acc) (joined_has x out acc e))
    at false e = joined_both out acc (x ∷ [])

-- objects that stand twice make no difference to what is joined
joined_through : (out acc xs : List ℕ) → joined out (joined acc xs) ≡ joined (joined out acc) xs
joined_through out acc [] = refl
joined_through out acc (x ∷ xs) = joined_through out (put acc x) xs ∙ ap (λ os. joined os xs) (put_through x out acc)

-- a containment is told by what is known
module _ (k : ℕ → Option (Seen Shape)) where
  same_shape : (a b : Shape) → Some (Here a) ≡ Some (Here b) → a ≡ b
  same_shape a b e = cc

  pub same_containment : (o : ℕ) (c d : Expr) → Contains k o c → Contains k o d → c ≡ d
  same_containment o (Plain p) (Plain q) x y = ap Plain (x.0 ∙ sym y.0)
  same_containment o (Plain p) (Of (Plain q) e) x y = absurd (y.1 x.1)
  same_containment o (Plain p) (Of (Of d f) e) x y = absurd y
  same_containment o (Of (Of d f) e) other x y = absurd x
  same_containment o (Of (Plain p) e) (Plain q) x y = absurd (x.1 y.1)
  same_containment o (Of (Plain p) e) (Of (Of d f) g) x y = absurd y
  same_containment o (Of (Plain p) e) (Of (Plain q) g) x y =
      let same : x.2.0 ≡ y.2.0 = same_shape x.2.0 y.2.0 (sym x.2.1 ∙ y.2.1) in
      let deeper : e ≡ g = same_containment x.2.0.parent e g x.2.2 (subst (λ (s : Shape). Contains k s.parent g) (sym same) y.2.2) in
      ap (λ n. Of (Plain n) e) (x.0 ∙ sym y.0) ∙ ap (Of (Plain q)) deeper

  -- within a containment stands the containment of each of its objects
  pub record Within (x : ℕ) (c : Expr) : Type 0 where
    pub inner : Expr
    pub contains : Contains k x inner
    pub shorter : length (leaves inner) ≤ length (leaves c)

  within : (x o : ℕ) (c : Expr) → Contains k o c → has (leaves c) x ≡ true → Within x c
  within x o (Of (Of d f) e) is h = absurd is
  within x o (Plain p) is h = at (nat_eq p x) refl h
    where
      at : (b : Bool) → nat_eq p x ≡ b → (b || false) ≡ true → Within x (Plain p)
      at true t h = record { inner = Plain p; contains = subst (λ n. Contains k n (Plain p)) (sym is.0 ∙ eqb-true p x t) is; shorter = omega arith }
      at false t h = absurd (let bad = h in cc)
  within x o (Of (Plain p) e) is h = at (nat_eq p x) refl h (within x is.2.0.parent e is.2.2)
    where
      at : (b : Bool) → nat_eq p x ≡ b → (b || has (leaves e) x) ≡ true → (has (leaves e) x ≡ true → Within x e) → Within x (Of (Plain p) e)
      at true t h deeper = record { inner = Of (Plain p) e; contains = subst (λ n. Contains k n (Of (Plain p) e)) (sym is.0 ∙ eqb-true p x t) is; shorter = omega arith }
      at false t h deeper = let d = deeper h in record { inner = d.inner; contains = d.contains; shorter = omega (arith, d.shorter) }

  once : (o : ℕ) (c : Expr) → Contains k o c → IsOnce (leaves c)
  once o (Plain p) is = (refl, tt)
  once o (Of (Of d f) e) is = absurd is
  once o (Of (Plain p) e) is = (at (has (leaves e) p) refl, once is.2.0.parent e is.2.2)
    where
      at : (b : Bool) → has (leaves e) p ≡ b → b ≡ false
      at false t = refl
      at true t =
          let w = within p is.2.0.parent e is.2.2 t in
          let same : w.inner ≡ Of (Plain p) e = same_containment p w.inner (Of (Plain p) e) w.contains (subst (λ n. Contains k n (Of (Plain p) e)) (sym is.0) is) in
          let len : length (leaves w.inner) ≡ suc (length (leaves e)) = ap (λ x. length (leaves x)) same in
          let short = w.shorter in
          absurd (omega (arith, len, short))

-- what stands in neither list stands apart
abbrev IsApart : List ℕ → List ℕ → Type 0
IsApart out xs = (x : ℕ) → has xs x ≡ true → has out x ≡ false

apart_next : (out xs : List ℕ) (x : ℕ) → IsApart out (x ∷ xs) → has xs x ≡ false → IsApart (out ++ x ∷ []) xs
apart_next out xs x apart new y there = at out (apart y (or_right (nat_eq x y) (has xs y) there)) (other (nat_eq x y) refl)
  where
    or_right : (a b : Bool) → b ≡ true → (a || b) ≡ true
    or_right true b e = refl
    or_right false b e = e

    other : (b : Bool) → nat_eq x y ≡ b → b ≡ false
    other false e = refl
    other true e = (let same = eqb-true x y e in let t = subst (λ z. has xs z ≡ true) (sym same) there in cc)

    at : (os : List ℕ) → has os y ≡ false → nat_eq x y ≡ false → has (os ++ x ∷ []) y ≡ false
    at [] h e = ap (λ b. b || false) e
    at (o ∷ os) h e = by (nat_eq o y) h (at os)
      where
        by : (b : Bool) → (b || has os y) ≡ false → (has os y ≡ false → nat_eq x y ≡ false → has (os ++ x ∷ []) y ≡ false) → (b || has (os ++ x ∷ []) y) ≡ false
        by true h deeper = h
        by false h deeper = deeper h e

joined_once : (out xs : List ℕ) → IsApart out xs → IsOnce xs → joined out xs ≡ out ++ xs
joined_once out [] apart each = sym (append-nil out)
joined_once out (x ∷ xs) apart each =
    let new : has out x ≡ false = apart x (ap (λ b. b || has xs x) (nat_eq_same x)) in
    let step : put out x ≡ out ++ x ∷ [] = ap (λ b. if b then out else out ++ x ∷ []) new in
    ap (λ os. joined os xs) step ∙ joined_once (out ++ x ∷ []) xs (apart_next out xs x apart each.0) each.1 ∙ append_assoc out (x ∷ []) xs

-- a path that was found is a containment
pub record IsPath (k : ℕ → Option (Seen Shape)) (o : ℕ) (before path : List ℕ) : Type 0 where
  pub containment : Expr
  pub contains : Contains k o containment
  pub parts : path ≡ before ++ leaves containment
  pub here : AllByRecursion (IsHere k) (leaves containment)

module _ (k : ℕ → Option (Seen Shape)) where
  path_up : (n : ℕ) (before : List ℕ) (o : ℕ) (path : List ℕ) → run k (upwards n before o) ≡ Ok path → IsPath k o before path
  unfolding upwards
  path_up zero before o path e = absurd (let bad = e in cc)
  path_up (suc n) before o path e = at (k o) refl e (λ p e'. path_up n (before ++ o ∷ []) p path e')
    where
      Deeper : Type 0
      Deeper = (p : ℕ) → run k (upwards n (before ++ o ∷ []) p) ≡ Ok path → IsPath k p (before ++ o ∷ []) path

      ok_is : (a b : List ℕ) → ◌≡◌ {A = Result (List ℕ) (Halt ℕ Fault)} (Ok a) (Ok b) → a ≡ b
      ok_is a b e = cc

      root : (shape : Shape) → k o ≡ Some (Here shape) → (b : Bool) → nat_eq o 0 ≡ b → run k (if b then Done (before ++ o ∷ []) else upwards n (before ++ o ∷ []) shape.parent) ≡ Ok path → Deeper → IsPath k o before path
      root shape is true t e deeper = record { containment = Plain o; contains = (refl, eqb-true o 0 t); parts = sym (ok_is (before ++ o ∷ []) path e); here = ((shape, is), tt) }
      root shape is false t e deeper =
          let up = deeper shape.parent e in
          let other : o ≢ 0 = λ z. (let same = ap (λ m. nat_eq m 0) z in cc) in
          record { containment = Of (Plain o) up.containment; contains = (refl, other, (shape, is, up.contains)); parts = up.parts ∙ append_assoc before (o ∷ []) (leaves up.containment); here = ((shape, is), up.here) }

      at : (y : Option (Seen Shape)) → k o ≡ y → go_on o (λ seen. run k (present o seen >>= λ object. if nat_eq o 0 then Done (before ++ o ∷ []) else upwards n (before ++ o ∷ []) object.parent)) y ≡ Ok path → Deeper → IsPath k o before path
      at None is e deeper = absurd (let bad = e in cc)
      at (Some Absent) is e deeper = absurd (let bad = e in cc)
      at (Some Unreadable) is e deeper = absurd (let bad = e in cc)
      at (Some (Here shape)) is e deeper = root shape is (nat_eq o 0) refl e deeper

  pub path_is : (o : ℕ) (path : List ℕ) → run k (containers o) ≡ Ok path → IsPath k o [] path
  unfolding containers
  path_is o path e = path_up MOST_ON_PATH [] o path e

  -- a path that was found leads through objects that are here, and stands for a containment
  pub record IsFound (o : ℕ) (path : List ℕ) : Type 0 where
    pub containment : Expr
    pub contains : Contains k o containment
    pub is : path ≡ leaves containment
    pub here : AllByRecursion (IsHere k) path

  pub found_path : (o : ℕ) (path : List ℕ) → run k (containers o) ≡ Ok path → IsFound o path
  found_path o path e = let p = path_is o path e in record { containment = p.containment; contains = p.contains; is = p.parts; here = subst (AllByRecursion (IsHere k)) (sym p.parts) p.here }

  -- what is reached through a wrapper stands for its containment of that wrapper's expression
  pub record Reaches (wrapper : List ℕ) (o : ℕ) (e : Expr) (result : List ℕ) : Type 0 where
    pub containment : Expr
    pub contains : Contains k o containment
    pub stands : Stands result (Of containment e)

  reached_parts : (wrapper : List ℕ) (o : ℕ) (result : List ℕ) → run k (reached wrapper o) ≡ Ok result → (path : List ℕ) × (run k (containers o) ≡ Ok path) × (result ≡ joined path wrapper)
  unfolding reached
  reached_parts wrapper o result e = at (run k (containers o)) refl (sym (run_then k (containers o) (λ path. Done (joined path wrapper))) ∙ e)
    where
      at : (r : Result (List ℕ) (Halt ℕ Fault)) → run k (containers o) ≡ r → and_then r (λ path. Ok (joined path wrapper)) ≡ Ok result → (path : List ℕ) × (run k (containers o) ≡ Ok path) × (result ≡ joined path wrapper)
      at (Err halt) is e = absurd (let bad = e in cc)
      at (Ok path) is e = (path, is, (let same : joined path wrapper ≡ result = cc in sym same))

  pub reaches : (wrapper : List ℕ) (o : ℕ) (e : Expr) (result : List ℕ) → Stands wrapper e → run k (reached wrapper o) ≡ Ok result → Reaches wrapper o e result
  reaches wrapper o e result stands is =
      let p = reached_parts wrapper o result is in
      let c = path_is o p.0 p.1 in
      let each = once k o c.containment c.contains in
      let path : p.0 ≡ joined [] (leaves c.containment) = c.parts ∙ sym (joined_once [] (leaves c.containment) (λ x there. refl) each) in
      record {
        containment = c.containment;
        contains = c.contains;
        stands = p.2 ∙ ap (λ os. joined os wrapper) path ∙ ap (joined (joined [] (leaves c.containment))) stands ∙ joined_through (joined [] (leaves c.containment)) [] (leaves e) ∙ sym (joined_both [] (leaves c.containment) (leaves e));
      }

  -- on a path that was found each object stands once
  pub path_once : (o : ℕ) (path : List ℕ) → run k (containers o) ≡ Ok path → IsOnce path
  path_once o path e = let p = path_is o path e in subst IsOnce (sym p.parts) (once k o p.containment p.contains)
