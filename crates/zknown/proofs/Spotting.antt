-- Where children stand by the numbers of their names: what is skipped on the way has another name.
use Rattle.std.proofs.Common.{◌≡◌, ◌≢◌, ℕ, suc, ◌+◌, ◌<◌, ◌≤◌, ◌==◌, Bool, true, false, List, [], ◌∷◌, length, drop, get_or, set, ◌-◌, Some, refl, sym, ap, subst, ◌∙◌, arith, if◌then◌else◌}
use Rattle.std.specs.Str.{bytes_eq}
use Rattle.std.proofs.lemmas.Bool.Decides.{nat_tests}
use Rattle.std.proofs.lemmas.List.{drop-drop, drop_all, drop_more, get_or-drop, get_or-set_other, get_or-set_same, get_or_default, length-drop, length-set}
use Rattle.std.proofs.lemmas.Slice.Eq.{bytes_eq-Decides}
use Rattle.zobject.specs.declared.object.Child.{Child}
use Rattle.zobject.specs.Folders.{child_of}
use Rattle.zknown.specs.Spots.{before, next_at, spot_of}

nat_same : (a b : ℕ) → (a == b) ≡ true → a ≡ b
nat_same a b e = grind (arith, nat_tests)

same_test : (a b : ℕ) → a ≡ b → (a == b) ≡ true
same_test a b e = grind (arith, nat_tests)

-- ---- from a list of children on

pub before_here : (many spot : ℕ) (c : Child) (cs : List Child) → spot_of many c.name ≡ spot → before many spot (c ∷ cs) ≡ 0
unfolding before
before_here many spot c cs is = rw (same_test (spot_of many c.name) spot is) refl

pub before_there : (many spot : ℕ) (c : Child) (cs : List Child) → spot_of many c.name ≢ spot → before many spot (c ∷ cs) ≡ suc (before many spot cs)
unfolding before
before_there many spot c cs other = at (spot_of many c.name == spot) refl
  where
    at : (is : Bool) → (spot_of many c.name == spot) ≡ is → (if is then 0 else suc (before many spot cs)) ≡ suc (before many spot cs)
    at true is = absurd (other (nat_same (spot_of many c.name) spot is))
    at false is = refl

-- a child of another name is passed by
pub another : (name : List ℕ) (c : Child) (cs : List Child) → bytes_eq c.name name ≡ false → child_of name (c ∷ cs) ≡ child_of name cs
another name c cs is = rw is refl

pub this_child : (name : List ℕ) (c : Child) (cs : List Child) → bytes_eq c.name name ≡ true → child_of name (c ∷ cs) ≡ Some c.oid
this_child name c cs is = rw is refl

-- up to the first one with the name's number there is no child of the name
pub skipped : (many : ℕ) (name : List ℕ) (cs : List Child) → child_of name cs ≡ child_of name (drop (before many (spot_of many name) cs) cs)
unfolding before
skipped many name [] = refl
skipped many name (c ∷ cs) = at (spot_of many c.name == spot_of many name) refl (skipped many name cs)
  where
    Deeper : Type 0
    Deeper = child_of name cs ≡ child_of name (drop (before many (spot_of many name) cs) cs)

    at : (is : Bool) → (spot_of many c.name == spot_of many name) ≡ is → Deeper → child_of name (c ∷ cs) ≡ child_of name (drop (before many (spot_of many name) (c ∷ cs)) (c ∷ cs))
    at true is deeper = subst (λ n. child_of name (c ∷ cs) ≡ child_of name (drop n (c ∷ cs))) (sym (before_here many (spot_of many name) c cs (nat_same (spot_of many c.name) (spot_of many name) is))) refl
    at false is deeper =
        subst (λ n. child_of name (c ∷ cs) ≡ child_of name (drop n (c ∷ cs))) (sym (before_there many (spot_of many name) c cs apart)) (another name c cs (other (bytes_eq c.name name) refl) ∙ deeper)
      where
        apart : spot_of many c.name ≢ spot_of many name
        apart same = (let bad = sym is ∙ same_test (spot_of many c.name) (spot_of many name) same in cc)

        other : (t : Bool) → bytes_eq c.name name ≡ t → bytes_eq c.name name ≡ false
        other false e = e
        other true e = absurd (apart (ap (spot_of many) ((bytes_eq-Decides c.name name).0 e)))

-- and the one where that ends has the number
pub spotted : (many spot : ℕ) (cs : List Child) (d : Child) → before many spot cs < length cs → spot_of many (get_or cs (before many spot cs) d).name ≡ spot
spotted many spot [] d l = absurd (omega arith)
spotted many spot (c ∷ cs) d l = at (spot_of many c.name == spot) refl l (λ less. spotted many spot cs d less)
  where
    at : (is : Bool) → (spot_of many c.name == spot) ≡ is → before many spot (c ∷ cs) < length (c ∷ cs) →
        (before many spot cs < length cs → spot_of many (get_or cs (before many spot cs) d).name ≡ spot) → spot_of many (get_or (c ∷ cs) (before many spot (c ∷ cs)) d).name ≡ spot
    at true is l deeper =
        let here = nat_same (spot_of many c.name) spot is in
        subst (λ n. spot_of many (get_or (c ∷ cs) n d).name ≡ spot) (sym (before_here many spot c cs here)) here
    at false is l deeper =
        let there = before_there many spot c cs (λ same. (let bad = sym is ∙ same_test (spot_of many c.name) spot same in cc)) in
        let less : before many spot cs < length cs = (let all : suc (before many spot cs) < suc (length cs) = subst (λ n. n < length (c ∷ cs)) there l in omega (arith, all)) in
        subst (λ n. spot_of many (get_or (c ∷ cs) n d).name ≡ spot) (sym there) (deeper less)

-- ---- from a place on

-- no child before this place has the name, and the one there has its number
pub record IsOnWay (children : List Child) (name : List ℕ) (at : ℕ) : Type 0 where
  pub left : child_of name children ≡ child_of name (drop at children)
  pub spot : (d : Child) → at < length children → spot_of (length children) (get_or children at d).name ≡ spot_of (length children) name

next_spotted : (children : List Child) (at spot : ℕ) (d : Child) → at ≤ length children → next_at children at spot < length children → spot_of (length children) (get_or children (next_at children at spot) d).name ≡ spot
next_spotted children at spot d within l =
    ap (λ (c : Child). spot_of (length children) c.name) (sym (get_or-drop at children (before (length children) spot (drop at children)) d))
    ∙ spotted (length children) spot (drop at children) d (let size : length (drop at children) ≡ length children - at = length-drop at children in omega (arith, size))

-- the first place on the way
pub begins_at : (children : List Child) (name : List ℕ) (spot at : ℕ) → spot ≡ spot_of (length children) name → at ≡ next_at children 0 spot → IsOnWay children name at
begins_at children name spot at is first =
    let from : at ≡ next_at children 0 (spot_of (length children) name) = first ∙ ap (next_at children 0) is in
    let plain : before (length children) (spot_of (length children) name) children ≡ at = (let all : at ≡ 0 + before (length children) (spot_of (length children) name) children = from in omega (arith, all)) in
    record {
      left = skipped (length children) name children ∙ ap (λ n. child_of name (drop n children)) plain;
      spot = λ d l.
          subst (λ n. spot_of (length children) (get_or children n d).name ≡ spot_of (length children) name) (sym from)
          (next_spotted children 0 (spot_of (length children) name) d (omega arith) (subst (λ n. n < length children) from l));
    }

-- and the next, where the child at this one has another name
pub goes_at : (children : List Child) (name : List ℕ) (at next : ℕ) (x : Child) → at < length children → x ≡ get_or children at x → bytes_eq x.name name ≡ false → IsOnWay children name at →
    next ≡ next_at children (at + 1) (spot_of (length children) (get_or children at x).name) → IsOnWay children name next
goes_at children name at next x l is other way e =
    let spot = spot_of (length children) name in
    let from : next ≡ next_at children (at + 1) spot = e ∙ ap (next_at children (at + 1)) (way.spot x l) in
    let another_there : bytes_eq (get_or children at x).name name ≡ false = subst (λ (c : Child). bytes_eq c.name name ≡ false) is other in
    record {
      left =
          way.left ∙ ap (child_of name) (drop_more children at x l) ∙ another name (get_or children at x) (drop (at + 1) children) another_there ∙ skipped (length children) name (drop (at + 1) children)
          ∙ ap (child_of name) (drop-drop (before (length children) spot (drop (at + 1) children)) (at + 1) children) ∙ ap (λ n. child_of name (drop n children)) (sym from);
      spot = λ d less.
          subst (λ n. spot_of (length children) (get_or children n d).name ≡ spot) (sym from)
          (next_spotted children (at + 1) spot d (omega (arith, l)) (subst (λ n. n < length children) from less));
    }

-- ---- one child more, from the last on

-- its own number is first found at it
pub first_here : (children : List Child) (at : ℕ) (d : Child) → at < length children → next_at children at (spot_of (length children) (get_or children at d).name) ≡ at
first_here children at d l =
    ap (λ cs. at + before (length children) (spot_of (length children) (get_or children at d).name) cs) (drop_more children at d l)
    ∙ ap (λ n. at + n) (before_here (length children) (spot_of (length children) (get_or children at d).name) (get_or children at d) (drop (at + 1) children) refl) ∙ omega arith

-- every other where it was
pub first_there : (children : List Child) (at spot : ℕ) (d : Child) → at < length children → spot_of (length children) (get_or children at d).name ≢ spot → next_at children at spot ≡ next_at children (at + 1) spot
first_there children at spot d l other =
    ap (λ cs. at + before (length children) spot cs) (drop_more children at d l)
    ∙ ap (λ n. at + n) (before_there (length children) spot (get_or children at d) (drop (at + 1) children) other) ∙ omega arith

-- behind the last child there is none
pub at_end : (children : List Child) (spot : ℕ) → next_at children (length children) spot ≡ length children
unfolding before
at_end children spot = ap (λ cs. length children + before (length children) spot cs) (drop_all (length children) children (omega arith)) ∙ omega arith

-- from this child on the places are those that they are to be
pub record AreFrom (children : List Child) (items : List ℕ) (at : ℕ) : Type 0 where
  pub size : length items ≡ length children + length children
  pub first : (spot : ℕ) → spot < length children → get_or items spot 0 ≡ next_at children at spot
  pub next : (j : ℕ) (d : Child) → at ≤ j → j < length children → get_or items (length children + j) 0 ≡ next_at children (j + 1) (spot_of (length children) (get_or children j d).name)

module _ (children : List Child) (items : List ℕ) (at spot : ℕ) (x : Child) (l : at < length children) (is : x ≡ get_or children at x) (number : spot ≡ spot_of (length children) x.name) (below : spot < length children)
    (value : ℕ) (read : value ≡ get_or items spot 0) (are : AreFrom children items (at + 1)) where
  abbrev former : List ℕ
  former = set items (length children + at) value

  abbrev later : List ℕ
  later = set former spot at

  there : (d : Child) → spot ≡ spot_of (length children) (get_or children at d).name
  there d = number ∙ ap (λ (c : Child). spot_of (length children) c.name) (is ∙ get_or_default children at x d l)

  size_later : length later ≡ length children + length children
  size_later = length-set former spot at ∙ length-set items (length children + at) value ∙ are.size

  first_later : (b : ℕ) → b < length children → get_or later b 0 ≡ next_at children at b
  first_later b less = by (b == spot) refl
    where
      by : (same : Bool) → (b == spot) ≡ same → get_or later b 0 ≡ next_at children at b
      by true e =
          let here = nat_same b spot e in
          let within : spot < length former = (let size : length former ≡ length children + length children = length-set items (length children + at) value ∙ are.size in omega (arith, size, below)) in
          ap (λ n. get_or later n 0) here ∙ get_or-set_same former spot at 0 within ∙ sym (ap (next_at children at) (here ∙ there x) ∙ first_here children at x l)
      by false e =
          let apart : b ≢ spot = (λ same. (let bad = sym e ∙ same_test b spot same in cc)) in
          get_or-set_other former spot b at 0 apart ∙ get_or-set_other items (length children + at) b value 0 (λ same. omega (arith, same, less)) ∙ are.first b less
          ∙ sym (first_there children at b x l (λ same. apart (sym same ∙ sym (there x))))

  next_later : (j : ℕ) (d : Child) → at ≤ j → j < length children → get_or later (length children + j) 0 ≡ next_at children (j + 1) (spot_of (length children) (get_or children j d).name)
  next_later j d from less = get_or-set_other former spot (length children + j) at 0 (λ same. omega (arith, same, below)) ∙ by (j == at) refl
    where
      by : (same : Bool) → (j == at) ≡ same → get_or former (length children + j) 0 ≡ next_at children (j + 1) (spot_of (length children) (get_or children j d).name)
      by true e =
          let here = nat_same j at e in
          let within : length children + at < length items = (let size = are.size in omega (arith, size, l)) in
          ap (λ n. get_or former (length children + n) 0) here ∙ get_or-set_same items (length children + at) value 0 within ∙ read ∙ are.first spot below
          ∙ ap (next_at children (at + 1)) (there d) ∙ ap (λ n. next_at children (n + 1) (spot_of (length children) (get_or children n d).name)) (sym here)
      by false e =
          let apart : j ≢ at = (λ same. (let bad = sym e ∙ same_test j at same in cc)) in
          get_or-set_other items (length children + at) (length children + j) value 0 (λ same. apart (omega (arith, same))) ∙ are.next j d (omega (arith, from, apart)) less

  -- with the places of one child more
  pub one_more : AreFrom children later at
  one_more = record { size = size_later; first = first_later; next = next_later }
