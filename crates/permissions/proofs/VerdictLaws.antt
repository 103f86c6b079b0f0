-- Laws of the least common role.
use Rattle.std.proofs.Common.{◌≡◌, ◌∙◌, ◌||◌, refl, sym, ap, subst, Bool, true, false, cond, if◌then◌else◌, List, [], ◌∷◌, Option, None, Some, Ordering, Less, Equal, Greater}
use Rattle.std.specs.List.{filter}
use Rattle.std.specs.Str.{bytes_eq}
use Rattle.std.specs.Ordering.{nat_cmp, is_lt, ordering_reverse}
use Rattle.std.specs.Cmp.Lexicographic.{slice_cmp}
use Rattle.std.proofs.lemmas.Cmp.{nat_list_cmp_total}
use Rattle.std.proofs.lemmas.Slice.Eq.{bytes_eq-Decides}
use Rattle.zobject.specs.Rules.{comes_before}
use Rattle.permissions.specs.Roles.{Role}
use Rattle.permissions.specs.Verdicts.{is_among, lesser, least, least_common}

-- ---- the order of roles

abbrev ranked : Role → Role → Ordering
ranked a b = slice_cmp nat_cmp a b

not_less_itself : (o : Ordering) → o ≡ ordering_reverse o → is_lt o ≡ false
not_less_itself Less e = absurd (let bad = e in cc)
not_less_itself Equal e = refl
not_less_itself Greater e = refl

not_before_itself : (a : Role) → comes_before a a ≡ false
not_before_itself a = not_less_itself (ranked a a) (nat_list_cmp_total.antisymm a a)

less_turned : (o p : Ordering) → p ≡ ordering_reverse o → is_lt o ≡ true → is_lt p ≡ false
less_turned Less p e t = ap is_lt e
less_turned Equal p e t = absurd (let bad = t in cc)
less_turned Greater p e t = absurd (let bad = t in cc)

not_both_ways : (a b : Role) → comes_before a b ≡ true → comes_before b a ≡ false
not_both_ways a b t = less_turned (ranked a b) (ranked b a) (nat_list_cmp_total.antisymm b a) t

less_is : (o : Ordering) → is_lt o ≡ true → o ≡ Less
less_is Less t = refl
less_is Equal t = absurd (let bad = t in cc)
less_is Greater t = absurd (let bad = t in cc)

-- what comes before a role comes before one that doesn't come before it
still_before : (a b c : Role) → comes_before a b ≡ true → comes_before c b ≡ false → comes_before a c ≡ true
still_before a b c before not = at (ranked c b) refl not
  where
    at : (o : Ordering) → ranked c b ≡ o → is_lt o ≡ false → comes_before a c ≡ true
    at Less e t = absurd (let bad = t in cc)
    at Equal e t = ap is_lt (nat_list_cmp_total.antisymm a c ∙ ap ordering_reverse (nat_list_cmp_total.congr c b a e) ∙ sym (nat_list_cmp_total.antisymm a b)) ∙ before
    at Greater e t = ap is_lt (nat_list_cmp_total.trans a b c (less_is (ranked a b) before) (nat_list_cmp_total.antisymm b c ∙ ap ordering_reverse e))

before_neither : (a b c : Role) → comes_before a c ≡ false → comes_before c b ≡ false → comes_before a b ≡ false
before_neither a b c first second = at (comes_before a b) refl
  where
    at : (x : Bool) → comes_before a b ≡ x → x ≡ false
    at false e = refl
    at true e = (let t = still_before a b c e second in cc)

-- ---- what is among some roles

or_right : (a b : Bool) → b ≡ true → (a || b) ≡ true
or_right true b e = refl
or_right false b e = e

same : (a b : Role) → bytes_eq a b ≡ true → a ≡ b
same a b = (bytes_eq-Decides a b).0

same_itself : (a : Role) → bytes_eq a a ≡ true
same_itself a = (bytes_eq-Decides a a).1 refl

first_among : (a : Role) (rest : List Role) → is_among (a ∷ rest) a ≡ true
first_among a rest = ap (λ b. b || is_among rest a) (same_itself a)

module _ (mine : List Role) where
  abbrev filtered : Bool → Role → List Role → List Role
  filtered b g gs = cond b (g ∷ filter (is_among mine) gs) (filter (is_among mine) gs)

  abbrev Both : List Role → Role → Type 0
  Both given role = (is_among given role ≡ true) × (is_among mine role ≡ true)

  pub are_both : (given : List Role) (role : Role) → is_among (filter (is_among mine) given) role ≡ true → Both given role
  are_both [] role t = absurd (let bad = t in cc)
  are_both (g ∷ gs) role t = at (is_among mine g) refl t (λ t. are_both gs role t)
    where
      Deeper : Type 0
      Deeper = is_among (filter (is_among mine) gs) role ≡ true → Both gs role

      or_further : Both gs role → Both (g ∷ gs) role
      or_further both = (or_right (bytes_eq role g) (is_among gs role) both.0, both.1)

      here : (b : Bool) → bytes_eq role g ≡ b → is_among mine g ≡ true → (b || is_among (filter (is_among mine) gs) role) ≡ true → Deeper → Both (g ∷ gs) role
      here true e m t deeper = (ap (λ b. b || is_among gs role) e, subst (λ r. is_among mine r ≡ true) (sym (same role g e)) m)
      here false e m t deeper = or_further (deeper t)

      at : (b : Bool) → is_among mine g ≡ b → is_among (filtered b g gs) role ≡ true → Deeper → Both (g ∷ gs) role
      at true m t deeper = here (bytes_eq role g) refl m t deeper
      at false m t deeper = or_further (deeper t)

  in_both : (given : List Role) (role : Role) → is_among given role ≡ true → is_among mine role ≡ true → is_among (filter (is_among mine) given) role ≡ true
  in_both [] role g m = g
  in_both (x ∷ xs) role g m = here (bytes_eq role x) refl g (λ g. in_both xs role g m)
    where
      further : (b : Bool) → is_among (filter (is_among mine) xs) role ≡ true → is_among (filtered b x xs) role ≡ true
      further true t = or_right (bytes_eq role x) _ t
      further false t = t

      here : (b : Bool) → bytes_eq role x ≡ b → (b || is_among xs role) ≡ true → (is_among xs role ≡ true → is_among (filter (is_among mine) xs) role ≡ true) → is_among (filtered (is_among mine x) x xs) role ≡ true
      here true e g deeper = subst (λ b. is_among (filtered b x xs) role ≡ true) (sym (subst (λ r. is_among mine r ≡ true) (same role x e) m)) (ap (λ b. b || is_among (filter (is_among mine) xs) role) e)
      here false e g deeper = further (is_among mine x) (deeper g)

-- ---- the least

unsome : (a b : Role) → Some a ≡ Some b → a ≡ b
unsome a b e = cc

pub least_is_among : (xs : List Role) (role : Role) → least xs ≡ Some role → is_among xs role ≡ true
least_is_among [] role e = absurd (let bad = e in cc)
least_is_among (x ∷ xs) role e = at (least xs) refl e (λ best is. least_is_among xs best is)
  where
    Deeper : Type 0
    Deeper = (best : Role) → least xs ≡ Some best → is_among xs best ≡ true

    by : (best : Role) (b : Bool) → least xs ≡ Some best → Deeper → (if b then best else x) ≡ role → is_among (x ∷ xs) role ≡ true
    by best true is deeper e = subst (λ r. is_among (x ∷ xs) r ≡ true) e (or_right (bytes_eq best x) (is_among xs best) (deeper best is))
    by best false is deeper e = subst (λ r. is_among (x ∷ xs) r ≡ true) e (first_among x xs)

    at : (o : Option Role) → least xs ≡ o → Some (lesser x o) ≡ Some role → Deeper → is_among (x ∷ xs) role ≡ true
    at None is e deeper = subst (λ r. is_among (x ∷ xs) r ≡ true) (unsome x role e) (first_among x xs)
    at (Some best) is e deeper = by best (comes_before best x) is deeper (unsome (lesser x (Some best)) role e)

none_among : (ys : List Role) (other : Role) → least ys ≡ None → is_among ys other ≡ true → ⊥
none_among [] other is t = (let bad = t in cc)
none_among (y ∷ ys) other is t = (let bad = is in cc)

pub least_is_first : (xs : List Role) (role other : Role) → least xs ≡ Some role → is_among xs other ≡ true → comes_before other role ≡ false
least_is_first [] role other e t = absurd (let bad = e in cc)
least_is_first (x ∷ xs) role other e t = at (least xs) refl e (λ best is t. least_is_first xs best other is t)
  where
    Deeper : Type 0
    Deeper = (best : Role) → least xs ≡ Some best → is_among xs other ≡ true → comes_before other best ≡ false

    -- the least of those behind comes before x, or it doesn't
    is_best : (best : Role) → least xs ≡ Some best → Deeper → comes_before best x ≡ true → (b : Bool) → bytes_eq other x ≡ b → (b || is_among xs other) ≡ true → comes_before other best ≡ false
    is_best best is deeper before true here t = subst (λ r. comes_before r best ≡ false) (sym (same other x here)) (not_both_ways best x before)
    is_best best is deeper before false here t = deeper best is t

    is_x : (best : Role) → least xs ≡ Some best → Deeper → comes_before best x ≡ false → (b : Bool) → bytes_eq other x ≡ b → (b || is_among xs other) ≡ true → comes_before other x ≡ false
    is_x best is deeper not true here t = subst (λ r. comes_before r x ≡ false) (sym (same other x here)) (not_before_itself x)
    is_x best is deeper not false here t = before_neither other x best (deeper best is t) not

    is_only : least xs ≡ None → (b : Bool) → bytes_eq other x ≡ b → (b || is_among xs other) ≡ true → comes_before other x ≡ false
    is_only is true here t = subst (λ r. comes_before r x ≡ false) (sym (same other x here)) (not_before_itself x)
    is_only is false here t = absurd (none_among xs other is t)

    by : (best : Role) (b : Bool) → comes_before best x ≡ b → least xs ≡ Some best → Deeper → (if b then best else x) ≡ role → comes_before other role ≡ false
    by best true before is deeper e = subst (λ r. comes_before other r ≡ false) e (is_best best is deeper before (bytes_eq other x) refl t)
    by best false not is deeper e = subst (λ r. comes_before other r ≡ false) e (is_x best is deeper not (bytes_eq other x) refl t)

    at : (o : Option Role) → least xs ≡ o → Some (lesser x o) ≡ Some role → Deeper → comes_before other role ≡ false
    at None is e deeper = subst (λ r. comes_before other r ≡ false) (unsome x role e) (is_only is (bytes_eq other x) refl t)
    at (Some best) is e deeper = by best (comes_before best x) refl is deeper (unsome (lesser x (Some best)) role e)

pub common_given : (mine given : List Role) (role : Role) → least_common mine given ≡ Some role → (is_among given role ≡ true) × (is_among mine role ≡ true)
common_given mine given role e = are_both mine given role (least_is_among (filter (is_among mine) given) role e)

pub common_least : (mine given : List Role) (role other : Role) → least_common mine given ≡ Some role → is_among given other ≡ true → is_among mine other ≡ true → comes_before other role ≡ false
common_least mine given role other e g m = least_is_first (filter (is_among mine) given) role other e (in_both mine given other g m)

pub common_none : (mine given : List Role) (role : Role) → least_common mine given ≡ None → is_among given role ≡ true → is_among mine role ≡ false
common_none mine given role e g = at (is_among mine role) refl
  where
    empty : (xs : List Role) → least xs ≡ None → is_among xs role ≡ false
    empty [] e = refl
    empty (x ∷ xs) e = absurd (let bad = e in cc)

    at : (b : Bool) → is_among mine role ≡ b → b ≡ false
    at false m = refl
    at true m = (let t = in_both mine given role g m in let f = empty (filter (is_among mine) given) e in cc)
