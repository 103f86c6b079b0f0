-- Children that are left out, come last, or get another name.
use Rattle.std.proofs.Common.{◌≡◌, ℕ, suc, ◌<◌, Bool, true, false, ◌||◌, not, cond, List, [], ◌∷◌, ◌++◌, length, map, Some, None, option_map, refl, ap, ◌∙◌, arith}
use Rattle.std.specs.List.{filter, find, list_any}
use Rattle.std.specs.Str.{bytes_eq}
use Rattle.zobject.specs.declared.object.Child.{Child}
use Rattle.zobject.specs.Rules.{AreDistinct}
use Rattle.zobject.specs.Folders.{child_of}
use Rattle.zobject.specs.Changes.{without_children}
use Rattle.zobject.proofs.Rising.{filter_few}

abbrev pub names : List Child → List (List ℕ)
names cs = map (λ (c : Child). c.name) cs

neither : (a b : Bool) → (a || b) ≡ false → (a ≡ false) × (b ≡ false)
neither true b e = absurd (let bad = e in cc)
neither false b e = (refl, e)

not_either : (a b : Bool) → a ≡ false → b ≡ false → (a || b) ≡ false
not_either true b e f = absurd (let bad = e in cc)
not_either false b e f = f

-- ---- some left out

filter_new : (n : List ℕ) (keep : Child → Bool) (cs : List Child) → list_any (bytes_eq n) (names cs) ≡ false → list_any (bytes_eq n) (names (filter keep cs)) ≡ false
filter_new n keep [] new = refl
filter_new n keep (c ∷ cs) new =
    let p = neither (bytes_eq n c.name) (list_any (bytes_eq n) (names cs)) new in
    at (keep c) p.0 (filter_new n keep cs p.1)
  where
    at : (b : Bool) → bytes_eq n c.name ≡ false → list_any (bytes_eq n) (names (filter keep cs)) ≡ false → list_any (bytes_eq n) (names (cond b (c ∷ filter keep cs) (filter keep cs))) ≡ false
    at true first rest = not_either (bytes_eq n c.name) _ first rest
    at false first rest = rest

pub filter_distinct : (keep : Child → Bool) (cs : List Child) → AreDistinct (names cs) → AreDistinct (names (filter keep cs))
filter_distinct keep [] are = tt
filter_distinct keep (c ∷ cs) are = at (keep c) (filter_distinct keep cs are.1)
  where
    at : (b : Bool) → AreDistinct (names (filter keep cs)) → AreDistinct (names (cond b (c ∷ filter keep cs) (filter keep cs)))
    at true rest = (filter_new c.name keep cs are.0, rest)
    at false rest = rest

-- ---- one more

-- none of that name: it isn't the first one's, nor one of those behind it
none_behind : (name : List ℕ) (c : Child) (cs : List Child) → child_of name (c ∷ cs) ≡ None → (bytes_eq c.name name ≡ false) × (child_of name cs ≡ None)
none_behind name c cs e = at (bytes_eq c.name name) refl e
  where
    at : (b : Bool) → bytes_eq c.name name ≡ b → option_map (λ (d : Child). d.oid) (cond b (Some c) (find (λ (d : Child). bytes_eq d.name name) cs)) ≡ None → (bytes_eq c.name name ≡ false) × (child_of name cs ≡ None)
    at true is e' = absurd (let bad = e' in cc)
    at false is e' = (is, e')

pushed_new : (n : List ℕ) (cs : List Child) (c : Child) → list_any (bytes_eq n) (names cs) ≡ false → bytes_eq n c.name ≡ false → list_any (bytes_eq n) (names (cs ++ c ∷ [])) ≡ false
pushed_new n [] c new other = not_either (bytes_eq n c.name) false other refl
pushed_new n (d ∷ cs) c new other =
    let p = neither (bytes_eq n d.name) (list_any (bytes_eq n) (names cs)) new in
    not_either (bytes_eq n d.name) _ p.0 (pushed_new n cs c p.1 other)

pub pushed_distinct : (cs : List Child) (c : Child) → AreDistinct (names cs) → child_of c.name cs ≡ None → AreDistinct (names (cs ++ c ∷ []))
pushed_distinct [] c are none = (refl, tt)
pushed_distinct (d ∷ cs) c are none =
    let p = none_behind c.name d cs none in
    (pushed_new d.name cs c are.0 p.0, pushed_distinct cs c are.1 p.1)

-- ---- one under another name

pub filter_none : (name : List ℕ) (keep : Child → Bool) (cs : List Child) → child_of name cs ≡ None → child_of name (filter keep cs) ≡ None
filter_none name keep [] none = refl
filter_none name keep (c ∷ cs) none = at (keep c) (filter_none name keep cs (none_behind name c cs none).1)
  where
    at : (b : Bool) → child_of name (filter keep cs) ≡ None → child_of name (cond b (c ∷ filter keep cs) (filter keep cs)) ≡ None
    at true rest = ap (λ (b : Bool). option_map (λ (d : Child). d.oid) (cond b (Some c) (find (λ (d : Child). bytes_eq d.name name) (filter keep cs)))) (none_behind name c cs none).0 ∙ rest
    at false rest = rest

-- where one of that name is there, fewer are left without it
pub fewer_left : (old : List ℕ) (oid : ℕ) (cs : List Child) → child_of old cs ≡ Some oid → length (without_children (old ∷ []) cs) < length cs
fewer_left old oid [] e = absurd (let bad = e in cc)
fewer_left old oid (c ∷ cs) e = at (bytes_eq c.name old) e (fewer_left old oid cs)
  where
    at : (b : Bool) → option_map (λ (d : Child). d.oid) (cond b (Some c) (find (λ (d : Child). bytes_eq d.name old) cs)) ≡ Some oid → (child_of old cs ≡ Some oid → length (without_children (old ∷ []) cs) < length cs)
        → length (cond (not (b || false)) (c ∷ without_children (old ∷ []) cs) (without_children (old ∷ []) cs)) < suc (length cs)
    at true e' shorter = let few = filter_few (λ (d : Child). not (list_any (bytes_eq d.name) (old ∷ []))) cs in omega (arith, few)
    at false e' shorter = let fewer = shorter e' in omega (arith, fewer)
