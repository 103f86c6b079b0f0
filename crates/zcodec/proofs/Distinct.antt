-- Children whose names differ are read the same with a set of names and without one.
use Rattle.std.proofs.Common.{◌≡◌, ℕ, zero, suc, ◌||◌, Bool, true, false, cond, List, [], ◌∷◌, length, Option, Some, None, Result, Ok, Err, refl, sym, ap, ◌∙◌, subst}
use Rattle.std.specs.List.{list_any, IsDistinct, AllByRecursion}
use Rattle.std.specs.Str.{bytes_eq}
use Rattle.std.specs.Int.{w16, w64}
use Rattle.std.proofs.lemmas.Slice.Eq.{bytes_eq-Decides}
use Rattle.zobject.specs.declared.object.Child.{Child}
use Rattle.zobject.specs.declared.version.Rule.TheVariants.{ChildName}
use Rattle.zcodec.specs.Reading.{◌>>=◌, and_name, child_at, items_at, last_one, new_name_at, number_at, text_at}
use Rattle.zcodec.specs.Given.{any_child_at}
use Rattle.zcodec.proofs.Exact.{ok_is}

-- ---- names by bytes

-- whether two children have one name
abbrev pub namesakes : Child → Child → Bool
namesakes c d = bytes_eq c.name d.name

-- none of the children has one of the earlier names
abbrev AreNew : List (List ℕ) → List Child → Type 0
AreNew earlier cs = AllByRecursion (λ (c : Child). list_any (bytes_eq c.name) earlier ≡ false) cs

pub flipped : (m n : List ℕ) → bytes_eq m n ≡ false → bytes_eq n m ≡ false
flipped m n e = at (bytes_eq n m) refl
  where
    at : (b : Bool) → bytes_eq n m ≡ b → b ≡ false
    at false t = refl
    at true t =
        let same : n ≡ m = (bytes_eq-Decides n m).0 t in
        let yes : bytes_eq m n ≡ true = (bytes_eq-Decides m n).1 (sym same) in
        absurd (let all = sym e ∙ yes in cc)

neither : (a b : Bool) → a ≡ false → b ≡ false → (a || b) ≡ false
neither true b e f = absurd (let bad = e in cc)
neither false b e f = f

all_new : (cs : List Child) → AreNew [] cs
all_new [] = tt
all_new (c ∷ cs) = (refl, all_new cs)

still_new : (c : Child) (earlier : List (List ℕ)) (cs : List Child) → AllByRecursion (λ d. namesakes c d ≡ false) cs → AreNew earlier cs → AreNew (c.name ∷ earlier) cs
still_new c earlier [] others new = tt
still_new c earlier (d ∷ ds) others new = (neither (bytes_eq d.name c.name) (list_any (bytes_eq d.name) earlier) (flipped c.name d.name others.0) new.0, still_new c earlier ds others.1 new.1)

-- ---- what is read

-- what the first of two readers gave
record Bound {X Y : Type 0} (first : Result X ℕ) (next : X → Result Y ℕ) (y : Y) : Type 0 where
  value : X
  is : first ≡ Ok value
  goes : next value ≡ Ok y

bound : {X Y : Type 0} (first : Result X ℕ) (next : X → Result Y ℕ) (y : Y) → (first >>= next) ≡ Ok y → Bound first next y
bound (Ok x) next y e = record { value = x; is = refl; goes = e }
bound (Err left) next y e = absurd (let bad = e in cc)

name_is_new : (earlier : List (List ℕ)) (bytes : List ℕ) (name : List ℕ × List ℕ) → text_at w16 ChildName bytes ≡ Ok name → list_any (bytes_eq name.0) earlier ≡ false → new_name_at earlier bytes ≡ Ok name
unfolding new_name_at
name_is_new earlier bytes name e new = ap (λ r. r >>= λ n. cond (list_any (bytes_eq n.0) earlier) (Err (length bytes)) (Ok n)) e ∙ ap (λ b. cond b (Err (length bytes)) (Ok name)) new

child_is_new : (last : Option Child) (earlier : List (List ℕ)) (bytes : List ℕ) (c : Child × List ℕ) → any_child_at last bytes ≡ Ok c → list_any (bytes_eq c.0.name) earlier ≡ false → child_at earlier bytes ≡ Ok c
unfolding any_child_at child_at
child_is_new last earlier bytes c e new =
    let a = bound (text_at w16 ChildName bytes) (λ name. number_at w64 name.1 >>= λ oid. Ok (record { name = name.0; oid = oid.0 }, oid.1)) c e in
    let b = bound (number_at w64 a.value.1) (λ oid. Ok (record { name = a.value.0; oid = oid.0 }, oid.1)) c a.goes in
    let same = ok_is (record { name = a.value.0; oid = b.value.0 }, b.value.1) c b.goes in
    let fresh = ap (λ (d : Child × List ℕ). list_any (bytes_eq d.0.name) earlier) same ∙ new in
    ap (λ r. r >>= λ name. number_at w64 name.1 >>= λ oid. Ok (record { name = name.0; oid = oid.0 }, oid.1)) (name_is_new earlier bytes a.value a.is fresh) ∙ a.goes

children_are_new : (n : ℕ) (last : Option Child) (earlier : List (List ℕ)) (bytes : List ℕ) (cs : List Child) (rest : List ℕ) → items_at any_child_at last_one n last bytes ≡ Ok (cs, rest)
    → IsDistinct namesakes cs → AreNew earlier cs → items_at child_at and_name n earlier bytes ≡ Ok (cs, rest)
unfolding items_at IsDistinct
children_are_new zero last earlier bytes cs rest e distinct new = e
children_are_new (suc n) last earlier bytes cs rest e distinct new =
    let a = bound (any_child_at last bytes) (λ first. items_at any_child_at last_one n (Some first.0) first.1 >>= λ others. Ok (first.0 ∷ others.0, others.1)) (cs, rest) e in
    let b = bound (items_at any_child_at last_one n (Some a.value.0) a.value.1) (λ others. Ok (a.value.0 ∷ others.0, others.1)) (cs, rest) a.goes in
    let same = ap (λ (r : List Child × List ℕ). r.0) (ok_is (a.value.0 ∷ b.value.0, b.value.1) (cs, rest) b.goes) in
    let differ = subst (λ ds. IsDistinct namesakes ds) (sym same) distinct in
    let fresh = subst (λ ds. AreNew earlier ds) (sym same) new in
    let child = child_is_new last earlier bytes a.value a.is fresh.0 in
    let others = children_are_new n (Some a.value.0) (a.value.0.name ∷ earlier) a.value.1 b.value.0 b.value.1 b.is differ.1 (still_new a.value.0 earlier b.value.0 differ.0 fresh.1) in
    ap (λ r. r >>= λ first. items_at child_at and_name n (first.0.name ∷ earlier) first.1 >>= λ others. Ok (first.0 ∷ others.0, others.1)) child
    ∙ ap (λ r. r >>= λ others. Ok (a.value.0 ∷ others.0, others.1)) others
    ∙ b.goes

pub told_apart : (n : ℕ) (bytes : List ℕ) (cs : List Child) (rest : List ℕ) → items_at any_child_at last_one n None bytes ≡ Ok (cs, rest) → IsDistinct namesakes cs → items_at child_at and_name n [] bytes ≡ Ok (cs, rest)
told_apart n bytes cs rest e distinct = children_are_new n None [] bytes cs rest e distinct (all_new cs)
