-- Names whose keys differ are different names.
use Rattle.std.proofs.Common.{◌≡◌, ℕ, Bool, true, false, List, [], ◌∷◌, map, refl, sym, ap, ◌∙◌, nat_cmp}
use Rattle.std.specs.List.{IsDistinct, AllByRecursion}
use Rattle.std.specs.Ordering.{eq_by_cmp}
use Rattle.std.specs.Str.{bytes_eq}
use Rattle.std.proofs.lemmas.Cmp.{nat_cmp_total, eq_by_cmp_equiv}
use Rattle.std.proofs.lemmas.Slice.Eq.{bytes_eq-Decides}
use Rattle.name_keys.specs.Keys.{name_key}

-- ---- what has different keys differs

module _ {K X : Type 0} (e : K → K → Bool) (f : X → X → Bool) (key : X → K) (kept : (x y : X) → e (key x) (key y) ≡ false → f x y ≡ false) where
  each_apart : (x : X) (xs : List X) → AllByRecursion (λ k. e (key x) k ≡ false) (map key xs) → AllByRecursion (λ y. f x y ≡ false) xs
  each_apart x [] all = tt
  each_apart x (y ∷ ys) all = (kept x y all.0, each_apart x ys all.1)

  pub apart : (xs : List X) → IsDistinct e (map key xs) → IsDistinct f xs
  unfolding IsDistinct
  apart [] all = tt
  apart (x ∷ xs) all = (each_apart x xs all.0, apart xs all.1)

same_key : (m n : List ℕ) → eq_by_cmp nat_cmp (name_key m) (name_key n) ≡ false → bytes_eq m n ≡ false
same_key m n e = at (bytes_eq m n) refl
  where
    at : (b : Bool) → bytes_eq m n ≡ b → b ≡ false
    at false t = refl
    at true t =
        let one : eq_by_cmp nat_cmp (name_key m) (name_key m) ≡ true = (eq_by_cmp_equiv nat_cmp_total).refl (name_key m) in
        let same : m ≡ n = (bytes_eq-Decides m n).0 t in
        let yes : eq_by_cmp nat_cmp (name_key m) (name_key n) ≡ true = sym (ap (λ k. eq_by_cmp nat_cmp (name_key m) (name_key k)) same) ∙ one in
        absurd (let all = sym e ∙ yes in cc)

-- Things with a name differ by their names where the keys of these do.
pub by_keys : {X : Type 0} (name : X → List ℕ) (xs : List X) → IsDistinct (eq_by_cmp nat_cmp) (map (λ x. name_key (name x)) xs) → IsDistinct (λ x y. bytes_eq (name x) (name y)) xs
by_keys name xs all = apart (eq_by_cmp nat_cmp) (λ x y. bytes_eq (name x) (name y)) (λ x. name_key (name x)) (λ x y e. same_key (name x) (name y) e) xs all
