-- What comes first of each name, and where it stands.
use Rattle.std.specs.Prelude.{ℕ, ◌≡◌, not, List, [], ◌∷◌, filter, String}
use Rattle.std.specs.Global.{Global}
use Rattle.std.specs.BTreeMap.{BTreeMap, get_by_text}
use Rattle.std.specs.List.{position}
use Rattle.std.specs.Str.{bytes_eq}

-- of each name the item that comes first, in order
abbrev pub firsts : {A : Type 0} → (A → List ℕ) → List A → List A
firsts name [] = []
firsts name (x ∷ xs) = x ∷ filter (λ y. not (bytes_eq (name y) (name x))) (firsts name xs)

-- the map has the place of each of these names, and no other
abbrev pub AreAt : List (List ℕ) → BTreeMap (String Global) ℕ → Type 0
AreAt names places = (q : List ℕ) → get_by_text places q ≡ position (λ n. bytes_eq n q) names
