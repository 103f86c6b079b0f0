-- Marks by which most objects are told from those of a path at one look, and the objects that aren't on it.
use Rattle.std.specs.Prelude.{ℕ, ◌≡◌, ◌%◌, Bool, true, false, not, List, get_or}
use Rattle.std.specs.List.{filter}
use Rattle.acquisition.specs.Acquiring.{has}

-- whether the mark of an object is set
abbrev pub is_marked : List Bool → ℕ → Bool
is_marked marks o = get_or marks (o % 8192) false

-- each of these objects is marked
abbrev pub AreMarked : List Bool → List ℕ → Type 0
AreMarked marks path = (o : ℕ) → has path o ≡ true → is_marked marks o ≡ true

-- those of the objects that aren't on the path
abbrev pub others : List ℕ → List ℕ → List ℕ
others path xs = filter (λ o. not (has path o)) xs
