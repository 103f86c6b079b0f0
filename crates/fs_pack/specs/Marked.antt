-- Objects that were found to be kept, and what they lead to.
use Rattle.std.specs.Prelude.{◌≡◌, ℕ, ◌<◌, ◌==◌, Bool, true, false, List, [], ◌∷◌, ◌++◌, take, Option, None, Some, if◌then◌else◌, nat_lt}
use Rattle.std.specs.List.{list_any, AllByRecursion}
use Rattle.zbase.specs.History.{Value}
use Rattle.fs_record.specs.declared.body.Body.TheVariants.{Back}
use Rattle.fs_record.specs.File.{Earlier, last_place, rows, value_of}
use Rattle.packing.specs.Reachable.{Linking, links_in, spells_none}

abbrev pub is_in : List ℕ → ℕ → Bool
is_in os o = list_any (λ p. p == o) os

-- once each
abbrev pub added : ℕ → List ℕ → List ℕ
added o os = if is_in os o then os else os ++ o ∷ []

abbrev pub all_added : List ℕ → List ℕ → List ℕ
all_added [] os = os
all_added (p ∷ ps) os = all_added ps (added p os)

-- each of these is among them
abbrev pub AreIn : List ℕ → List ℕ → Type 0
AreIn os = AllByRecursion (λ p. is_in os p ≡ true)

-- the lesser of an id that may be missing and another
abbrev pub or_lesser : ℕ → Option ℕ → ℕ
or_lesser o None = o
or_lesser o (Some p) = if nat_lt p o then p else o

abbrev pub broken_by : Bool → ℕ → Option ℕ → Option ℕ
broken_by false o broken = broken
broken_by true o broken = Some (or_lesser o broken)

-- the least of the objects that can't be read, if one of them can't
abbrev pub IsLeast : (ℕ → Bool) → List ℕ → Option ℕ → Type 0
IsLeast broken os None = AllByRecursion (λ o. broken o ≡ false) os
IsLeast broken os (Some b) = (is_in os b ≡ true) × (broken b ≡ true) × AllByRecursion (λ o. o < b → broken o ≡ false) os

-- a set that has with each object what its value leads to
abbrev pub Leads : Linking → (ℕ → Value) → (ℕ → Bool) → Type 0
Leads links meant other = (o : ℕ) → other o ≡ true → AllByRecursion (λ p. other p ≡ true) (links_in links (meant o))

-- what the first n objects lead to was added, and nothing else; which of them can't be read
pub record LedTo (links : Linking) (meant : ℕ → Value) (old : List ℕ) (n : ℕ) (now : List ℕ) (broken : Option ℕ) : Type 0 where
  pub more : List ℕ
  pub grows : now ≡ old ++ more
  pub closed : AllByRecursion (λ o. AreIn now (links_in links (meant o))) (take n now)
  pub least : (other : ℕ → Bool) → Leads links meant other → AllByRecursion (λ p. other p ≡ true) old → AllByRecursion (λ p. other p ≡ true) now
  pub fails : IsLeast (λ o. spells_none links (meant o)) (take n now) broken

-- what these objects lead to, one after another, was added, and nothing else; which of them all can't be read
pub record Leading (links : Linking) (meant : ℕ → Value) (old now : List ℕ) (broken : Option ℕ) : Type 0 where
  pub more : List ℕ
  pub grows : now ≡ old ++ more
  pub closed : AllByRecursion (λ o. AreIn now (links_in links (meant o))) now
  pub least : (other : ℕ → Bool) → Leads links meant other → AllByRecursion (λ p. other p ≡ true) old → AllByRecursion (λ p. other p ≡ true) now
  pub fails : IsLeast (λ o. spells_none links (meant o)) now broken

-- ---- values

-- the value of the object's last record
abbrev pub meant : List Earlier → ℕ → Value
meant records o = value_of records (Back (last_place o 0 (rows records)))
