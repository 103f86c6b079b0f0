-- Where the children of a folder stand by a number of their names, so that one of so many isn't looked for among all.
use Rattle.std.specs.Prelude.{ℕ, suc, ◌+◌, ◌%◌, ◌<◌, ◌≡◌, ◌==◌, ◌⊎◌, if◌then◌else◌, List, [], ◌∷◌, length, drop, get_or}
use Rattle.name_keys.specs.Keys.{name_key}
use Rattle.zobject.specs.declared.object.Child.{Child}
use Rattle.zobject.specs.declared.object.Part2.TheVariants as parts
use Rattle.zknown.specs.declared.kept.Kept.{Kept}
use Rattle.zknown.specs.declared.kept.Kept.TheVariants as kept

-- the number of a name, below so many
unfoldable pub spot_of : ℕ → List ℕ → ℕ
spot_of many name = name_key name % many

-- how many children stand before the first one whose name has this number
unfoldable pub before : ℕ → ℕ → List Child → ℕ
before many spot [] = 0
before many spot (c ∷ cs) = if spot_of many c.name == spot then 0 else suc (before many spot cs)

-- from a child on, the place of the first one whose name has this number; the end, where none has
abbrev pub next_at : List Child → ℕ → ℕ → ℕ
next_at children at spot = at + before (length children) spot (drop at children)

-- For each number below their count the place of the first child that has it; and behind these, for each child the place of
-- the next one with the same.
pub record AreSpots (children : List Child) (spots : List ℕ) : Type 0 where
  pub size : length spots ≡ length children + length children
  pub first : (spot : ℕ) → spot < length children → get_or spots spot 0 ≡ next_at children 0 spot
  pub next : (at : ℕ) (d : Child) → at < length children →
      get_or spots (length children + at) 0 ≡ next_at children (at + 1) (spot_of (length children) (get_or children at d).name)

-- the children of a folder
abbrev pub Lists : Kept → List Child → Type 0
Lists (kept.Here object) children = object.part ≡ parts.Folder children
Lists kept.Absent children = ⊥
Lists kept.Unreadable children = ⊥

-- no spots are kept, or they are those of a folder's children
abbrev pub AreSpotsOf : Kept → List ℕ → Type 0
AreSpotsOf what spots = (spots ≡ []) ⊎ ((children : List Child) × Lists what children × (0 < length children) × AreSpots children spots)
