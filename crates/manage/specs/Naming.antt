-- What code keeps of texts: a set of them, and marks by which most other texts are told apart from these.
use Rattle.std.specs.Prelude.{◌≡◌, ◌&&◌, ◌%◌, ℕ, Bool, true, false, List, length, get_or, map, not}
use Rattle.std.specs.Ordering.{nat_cmp}
use Rattle.std.specs.Cmp.Lexicographic.{slice_cmp}
use denote.Ref.{Bor}
use Rattle.std.specs.BTreeSet.{BTreeSet, contains_by}
use Rattle.std.specs.Hash.FoldHasher as hashing
use Rattle.manage.specs.declared.seeking.TheConstants.{MARKS}
use Rattle.manage.specs.Becoming.{is_among}

-- its texts, in order
abbrev pub keys_now : BTreeSet (Bor (List ℕ)) → List (List ℕ)
keys_now set = map (λ (k : Bor (List ℕ)). k.now) set.keys

abbrev pub has : BTreeSet (Bor (List ℕ)) → List ℕ → Bool
has set q = contains_by (λ (k : Bor (List ℕ)). slice_cmp nat_cmp q k.now) set

-- the set has these texts and no other
abbrev pub Knows : BTreeSet (Bor (List ℕ)) → List (List ℕ) → Type 0
Knows set texts = (q : List ℕ) → has set q ≡ is_among texts q

-- the set has those of its former texts that aren't among the names
abbrev pub IsUnnamed : BTreeSet (Bor (List ℕ)) → BTreeSet (Bor (List ℕ)) → List (List ℕ) → Type 0
IsUnnamed old new names = (q : List ℕ) → has new q ≡ (has old q && not (is_among names q))

-- ---- texts that are sought among names

-- those that are sought, and those of them that weren't met yet
pub record Seeking : Type 0 where
  pub texts : BTreeSet (Bor (List ℕ))
  pub unmet : BTreeSet (Bor (List ℕ))

-- the place of a text's mark; that two texts have one is allowed
unfoldable pub mark_of : List ℕ → ℕ
mark_of text = hashing.finish (hashing.write hashing.initial text) % MARKS

abbrev pub is_marked : List Bool → List ℕ → Bool
is_marked marks q = get_or marks (mark_of q) false

-- the marks of the texts are set
abbrev pub AreMarked : List (List ℕ) → List Bool → Type 0
AreMarked texts marks = (length marks ≡ MARKS) × ((q : List ℕ) → is_among texts q ≡ true → is_marked marks q ≡ true)

-- those of the set's texts are set, and it has all texts that weren't met
abbrev pub IsMarked : BTreeSet (Bor (List ℕ)) → BTreeSet (Bor (List ℕ)) → List Bool → Type 0
IsMarked texts unmet marks = (length marks ≡ MARKS) × ((q : List ℕ) → has texts q ≡ true → is_marked marks q ≡ true) × ((q : List ℕ) → has unmet q ≡ true → has texts q ≡ true)
