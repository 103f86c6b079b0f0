-- The objects that a pack keeps: those that are reachable at its time or later.
--
-- ZODB Programming Guide, "Packing and garbage collection": what isn't reachable from the root is garbage.
use Rattle.std.specs.Prelude.{ℕ, ◌≡◌, ◌<◌, ◌==◌, Bool, true, false, not, List, [], ◌∷◌, map, filter, flat_map, Option, Some, None, nat_lt}
use Rattle.std.specs.List.{list_any, AllByRecursion}
use Rattle.std.specs.Option.{is_some}
use Rattle.zbase.specs.History.{Value, Transaction, History}
use Rattle.zbase.specs.Values.{Revision, revisions_of, value, upto}

-- What bytes link to: the ids of the parent and the children of the object that they spell. None where they spell no
-- object.
abbrev pub Linking : Type 0
Linking = List ℕ → Option (List ℕ)

-- the transactions with ids above t
abbrev pub behind : History → ℕ → List Transaction
behind h t = filter (λ x. nat_lt t x.tid) h.transactions

-- their records
abbrev pub written_behind : History → ℕ → List Revision
written_behind h t = flat_map revisions_of (behind h t)

-- the object's value at t, and each that a later transaction gives it
abbrev pub values_from : History → ℕ → ℕ → List Value
values_from h t o = value (upto h t) o ∷ map (λ (r : Revision). r.value) (filter (λ (r : Revision). r.oid == o) (written_behind h t))

-- nothing where there is no list
abbrev pub listed : Option (List ℕ) → List ℕ
listed None = []
listed (Some os) = os

-- what a value links to: nothing where it is none, or bytes that spell no object
abbrev pub links_in : Linking → Value → List ℕ
links_in links None = []
links_in links (Some bytes) = listed (links bytes)

-- A set of objects, as the test whether an object is in it, that has the root and what was written later than t, and with
-- each object what its value at t and its later ones link to.
pub record IsClosed (links : Linking) (h : History) (t : ℕ) (keep : ℕ → Bool) : Type 0 where
  pub root : keep 0 ≡ true
  pub written : AllByRecursion (λ (r : Revision). keep r.oid ≡ true) (written_behind h t)
  pub linked : (o : ℕ) → keep o ≡ true → AllByRecursion (λ (v : Value). AllByRecursion (λ p. keep p ≡ true) (links_in links v)) (values_from h t o)

-- the least such set
pub record IsKeep (links : Linking) (h : History) (t : ℕ) (keep : ℕ → Bool) : Type 0 where
  pub closed : IsClosed links h t keep
  pub least : (other : ℕ → Bool) → IsClosed links h t other → (o : ℕ) → keep o ≡ true → other o ≡ true

-- ---- what can't be read

-- whether a value is bytes that spell no object
abbrev pub spells_none : Linking → Value → Bool
spells_none links None = false
spells_none links (Some bytes) = not (is_some (links bytes))

abbrev pub is_broken : Linking → History → ℕ → ℕ → Bool
is_broken links h t o = list_any (spells_none links) (values_from h t o)

-- each object that is kept can be read, at t and later
abbrev pub AreReadable : Linking → History → ℕ → (ℕ → Bool) → Type 0
AreReadable links h t keep = (o : ℕ) → keep o ≡ true → is_broken links h t o ≡ false

-- the least object that is kept and can't be read
pub record IsUnreadable (links : Linking) (h : History) (t : ℕ) (keep : ℕ → Bool) (o : ℕ) : Type 0 where
  pub kept : keep o ≡ true
  pub broken : is_broken links h t o ≡ true
  pub first : (p : ℕ) → p < o → keep p ≡ true → is_broken links h t p ≡ false
