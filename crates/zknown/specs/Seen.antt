-- What is seen of the objects of a request: all of each, or its shape alone.
use Rattle.std.specs.Prelude.{ℕ, ◌≡◌, ◌==◌, if◌then◌else◌, List, Option, Some, None, option_map, Result, Ok, Err}
use Rattle.std.specs.Ordering.{nat_cmp}
use Rattle.std.specs.BTreeMap.{is_at}
use Rattle.std.specs.Map.{lookup}
use Rattle.zbase.specs.Query.{Query, Done, Stops, Asks}
use Rattle.zobject.specs.declared.object.Object.{Object}
use Rattle.zobject.specs.declared.refusal.CodecRefusal.{CodecRefusal}
use Rattle.zobject.specs.declared.refusal.CodecRefusal.TheVariants as refusal
use Rattle.zobject.specs.Shapes.{Shape, shape_of}
use Rattle.zknown.specs.declared.kept.Kept.{Kept}
use Rattle.zknown.specs.declared.kept.Kept.TheVariants as kept
use Rattle.zknown.specs.declared.kept.Got.{Got}
use Rattle.zknown.specs.declared.kept.Got.TheVariants as got

-- an object that is here, as far as it is seen, or why none is
pub data Seen (A : Type 0) : Type 0 where
  Here : A → Seen A
  Absent : Seen A
  Unreadable : Seen A

-- a question that asks for shapes: it can't look at titles, sources and values of properties
abbrev pub Shapes : Type 0 → Type 0 → Type 0
Shapes E A = Query ℕ (Seen Shape) E A

-- a question that asks for whole objects
abbrev pub Objects : Type 0 → Type 0 → Type 0
Objects E A = Query ℕ (Seen Object) E A

abbrev pub seen_as : {A : Type 0} → (Object → A) → Kept → Seen A
seen_as part (kept.Here object) = Here (part object)
seen_as part kept.Absent = Absent
seen_as part kept.Unreadable = Unreadable

-- what was last added of the object
unfoldable pub last_added : List (ℕ × Kept) → ℕ → Option Kept
last_added rows o = lookup (is_at (nat_cmp o)) rows

-- what is known of each object, and of its shape
abbrev pub objects : List (ℕ × Kept) → ℕ → Option (Seen Object)
objects rows o = option_map (seen_as (λ object. object)) (last_added rows o)

abbrev pub shapes : List (ℕ × Kept) → ℕ → Option (Seen Shape)
shapes rows o = option_map (seen_as shape_of) (last_added rows o)

-- what is kept of an object's fact: it has no value, an object, or bytes that are no record; nothing where memory ran
-- out while the bytes were read
abbrev pub kept_of : Option (Result Object CodecRefusal) → Option Kept
kept_of None = Some kept.Absent
kept_of (Some (Ok object)) = Some (kept.Here object)
kept_of (Some (Err (refusal.BadRecord at))) = Some kept.Unreadable
kept_of (Some (Err refusal.Memory)) = None

-- the rows behind say what those before say, and of the object what its fact came to
abbrev pub Added : ℕ → Option (Result Object CodecRefusal) → List (ℕ × Kept) → List (ℕ × Kept) → Type 0
Added oid object old new = (kept : Kept) × (kept_of object ≡ Some kept) × ((o : ℕ) → last_added new o ≡ (if oid == o then Some kept else last_added old o))

abbrev pub Gives : Option Kept → Got → Type 0
Gives (Some (kept.Here object)) (got.Here shown) = shown.now ≡ object
Gives (Some kept.Absent) got.Absent = Unit {0}
Gives (Some kept.Unreadable) got.Unreadable = Unit {0}
Gives None got.Unknown = Unit {0}
Gives _ _ = ⊥

-- ---- a question over shapes, put to whole objects

abbrev pub shape_seen : Seen Object → Seen Shape
shape_seen (Here object) = Here (shape_of object)
shape_seen Absent = Absent
shape_seen Unreadable = Unreadable

abbrev pub over_objects : {E A : Type 0} → Shapes E A → Objects E A
over_objects (Done x) = Done x
over_objects (Stops cause) = Stops cause
over_objects (Asks o go) = Asks o (λ seen. over_objects (go (shape_seen seen)))
