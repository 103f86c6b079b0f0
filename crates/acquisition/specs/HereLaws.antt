-- An object that is here was added last under its id.
use Rattle.std.proofs.Common.{ℕ, ◌≡◌, ap, List, Option, Some, None, option_map, Ok}
use Rattle.zbase.specs.Query.{run, go_on}
use Rattle.zobject.specs.declared.object.Object.{Object}
use Rattle.zknown.specs.declared.kept.Kept.{Kept}
use Rattle.zknown.specs.declared.kept.Kept.TheVariants as kept
use Rattle.zknown.specs.Seen.{Seen, last_added, objects, seen_as}
use Rattle.acquisition.specs.Acquiring.{here, present}

added_at : (o : ℕ) (k : ℕ → Option (Seen Object)) (object : Object) (x : Option Kept) → go_on o (λ seen. run k (present o seen)) (option_map (seen_as (λ object. object)) x) ≡ Ok object → x ≡ Some (kept.Here object)
added_at o k object None e = absurd (let bad = e in cc)
added_at o k object (Some (kept.Here other)) e = (let same : other ≡ object = cc in ap (λ (z : Object). Some (kept.Here z)) same)
added_at o k object (Some kept.Absent) e = absurd (let bad = e in cc)
added_at o k object (Some kept.Unreadable) e = absurd (let bad = e in cc)

pub here_added : (rows : List (ℕ × Kept)) (o : ℕ) (object : Object) → run (objects rows) (here o) ≡ Ok object → last_added rows o ≡ Some (kept.Here object)
here_added rows o object e = added_at o (objects rows) object (last_added rows o) e
