-- A course of moments: what each item of a schedule printed, and which moment followed.
use Rattle.std.specs.Prelude.{ℕ, ◌≡◌, List, [], ◌∷◌, map, flat_map, Option, Some, None}
use Rattle.schedule.specs.declared.item.Item2.{Item2}
use Rattle.schedule.specs.declared.line.Line.{Line}
use Rattle.schedule.specs.Moments.{Terms, Doing, Free, Waiting, Asking, Computed, Moment, doing, turned, clocked}
use Rattle.schedule.specs.Packing.{PacksAt}
use Rattle.schedule.specs.Stepping.{Steps}

-- an item of the schedule prints these lines, and this is the moment after it
abbrev pub Happens : {R : Type 0} → Terms R → Moment R → Item2 → List Line → Moment R → Type 0
Happens {R = R} terms old (Item2.Request w bytes) lines new = (q : R) × (terms.takes bytes ≡ Some q) × (doing old w ≡ Some Free) × (lines ≡ []) × (new ≡ turned old w (Waiting q []))
Happens terms old (Item2.Step w) lines new = Steps terms old w lines new
Happens terms old (Item2.Clock t) lines new = (lines ≡ []) × (new ≡ clocked old t)
Happens terms old (Item2.Stop n seed) lines new = (lines ≡ []) × (new ≡ old)
Happens terms old (Item2.Fail n seed) lines new = (lines ≡ []) × (new ≡ old)
Happens terms old (Item2.Pack t) lines new = PacksAt terms old t lines new
Happens terms old Item2.End lines new = ⊥

-- one item of a run, with the lines that it printed, and the moments before and after it
pub record Place (R : Type 0) : Type 0 where
  pub before : Moment R
  pub item : Item2
  pub lines : List Line
  pub after : Moment R

-- the places follow one another from the first moment to the last
abbrev pub Course : {R : Type 0} → Terms R → Moment R → List (Place R) → Moment R → Type 0
Course terms old [] new = old ≡ new
Course terms old (p ∷ ps) new = (old ≡ p.before) × Happens terms p.before p.item p.lines p.after × Course terms p.after ps new

abbrev pub items_of : {R : Type 0} → List (Place R) → List Item2
items_of ps = map (λ p. p.item) ps

abbrev pub lines_of : {R : Type 0} → List (Place R) → List Line
lines_of ps = flat_map (λ p. p.lines) ps

-- the worker that an item is about
abbrev pub worker_of : Item2 → ℕ
worker_of (Item2.Request w bytes) = w
worker_of (Item2.Step w) = w
worker_of _ = 0

-- the request that a worker has
abbrev pub request_of : {R : Type 0} → Option (Doing R) → Option R
request_of None = None
request_of (Some Free) = None
request_of (Some (Waiting q cs)) = Some q
request_of (Some (Asking a)) = Some a.request
request_of (Some (Computed a x d)) = Some a.request
