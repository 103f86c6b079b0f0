-- A run as a function, given the trouble of each item, if any. A course says the same with the troubles left open.
use Rattle.std.specs.Prelude.{ℕ, List, [], ◌∷◌, Option, Some, None, option_and_then}
use Rattle.schedule.specs.declared.item.Item2.{Item2}
use Rattle.schedule.specs.declared.line.Line.{Line}
use Rattle.schedule.specs.Moments.{Terms, Doing, Free, Waiting, Moment, doing, turned, clocked}
use Rattle.schedule.specs.Stepping.{Told, told, Trouble, troubled}
use Rattle.schedule.specs.Courses.{Place}

abbrev pub steps_by : {R : Type 0} → Terms R → Moment R → ℕ → Option Trouble → Option (Told R)
steps_by terms m w None = Some (told terms m w)
steps_by terms m w (Some trouble) = troubled terms m w trouble

abbrev pub given : {R : Type 0} → Moment R → ℕ → Option (Doing R) → Option R → Option (Told R)
given m w (Some Free) (Some q) = Some ([], turned m w (Waiting q []))
given m w _ _ = None

abbrev pub happens_by : {R : Type 0} → Terms R → Moment R → Item2 → Option Trouble → Option (Told R)
happens_by terms m (Item2.Request w bytes) trouble = given m w (doing m w) (terms.takes bytes)
happens_by terms m (Item2.Step w) trouble = steps_by terms m w trouble
happens_by terms m (Item2.Clock t) trouble = Some ([], clocked m t)
happens_by terms m (Item2.Stop n seed) trouble = Some ([], m)
happens_by terms m (Item2.Fail n seed) trouble = Some ([], m)
happens_by terms m (Item2.Pack t) trouble = None
happens_by terms m Item2.End trouble = None

abbrev pub ran_on : {R : Type 0} → Moment R → Item2 → List Line → Moment R → Option (List (Place R) × Moment R) → Option (List (Place R) × Moment R)
ran_on m item lines n None = None
ran_on m item lines n (Some (ps, end)) = Some (record { before = m; item = item; lines = lines; after = n } ∷ ps, end)

abbrev pub ran : {R : Type 0} → Terms R → Moment R → List (Item2 × Option Trouble) → Option (List (Place R) × Moment R)
ran terms m [] = Some ([], m)
ran terms m (x ∷ xs) = option_and_then (λ r. ran_on m x.0 r.0 r.1 (ran terms r.1 xs)) (happens_by terms m x.0 x.1)

abbrev pub trace_of : {R : Type 0} → Option (List (Place R) × Moment R) → List (Place R)
trace_of None = []
trace_of (Some r) = r.0

abbrev pub end_of : {R : Type 0} → Moment R → Option (List (Place R) × Moment R) → Moment R
end_of m None = m
end_of m (Some r) = r.1
