-- What a core shows of each item.
use Rattle.std.specs.Prelude.{ℕ, List}
use Rattle.schedule.specs.declared.item.Item2.{Item2}
use Rattle.schedule.specs.declared.line.Line.{Line}
use Rattle.schedule.specs.Courses.{Happens}
use Rattle.schedule.specs.Moments.{Terms, Moment, clocked}

-- Whichever moment comes next, it follows by this item and these lines from one that might have been. The
-- moments are those at which a core may be, their clocks aside: two while the outcome of a finish isn't known.
abbrev pub Follows : {R : Type 0} → Terms R → (Moment R → Type 0) → ℕ → (Moment R → Type 0) → ℕ → Item2 → List Line → Type 0
Follows {R} terms old_may since new_may now item lines = (new : Moment R) → new_may new → (old : Moment R) × old_may old × Happens terms (clocked old since) item lines (clocked new now)
