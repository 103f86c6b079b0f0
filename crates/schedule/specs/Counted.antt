-- The licence of a run over a disk that was handed in: its report tells a fault where the disk's count of faults rose, and
-- nowhere else, and the machine doesn't stop.
use Rattle.std.specs.Prelude.{ℕ, ◌≡◌, ◌+◌, ◌<◌, ◌≤◌, min, Bool, true, false, List, [], ◌∷◌, map}
use Rattle.std.specs.List.{list_any}
use Rattle.zbase.specs.History.{History}
use Rattle.zbase.specs.Limits.{greatest_number}
use Rattle.schedule.specs.declared.item.Item2.{Item2}
use Rattle.schedule.specs.declared.line.Line.{Line}
use Rattle.schedule.specs.Courses.{Place}
use Rattle.schedule.specs.Entries.{faults}
use Rattle.schedule.specs.Explained.{Explains}
use Rattle.schedule.specs.Moments.{Terms}

-- the machine stopped, or was started again
abbrev pub is_stop : Line → Bool
is_stop Line.Stop = true
is_stop Line.OpenFault = true
is_stop (Line.Restart t n) = true
is_stop _ = false

-- What these lines say of the disk's count: it rose where they tell a fault (at its last value it stays), and stays where they
-- tell none.
pub record Counted (old : ℕ) (lines : List Line) (new : ℕ) : Type 0 where
  pub later : old ≤ new
  pub calm : faults lines ≡ 0 → new ≡ old
  pub rose : 0 < faults lines → min (old + 1) greatest_number ≤ new
  pub runs : list_any is_stop lines ≡ false

-- item by item, from the one count to the other
abbrev pub AreCounted : ℕ → List (List Line) → ℕ → Type 0
AreCounted old [] new = new ≡ old
AreCounted old (lines ∷ more) new = (mid : ℕ) × Counted old lines mid × AreCounted mid more new

-- what each item printed
abbrev pub printed : {R : Type 0} → List (Place R) → List (List Line)
printed places = map (λ p. p.lines) places

-- Explained by the disk's count of faults, which was the one and is the other.
abbrev pub ExplainedByCount : {R : Type 0} → Terms R → ℕ → ℕ → History → List Item2 → List Line → Type 0
ExplainedByCount terms old new h0 s r = Explains terms (λ trace. AreCounted old (printed trace) new) h0 s r
