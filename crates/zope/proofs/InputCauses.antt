-- What an input is refused for by its grammar.
use Rattle.std.proofs.Common.{◌≡◌, ℕ, ◌≤◌, List, length, Option, None, Some, Err, refl, subst}
use Rattle.std.specs.Prelude.{IfSome, IsErrOf}
use Rattle.schedule.specs.declared.reader.ScheduleRefusal.{ScheduleRefusal}
use Rattle.schedule.specs.BadLines.{IsBadAt}
use Rattle.zope.specs.Given.{most_input}
use Rattle.zope.specs.ReplayCauses.{InputCause, of_schedule}

pub unscheduled : {T : Type 0} (input : Option (List ℕ)) (failed : Type 0) (text : List ℕ) (r : ScheduleRefusal) → IfSome input (λ bytes. text ≡ bytes) → length text ≤ most_input
    → ((n : ℕ) → IsErrOf {T = T} (Err r) (ScheduleRefusal.BadLine n) → IsBadAt text n) → InputCause input failed (of_schedule r)
unscheduled input failed text ScheduleRefusal.Memory all within bad = tt
unscheduled None failed text (ScheduleRefusal.BadLine n) all within bad = tt
unscheduled (Some bytes) failed text (ScheduleRefusal.BadLine n) all within bad = subst (λ (t : List ℕ). (length t ≤ most_input) × IsBadAt t n) all (within, bad n refl)
