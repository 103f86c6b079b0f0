-- The worked reports that are explained: each is what the table gives, by computing.
use Rattle.std.proofs.Common.{◌≡◌, ℕ, Bool, true, false, List, [], ◌∷◌, Option, Some, None, refl, map, codes, arith}
use Rattle.std.specs.Prelude.{is_some}
use Rattle.evaluator.specs.declared.cells.CellRequest.{CellRequest}
use Rattle.evaluator.specs.CellLaws.{cells_lawful}
use Rattle.schedule.specs.declared.item.Item2.{Item2}
use Rattle.schedule.specs.Armed.{IsArmed}
use Rattle.schedule.specs.Courses.{Place}
use Rattle.schedule.specs.Explained.{Explained}
use Rattle.schedule.specs.Moments.{Moment, start}
use Rattle.schedule.specs.Stepping.{Trouble, Is_stopped}
use Rattle.schedule.specs.Worked.{cells, two_cells, one_cell, conflict_schedule, conflict_report, stop_schedule, dropped_report, kept_report, packed_cell, packed_schedule, packed_report}
use Rattle.schedule.proofs.Oracle.{ran, trace_of, end_of}
use Rattle.schedule.proofs.OracleCourses.{ran_course}
use Rattle.schedule.proofs.Running.{explained}

abbrev plain : Item2 → Item2 × Option Trouble
plain item = (item, None)

abbrev conflict_run : Option (List (Place CellRequest) × Moment CellRequest)
conflict_run = ran cells (start cells two_cells) (map plain conflict_schedule)

-- a run that goes through is its trace and its end
goes_through : {R : Type 0} (m : Moment R) (run : Option (List (Place R) × Moment R)) → is_some run ≡ true → run ≡ Some (trace_of run, end_of m run)
goes_through m None is = cc
goes_through m (Some r) is = refl

conflict_ends : conflict_run ≡ Some (trace_of conflict_run, end_of (start cells two_cells) conflict_run)
conflict_ends = goes_through (start cells two_cells) conflict_run refl

pub conflict_is_explained : Explained cells two_cells conflict_schedule conflict_report
conflict_is_explained =
    explained cells IsArmed two_cells (trace_of conflict_run) (end_of (start cells two_cells) conflict_run) cells_lawful (omega arith, tt)
    (ran_course cells (start cells two_cells) (map plain conflict_schedule) (trace_of conflict_run) (end_of (start cells two_cells) conflict_run) conflict_ends)
    refl

-- the same, with the stop in the last step
abbrev stop_oracle : ℕ → Bool → List (Item2 × Option Trouble)
stop_oracle seed stands =
    (Item2.Request 0 (codes "copy 0000000000000001 0000000000000001"), None)
    ∷ (Item2.Step 0, None) ∷ (Item2.Step 0, None) ∷ (Item2.Step 0, None) ∷ (Item2.Stop 3 seed, None) ∷ (Item2.Step 0, None) ∷ (Item2.Step 0, Some (Is_stopped stands [])) ∷ []

abbrev stop_run : ℕ → Bool → Option (List (Place CellRequest) × Moment CellRequest)
stop_run seed stands = ran cells (start cells one_cell) (stop_oracle seed stands)

pub dropped_is_explained : Explained cells one_cell (stop_schedule 0) dropped_report
dropped_is_explained =
    explained cells IsArmed one_cell (trace_of (stop_run 0 false)) (end_of (start cells one_cell) (stop_run 0 false)) cells_lawful (omega arith, tt)
    (ran_course cells (start cells one_cell) (stop_oracle 0 false) (trace_of (stop_run 0 false)) (end_of (start cells one_cell) (stop_run 0 false)) refl)
    refl

pub kept_is_explained : Explained cells one_cell (stop_schedule 1) kept_report
kept_is_explained =
    explained cells IsArmed one_cell (trace_of (stop_run 1 true)) (end_of (start cells one_cell) (stop_run 1 true)) cells_lawful (omega arith, tt)
    (ran_course cells (start cells one_cell) (stop_oracle 1 true) (trace_of (stop_run 1 true)) (end_of (start cells one_cell) (stop_run 1 true)) refl)
    refl

-- over a packed file
abbrev packed_run : Option (List (Place CellRequest) × Moment CellRequest)
packed_run = ran cells (start cells packed_cell) (map plain packed_schedule)

packed_ends : packed_run ≡ Some (trace_of packed_run, end_of (start cells packed_cell) packed_run)
packed_ends = goes_through (start cells packed_cell) packed_run refl

pub packed_is_explained : Explained cells packed_cell packed_schedule packed_report
packed_is_explained =
    explained cells IsArmed packed_cell (trace_of packed_run) (end_of (start cells packed_cell) packed_run) cells_lawful (omega arith, (omega arith, tt))
    (ran_course cells (start cells packed_cell) (map plain packed_schedule) (trace_of packed_run) (end_of (start cells packed_cell) packed_run) packed_ends)
    refl
