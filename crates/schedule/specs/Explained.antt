-- Explained: which report a schedule may have, run over a history.
use Rattle.std.specs.Prelude.{◌≡◌, List, [], ◌∷◌, ◌++◌, length}
use Rattle.zbase.specs.History.{History, IsPrefixOf}
use Rattle.zbase.specs.Values.{last}
use Rattle.schedule.specs.declared.item.Item2.{Item2}
use Rattle.schedule.specs.declared.line.Line.{Line}
use Rattle.schedule.specs.Armed.{IsArmed}
use Rattle.schedule.specs.Courses.{Place, Course, items_of, lines_of}
pub use Rattle.schedule.specs.Histories.{record_line, transaction_lines, floor_lines, history_head, history_lines}
use Rattle.schedule.specs.Moments.{Terms, Moment, start, lost_lines}
use Rattle.schedule.specs.Right.{AreRight, history_after}

abbrev pub report : {R : Type 0} → History → List (Place R) → Moment R → List Line
report h0 trace end =
    Line.Head ∷ Line.Opened (last h0) (length h0.transactions) ∷ (lines_of trace ++ lost_lines end ++ history_lines end.standing ++ Line.End ∷ [])

-- The schedule's items, run over h0, may print this report. It falls into sections, each of which ends at the history that a
-- `pack` item prints, or at the report's last history; what is right of a section is so by that history. The licence says which fault lines may stand.
pub record Explains {R : Type 0} (terms : Terms R) (licence : List (Place R) → Type 0) (h0 : History) (s : List Item2) (r : List Line) : Type 0 where
  pub trace : List (Place R)
  pub end : Moment R
  pub items : items_of trace ≡ s
  pub lines : r ≡ report h0 trace end
  pub course : Course terms (start terms h0) trace end
  pub first : IsPrefixOf h0 (history_after trace end)
  pub right : AreRight terms trace end
  pub faults : licence trace

-- with the fault lines that the schedule's own items license
abbrev pub Explained : {R : Type 0} → Terms R → History → List Item2 → List Line → Type 0
Explained terms h0 s r = Explains terms IsArmed h0 s r
