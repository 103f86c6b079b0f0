-- A report without `pack` items is one section, which is right by the history that the report prints last; and each section of
-- another is right so by the history that ends it.
use Rattle.std.specs.Prelude.{◌≡◌, false, List}
use Rattle.std.specs.List.{AllByRecursion}
use Rattle.zbase.specs.History.{History, IsPrefixOf}
use Rattle.schedule.specs.declared.item.Item2.{Item2}
use Rattle.schedule.specs.declared.line.Line.{Line}
use Rattle.schedule.specs.Courses.{Place, Course, items_of, request_of, worker_of}
use Rattle.schedule.specs.Explained.{report}
use Rattle.schedule.specs.Moments.{Terms, Moment, doing, start}
use Rattle.schedule.specs.Right.{RightGrowth, RightReply, ends_section}

abbrev pub IsNoPack : Item2 → Type 0
IsNoPack (Item2.Pack t) = ⊥
IsNoPack _ = Unit {0}

-- the place is right within a section, which it doesn't end: the history stays, or grows rightly
pub record IsRightWithin {R : Type 0} (terms : Terms R) (h : History) (p : Place R) : Type 0 where
  pub goes_on : ends_section p.item p.lines ≡ false
  pub reply : RightReply terms h (request_of (doing p.before (worker_of p.item))) p.lines
  pub growth : RightGrowth terms h (request_of (doing p.before (worker_of p.item))) p.before.standing p.after.standing
  pub grows : IsPrefixOf p.before.standing p.after.standing
  pub stands : IsPrefixOf p.after.standing h

-- The schedule's items, run over h0, may print this report, which is one section.
pub record ExplainsInOne {R : Type 0} (terms : Terms R) (licence : List (Place R) → Type 0) (h0 : History) (s : List Item2) (r : List Line) : Type 0 where
  pub trace : List (Place R)
  pub end : Moment R
  pub items : items_of trace ≡ s
  pub lines : r ≡ report h0 trace end
  pub course : Course terms (start terms h0) trace end
  pub first : IsPrefixOf h0 end.standing
  pub right : AllByRecursion (IsRightWithin terms end.standing) trace
  pub faults : licence trace
