-- What happened in a run, item by item: each item with the lines that it printed.
use Rattle.std.specs.Prelude.{◌≡◌, List, map}
use Rattle.schedule.specs.declared.item.Item2.{Item2}
use Rattle.schedule.specs.declared.line.Line.{Line}
use Rattle.schedule.specs.Courses.{Place, Course}
use Rattle.schedule.specs.Moments.{Moment, Terms}

abbrev pub Happening : Type 0
Happening = Item2 × List Line

abbrev pub items : List Happening → List Item2
items all = map (λ h. h.0) all

abbrev pub printed : List Happening → List (List Line)
printed all = map (λ h. h.1) all

abbrev pub happening : {R : Type 0} → Place R → Happening
happening p = (p.item, p.lines)

-- these happened, one after another, from the first moment to the last
pub record Ran {R : Type 0} (terms : Terms R) (first : Moment R) (all : List Happening) (last : Moment R) : Type 0 where
  pub trace : List (Place R)
  pub is : map happening trace ≡ all
  pub course : Course terms first trace last
