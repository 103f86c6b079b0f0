-- The lines of requests that are lost, by which workers have one.
use Rattle.std.specs.Prelude.{ℕ, Bool, true, false, List, [], ◌∷◌, Option, Some, None, slice_set}
use Rattle.std.specs.List.{enumerate_from, filter_map}
use Rattle.schedule.specs.declared.line.Line.{Line}

abbrev pub lost_mark : ℕ × Bool → Option Line
lost_mark (w, false) = None
lost_mark (w, true) = Some (Line.Lost w)

-- the line of one mark, if it has one
abbrev pub mark_lines : Option Line → List Line
mark_lines None = []
mark_lines (Some line) = line ∷ []

-- the worker whose step was cut off, if it was a step, had a request
abbrev pub with_worker : List Bool → Option ℕ → List Bool
with_worker marks None = marks
with_worker marks (Some w) = slice_set marks w true

abbrev pub lost_marks : List Bool → List Line
lost_marks taken = filter_map lost_mark (enumerate_from 0 taken)
