-- Reports in which nothing went wrong: whoever runs the same items over the same history prints the same.
use Rattle.std.specs.Prelude.{◌≡◌, Bool, true, false, List}
use Rattle.std.specs.List.{AllByRecursion, list_any}
use Rattle.schedule.specs.declared.line.Line.{Line}
use Rattle.schedule.specs.Courses.{Place}

-- the line tells of want of memory, a fault or a stop
abbrev pub is_trouble : Line → Bool
is_trouble (Line.Memory w) = true
is_trouble (Line.DiskFault w) = true
is_trouble (Line.Unknown w t) = true
is_trouble Line.PackMemory = true
is_trouble Line.PackFault = true
is_trouble Line.Stop = true
is_trouble _ = false

-- no line of any place does
abbrev pub Untroubled : {R : Type 0} → List (Place R) → Type 0
Untroubled places = AllByRecursion (λ p. list_any is_trouble p.lines ≡ false) places
