-- Lines that are told apart by their text: each name of a role is in one line. It alone isn't spelled by digits or by words of the format.
use Rattle.std.specs.Prelude.{List}
use Rattle.std.specs.List.{AllByRecursion}
use Rattle.schedule.specs.Rows.{Lacks}
use Rattle.schedule.specs.declared.line.Line.{Line}

abbrev pub IsTidy : Line → Type 0
IsTidy (Line.Shown w o role) = Lacks 10 role
IsTidy _ = Unit {0}

abbrev pub AreTidy : List Line → Type 0
AreTidy lines = AllByRecursion IsTidy lines
