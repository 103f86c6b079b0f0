-- What a dump of a file prints.
use Rattle.std.specs.Prelude.{List, [], ◌∷◌, ◌++◌, ℕ, Option}
use Rattle.zbase.specs.History.{History}
use Rattle.fs_record.specs.File.{Front}
use Rattle.fs_record.specs.Opening.{Cut}
use Rattle.fs_scan.specs.declared.opening.ScanRefusal.{ScanRefusal}
use Rattle.schedule.specs.declared.line.Line.{Line}
use Rattle.schedule.specs.Explained.{history_lines}
use Rattle.zio.specs.declared.refusal.OutsideRefusal.{OutsideRefusal}
use Rattle.replay.specs.declared.dumping.DumpRefusal.{DumpRefusal}
use Rattle.replay.specs.Printed.{Prints}

-- the history as a report prints it, with the report's last line
abbrev pub dump_lines : History → List Line
dump_lines h = history_lines h ++ Line.End ∷ []

-- the bytes open to a history, by whose lines the sink grew
pub record Dumps (bytes : List ℕ) (old new : Option (List ℕ)) : Type 0 where
  pub front : Front
  pub end : ℕ
  pub opens : Cut bytes front end
  pub printed : Prints old new (dump_lines front.history)

-- the bytes open to a history, by whose lines alone the sink grew
pub record PutsHistory (bytes : List ℕ) (old new : Option (List ℕ)) : Type 0 where
  pub front : Front
  pub end : ℕ
  pub opens : Cut bytes front end
  pub printed : Prints old new (history_lines front.history)

-- a refusal of a part, as one of the dump

abbrev pub of_scan : ScanRefusal → DumpRefusal
of_scan (ScanRefusal.Damaged kind place) = DumpRefusal.Damaged kind place
of_scan ScanRefusal.Disk = DumpRefusal.Disk
of_scan ScanRefusal.Memory = DumpRefusal.Memory

abbrev pub of_sink : OutsideRefusal → DumpRefusal
of_sink OutsideRefusal.Failed = DumpRefusal.Output
of_sink OutsideRefusal.Memory = DumpRefusal.Memory
