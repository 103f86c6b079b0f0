-- What a run leaves in a sink.
use Rattle.std.specs.Prelude.{◌≡◌, ℕ, List, [], ◌∷◌, ◌++◌, length, Option}
use Rattle.std.specs.Io.KnownBytes.{append_known}
use Rattle.zbase.specs.History.{History}
use Rattle.zbase.specs.Values.{last}
use Rattle.schedule.specs.declared.line.Line.{Line}
use Rattle.schedule.specs.Explained.{history_lines}
use Rattle.schedule.specs.Lines.{report_text}
use Rattle.schedule.specs.Moments.{Moment, lost_lines}
pub use Rattle.txn_core.specs.Replying.{terms_of}

-- the sink grew by these lines
abbrev pub Prints : Option (List ℕ) → Option (List ℕ) → List Line → Type 0
Prints old new lines = new ≡ append_known old (report_text lines)

-- what opens a report
abbrev pub opening : History → List Line
opening h = Line.Head ∷ Line.Opened (last h) (length h.transactions) ∷ []

-- what closes a report
abbrev pub closing : {R : Type 0} → Moment R → List Line
closing end = lost_lines end ++ history_lines end.standing ++ Line.End ∷ []
