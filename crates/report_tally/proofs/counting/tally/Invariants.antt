use Rattle.std.proofs.Common.{◌≡◌, List, length}
use Rattle.schedule.specs.declared.line.Line.{Line}
use Rattle.schedule.specs.Lines.{report_text}
use Rattle.report_tally.specs.Tallies.{tally_of}
use Rattle.report_tally.specs.Tidy.{AreTidy}
use Rattle.report_tally.proofs.ReadLines.{Left}
use Rattle.report_tally.proofs.counting.tally.Given as goal

-- some lines were counted, and the others are left
abbrev pub invariant-counting : goal.invariant-counting
invariant-counting l = (lines : List Line) → AreTidy lines → l.report ≡ report_text lines → Left tally_of lines l.rest l.tally

abbrev pub decreases-counting : goal.decreases-counting
decreases-counting l = length l.rest
