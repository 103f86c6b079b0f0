use Rattle.std.proofs.Common.{◌≡◌, List, length}
use Rattle.zbase.specs.Hex.{hex16_text}
use Rattle.schedule.specs.declared.line.Line.{Line}
use Rattle.schedule.specs.Lines.{report_text}
use Rattle.report_tally.specs.Lasts.{last_tid}
use Rattle.report_tally.specs.Tidy.{AreTidy}
use Rattle.report_tally.proofs.ReadLines.{Left}
use Rattle.report_tally.proofs.counting.last_digits.Given as goal

-- of some lines the last transaction was found, and the others are left
abbrev pub invariant-looking : goal.invariant-looking
invariant-looking l = (lines : List Line) → AreTidy lines → l.report ≡ report_text lines → Left (λ done. hex16_text (last_tid done)) lines l.rest l.last

abbrev pub decreases-looking : goal.decreases-looking
decreases-looking l = length l.rest
