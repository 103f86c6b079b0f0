use Rattle.std.proofs.Common.{rules, ◌≡◌, ◌++◌, ◌∷◌, ◌∙◌, sym, arith}
use Rattle.std.specs.Prelude.{decimal}
use Rattle.schedule.proofs.OneSchedule.{number_ends}
use Rattle.schedule.proofs.reader.worker_at.Goals as goal

pub returns-then-number-clause-bad : goal.returns-then-number-clause-bad
returns-then-number-clause-bad c = λ _ w rest below e.
    (let read : c.args.bytes.now ≡ decimal c.in_ok-number.number ++ c.args.end ∷ c.in_ok-number.rest.now = search rules in
    let same = number_ends c.in_ok-number.number w c.args.end c.in_ok-number.rest.now rest (search rules) (omega (arith, below)) c.requires.no_digit (sym read ∙ e) in
    omega (arith, same.0, below, c.if-number.true))
