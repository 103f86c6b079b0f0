use Rattle.std.proofs.Common.{rules, ◌≡◌, ◌++◌, ◌∷◌, ◌∙◌, sym, subst}
use Rattle.std.specs.Prelude.{decimal}
use Rattle.schedule.specs.Rows.{Lacks}
use Rattle.schedule.proofs.Fronts.{one_front, has_byte, decimal_lacks}
use Rattle.schedule.proofs.reader.number_at.Goals as goal

pub returns-in_err-number-clause-bad : goal.returns-in_err-number-clause-bad
returns-in_err-number-clause-bad c = λ _ n rest small e.
    (let lacks : Lacks c.args.end c.args.bytes.now = search rules in
    has_byte c.args.end (decimal n) rest (subst (λ bytes. Lacks c.args.end bytes) e lacks))

pub returns-in_err-read_decimal-clause-bad : goal.returns-in_err-read_decimal-clause-bad
returns-in_err-read_decimal-clause-bad c = λ bad n rest small e.
    (let parts : c.args.bytes.now ≡ c.in_ok-number.number.now ++ c.args.end ∷ c.in_ok-number.rest.now = search rules in
    let lacks : Lacks c.args.end c.in_ok-number.number.now = search rules in
    let same = one_front c.args.end c.in_ok-number.number.now (decimal n) c.in_ok-number.rest.now rest lacks (decimal_lacks c.args.end n c.requires.no_digit small) (sym parts ∙ e) in
    let number : c.in_ok-number.number.now ≡ decimal n = same.0 in
    search rules)
