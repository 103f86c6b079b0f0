use Rattle.std.proofs.Common.{rules, ◌≡◌, Ok}
use Rattle.std.specs.Prelude.{decimal}
use Rattle.std.proofs.lemmas.Fmt.{parse-decimal}
use Rattle.std.proofs.lemmas.Slice.Eq.{bytes_eq-Decides}
use Rattle.repozo.proofs.Lines.{IsUtf8-of_decimal}
use Rattle.repozo.proofs.reading.read_decimal.Goals as goal

pub returns-in_err-digits-clause-bad : goal.returns-in_err-digits-clause-bad
returns-in_err-digits-clause-bad c = λ _ n small e. (let text = IsUtf8-of_decimal c.args.text.now n small e in search rules)

pub returns-in_err-n-clause-bad : goal.returns-in_err-n-clause-bad
returns-in_err-n-clause-bad c = λ _ n small e.
    (let same : c.in_ok-digits.digits.now ≡ decimal n = search rules in
    let parsed : c.parse.result ≡ Ok n = parse-decimal 64 n c.in_ok-digits.digits.now c.parse.result small small same c.parse.ensures.value.0 in
    search rules)

pub returns-then-ne-clause-bad : goal.returns-then-ne-clause-bad
returns-then-ne-clause-bad c = λ _ n small e.
    (let same : c.in_ok-digits.digits.now ≡ decimal n = search rules in
    let parsed : c.parse.result ≡ Ok n = parse-decimal 64 n c.in_ok-digits.digits.now c.parse.result small small same c.parse.ensures.value.0 in
    let is_n : c.in_ok-n.n ≡ n = search rules in
    let text : c.as_bytes.result.now ≡ c.args.text.now = search rules in
    let equal = (bytes_eq-Decides c.as_bytes.result.now c.args.text.now).1 text in
    search rules)
