use Rattle.std.proofs.Common.{rules, ◌≡◌, Ok, sym, subst}
use Rattle.std.specs.Prelude.{decimal}
use Rattle.std.specs.Str.{IsAscii, IsUtf8}
use Rattle.std.proofs.lemmas.Fmt.{IsAscii-decimal, parse-decimal}
use Rattle.std.proofs.lemmas.Str.{IsUtf8-from_ascii}
use Rattle.report_tally.proofs.rows.number_in.Goals as goal

pub returns-in-Ok-parse : goal.returns-in-Ok-parse
returns-in-Ok-parse c = λ n small e.
    (let same : c.in-Ok.digits.now ≡ decimal n = search rules in
    let parsed : c.parse.result ≡ Ok n = parse-decimal 64 n c.in-Ok.digits.now c.parse.result small small same c.parse.ensures.value.0 in
    search rules)

pub returns-in-Err-parse : goal.returns-in-Err-parse
returns-in-Err-parse c = λ n small e.
    (let same : c.in-Ok.digits.now ≡ decimal n = search rules in
    let parsed : c.parse.result ≡ Ok n = parse-decimal 64 n c.in-Ok.digits.now c.parse.result small small same c.parse.ensures.value.0 in
    search rules)

pub returns-in-Err : goal.returns-in-Err
returns-in-Err c = λ n small e.
    (let text : IsUtf8 c.args.text.now = IsUtf8-from_ascii c.args.text.now (subst (λ t. IsAscii t) (sym e) (IsAscii-decimal n small)) in search rules)
