use Rattle.std.proofs.Common.{◌≢◌, get_or, rules, Ok, Err}
use Rattle.std.proofs.lemmas.Str.Parse.{parse_plain}
use Rattle.std.specs.declared.num.ParseIntError.{ParseIntError}
use Rattle.words.proofs.Digits.{own, found, none}
use Rattle.words.proofs.numbers.number_of.Goals as goal

pub returns-then-n-most : goal.returns-then-n-most
returns-then-n-most c =
    let plain : get_or c.args.text.now 0 0 ≢ 43 = search rules in
    let p = parse_plain own {E = ParseIntError} 64 c.args.text.now (Ok c.in-Ok.n) c.in-Ok.ensures.value.0 plain in
    found c.args.most c.args.text.now c.in-Ok.n p.0.0 p.0.1 (search rules) p.1 (search rules)

pub returns-in-Err : goal.returns-in-Err
returns-in-Err c =
    let plain : get_or c.args.text.now 0 0 ≢ 43 = search rules in
    none c.args.most c.args.text.now c.ranges.most.fits (parse_plain own {E = ParseIntError} 64 c.args.text.now (Err c.in-Err.field-0) c.in-Err.ensures.value.0 plain)
