use Rattle.std.proofs.Common.{◌<◌, ◌^◌, ◌∙◌, sym, arith}
use Rattle.report_tally.proofs.RowParts.{Numbers, long_is, numbers}
use Rattle.report_tally.proofs.rows.bytes_behind.Goals as goal

pub returns-in-Some : goal.returns-in-Some
returns-in-Some c = λ line tidy long is.
    (let m : Numbers line c.in-Some.text.now = numbers line c.in-Some.text.now (sym (c.in-Some.ensures ∙ long_is line c.args.row.now is)) in
    let small : m.number < 2 ^ 64 = omega (arith, m.long, long) in
    let read = c.number_in.ensures m.number small m.is in
    omega (arith, c.saturating_add.ensures, read, m.long, long))
