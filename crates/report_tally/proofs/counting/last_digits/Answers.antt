use Rattle.std.proofs.Common.{rules, ◌≡◌, ◌<◌, ◌^◌, ◌∙◌, List, length, sym, ap, subst, arith}
use Rattle.zbase.specs.Hex.{hex16_text}
use Rattle.schedule.specs.declared.line.Line.{Line}
use Rattle.report_tally.specs.Lasts.{last_tid}
use Rattle.report_tally.proofs.ReadLines.{Left, at_first, at_last, later_is, no_length, one_more, zeros}
use Rattle.report_tally.proofs.RowParts.{after_shorter}
use Rattle.report_tally.proofs.counting.last_digits.Goals as goal

pub looking-init : goal.looking-init
looking-init c = λ lines tidy is.
    subst (Left (λ (done : List Line). hex16_text (last_tid done)) lines c.args.report.now) zeros (at_first (λ (done : List Line). hex16_text (last_tid done)) lines c.args.report.now tidy is)

pub looking-smaller : goal.looking-smaller
looking-smaller c =
    let some : 0 < length c.looking.rest.now = search rules in
    let short : length c.cut.result.1.now < length c.looking.rest.now =
    subst (λ xs. length xs < length c.looking.rest.now) (sym c.cut.ensures.rest) (after_shorter 10 c.looking.rest.now (λ none. let long = ap length none in omega (arith, some, long))) in
    omega (arith, short, c.behind-rest.ensures.shorter)

pub looking-preserved : goal.looking-preserved
looking-preserved c = λ lines tidy is.
    (let some : 0 < length c.looking.rest.now = search rules in
    let small : length c.looking.rest.now < 2 ^ 64 = omega (arith, c.size.ensures, c.size.type_inv) in
    one_more (λ (done : List Line). hex16_text (last_tid done)) lines c.looking.rest.now c.looking.last.now c.later-last.result.now c.bytes_behind.result c.behind-rest.result.now small (λ none. let long = ap length none in omega (arith, some, long)) (c.looking.invariant lines tidy is)
    (record {
      count_is = λ line plain long row. c.bytes_behind.ensures line plain long (c.cut.ensures.front ∙ row);
      rest_is = λ front back behind count. c.behind-rest.ensures.behind front back (c.cut.ensures.rest ∙ behind) count;
    })
    (λ done line plain row so_far. later_is (λ text. text.now) c.tid_in.result c.looking.last.now c.later-last.result.now done line c.later-last.ensures (c.tid_in.ensures line plain (c.cut.ensures.front ∙ row)) so_far))

pub returns : goal.returns
returns c = λ lines tidy is.
    (let none : length c.looking.rest.now ≡ 0 = search rules in
    at_last (λ (done : List Line). hex16_text (last_tid done)) lines c.looking.rest.now c.looking.last.now (no_length c.looking.rest.now none) (c.looking.invariant lines tidy is))
