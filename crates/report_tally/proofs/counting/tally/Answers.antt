use Rattle.std.proofs.Common.{rules, ◌≡◌, ◌<◌, ◌^◌, ◌∙◌, length, sym, ap, subst, arith}
use Rattle.report_tally.specs.Tallies.{tally_of}
use Rattle.report_tally.proofs.ReadLines.{at_last, no_length, one_more, tallied}
use Rattle.report_tally.proofs.RowParts.{after_shorter}
use Rattle.report_tally.proofs.counting.tally.Goals as goal

pub counting-smaller : goal.counting-smaller
counting-smaller c =
    let some : 0 < length c.counting.rest.now = search rules in
    let short : length c.cut.result.1.now < length c.counting.rest.now =
    subst (λ xs. length xs < length c.counting.rest.now) (sym c.cut.ensures.rest) (after_shorter 10 c.counting.rest.now (λ none. let long = ap length none in omega (arith, some, long))) in
    omega (arith, short, c.behind-rest.ensures.shorter)

pub counting-preserved : goal.counting-preserved
counting-preserved c = λ lines tidy is.
    (let some : 0 < length c.counting.rest.now = search rules in
    let small : length c.counting.rest.now < 2 ^ 64 = omega (arith, c.size.ensures, c.size.type_inv) in
    one_more tally_of lines c.counting.rest.now c.counting.tally c.count-tally.result c.bytes_behind.result c.behind-rest.result.now small (λ none. let long = ap length none in omega (arith, some, long)) (c.counting.invariant lines tidy is)
    (record {
      count_is = λ line plain long row. c.bytes_behind.ensures line plain long (c.cut.ensures.front ∙ row);
      rest_is = λ front back behind count. c.behind-rest.ensures.behind front back (c.cut.ensures.rest ∙ behind) count;
    })
    (λ done line plain row so_far. c.count-tally.ensures ∙ tallied c.counting.tally c.kind_of.result done line (c.kind_of.ensures line plain (c.cut.ensures.front ∙ row)) so_far))

pub returns : goal.returns
returns c = λ lines tidy is.
    (let none : length c.counting.rest.now ≡ 0 = search rules in
    at_last tally_of lines c.counting.rest.now c.counting.tally (no_length c.counting.rest.now none) (c.counting.invariant lines tidy is))
