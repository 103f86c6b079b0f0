use Rattle.std.proofs.Common.{◌∙◌, ◌<◌, length, get_or, sym, arith}
use Rattle.http_in.specs.Headers.{is_same_length}
use Rattle.http_in.proofs.Placing.{no_header}
use Rattle.http_in.proofs.Scans.{all_passes, all_stops, not_false, not_true}
use Rattle.http_in.proofs.headers.all_lengths_are.Goals as goal

pub returns-then-has_other_length : goal.returns-then-has_other_length
returns-then-has_other_length c =
    let less : c.loop-at.at < length c.args.all.now = omega (arith, c.loop-at-test.true, c.len-at-end.ensures) in
    sym (c.loop-at.invariant ∙ all_stops (is_same_length c.args.value.now) c.args.all.now c.loop-at.at no_header less
    (not_true (is_same_length c.args.value.now (get_or c.args.all.now c.loop-at.at no_header)) (sym (c.has_other_length.ensures no_header) ∙ c.if-has_other_length.true)))

pub loop-at-preserved : goal.loop-at-preserved
loop-at-preserved c =
    let less : c.loop-at.at < length c.args.all.now = omega (arith, c.loop-at-test.true, c.len-at-end.ensures) in
    c.loop-at.invariant ∙ all_passes (is_same_length c.args.value.now) c.args.all.now c.loop-at.at no_header less
    (not_false (is_same_length c.args.value.now (get_or c.args.all.now c.loop-at.at no_header)) (sym (c.has_other_length.ensures no_header) ∙ c.if-has_other_length.false))
