use Rattle.std.proofs.Common.{◌+◌, ◌≤◌, length, arith}
use Rattle.http_in.specs.EndLaws.{searched_ends, searched_goes, line_passed}
use Rattle.http_in.proofs.ends.search.Goals as goal

pub overflow_add-result : goal.overflow_add-result
overflow_add-result c = omega (arith, c.in-Ends.ensures.1, c.split_at-in-lines.ensures.back_len)

pub returns-in-Ends : goal.returns-in-Ends
returns-in-Ends c =
    let within : c.lines.at + c.line_len-at.result ≤ length c.args.bytes.now = omega (arith, c.line_len-at.ensures.within, c.split_at.ensures.back_len, c.lines.invariant.within) in
    searched_ends c.args.bytes.now (c.lines.at + c.line_len-at.result) c.in-Ends.end within
    (line_passed c.args.bytes.now c.split_at.result.1.now c.lines.at c.line_len-at.result c.split_at.ensures.back c.lines.invariant.passed c.line_len-at.ensures.passed)
    (rw (← c.split_at-in-lines.ensures.back) c.in-Ends.ensures)

pub returns-in-Waits : goal.returns-in-Waits
returns-in-Waits c =
    let within : c.lines.at + c.line_len-at.result ≤ length c.args.bytes.now = omega (arith, c.line_len-at.ensures.within, c.split_at.ensures.back_len, c.lines.invariant.within) in
    searched_goes c.args.bytes.now (c.lines.at + c.line_len-at.result) within
    (line_passed c.args.bytes.now c.split_at.result.1.now c.lines.at c.line_len-at.result c.split_at.ensures.back c.lines.invariant.passed c.line_len-at.ensures.passed)
    (rw (← c.split_at-in-lines.ensures.back) c.in-Waits.ensures)

pub overflow_add-at : goal.overflow_add-at
overflow_add-at c = omega (arith, c.line_len-at.ensures.within, c.split_at.ensures.back_len, c.lines.invariant.within)

pub overflow_add-at-in-Passes : goal.overflow_add-at-in-Passes
overflow_add-at-in-Passes c = omega (arith, c.in-Passes.ensures.1, c.line_len-at.ensures.within, c.split_at.ensures.back_len, c.split_at-in-lines.ensures.back_len, c.lines.invariant.within)

pub lines-smaller : goal.lines-smaller
lines-smaller c = omega (arith, c.in-Passes.ensures.0, c.in-Passes.ensures.1, c.line_len-at.ensures.within, c.split_at.ensures.back_len, c.split_at-in-lines.ensures.back_len, c.lines.invariant.within)

pub lines-preserved : goal.lines-preserved
lines-preserved c = record {
  within = omega (arith, c.in-Passes.ensures.1, c.line_len-at.ensures.within, c.split_at.ensures.back_len, c.split_at-in-lines.ensures.back_len, c.lines.invariant.within);
  passed = line_passed c.args.bytes.now c.split_at-in-lines.result.1.now (c.lines.at + c.line_len-at.result) c.in-Passes.count c.split_at-in-lines.ensures.back
      (line_passed c.args.bytes.now c.split_at.result.1.now c.lines.at c.line_len-at.result c.split_at.ensures.back c.lines.invariant.passed c.line_len-at.ensures.passed)
      c.in-Passes.ensures.2;
}
