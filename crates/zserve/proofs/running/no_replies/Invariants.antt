use Rattle.std.proofs.Common.{◌≡◌, ◌≤◌, None, replicate, vec_capacity, vec_len}
use Rattle.zserve.proofs.running.no_replies.Given as goal

abbrev pub invariant-loop : goal.invariant-loop
invariant-loop l = record {
  counted : vec_len l.replies ≡ l.counter;
  room : 16 ≤ vec_capacity l.replies;
  none : l.replies.items ≡ replicate l.counter None;
}
