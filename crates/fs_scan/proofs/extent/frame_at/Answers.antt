use Rattle.std.proofs.Common.{arith, inl, inr}
use Rattle.fs_scan.proofs.WholeAt.{few_end, ends_at, bad_at, frame_is}
use Rattle.fs_scan.proofs.extent.frame_at.Goals as goal

pub returns-in-Err-Short-clause-says : goal.returns-in-Err-Short-clause-says
returns-in-Err-Short-clause-says c = λ rest is. few_end c.args.left c.args.front.now rest is c.in-Err-Short.ensures.head

pub returns-then-head-eq-STATUS_WAITING-clause-says : goal.returns-then-head-eq-STATUS_WAITING-clause-says
returns-then-head-eq-STATUS_WAITING-clause-says c = λ rest is. ends_at c.args.left c.args.front.now rest c.in-Ok.head is c.in-Ok.ensures.head c.in-Ok.ensures.long c.in-Ok.ensures.fits (inl c.if-head-eq-STATUS_WAITING.true)

pub returns-then-head-eq0-clause-says : goal.returns-then-head-eq0-clause-says
returns-then-head-eq0-clause-says c = λ rest is. ends_at c.args.left c.args.front.now rest c.in-Ok.head is c.in-Ok.ensures.head c.in-Ok.ensures.long c.in-Ok.ensures.fits (inr (inl c.if-head-eq0.true))

pub returns-then-head-left-clause-says : goal.returns-then-head-left-clause-says
returns-then-head-left-clause-says c = λ rest is. ends_at c.args.left c.args.front.now rest c.in-Ok.head is c.in-Ok.ensures.head c.in-Ok.ensures.long c.in-Ok.ensures.fits (inr (inr (omega arith)))

pub returns-then-head-from-clause-says : goal.returns-then-head-from-clause-says
returns-then-head-from-clause-says c = λ rest is. bad_at c.args.left c.args.front.now rest c.in-Ok.head is c.in-Ok.ensures.head c.in-Ok.ensures.long c.in-Ok.ensures.fits c.if-head-eq-STATUS_WAITING.false c.if-head-eq0.false (omega arith) (omega arith)

pub returns-clause-says : goal.returns-clause-says
returns-clause-says c = λ rest is. frame_is c.args.left c.args.front.now rest _ is c.in-Ok.ensures.head c.in-Ok.ensures.long c.in-Ok.ensures.fits c.if-head-eq-STATUS_WAITING.false c.if-head-eq0.false (omega arith)
