use Rattle.std.proofs.Common.{arith, inl, inr, ◌+◌}
use Rattle.fs_scan.proofs.DataAt.{too_few, none_at, back_at, full_at}
use Rattle.fs_scan.proofs.data.data_at.Goals as goal

pub returns-in-Err-Short-clause-none : goal.returns-in-Err-Short-clause-none
returns-in-Err-Short-clause-none c = λ area is. too_few c.args.left c.args.front.now area is c.in-Err-Short.ensures.head

pub returns-then-head-eq0-clause-found : goal.returns-then-head-eq0-clause-found
returns-then-head-eq0-clause-found c = λ area is.
    back_at c.args.left c.args.front.now area (record { head = c.in-Ok.head; back = c.u64_at-back.result; size = 50 }) is c.in-Ok.ensures.head c.in-Ok.ensures.long c.in-Ok.ensures.fits c.if-head-eq0.true (omega arith) c.u64_at-back.ensures c.u64_at-back.type_inv

pub returns-clause-found : goal.returns-clause-found
returns-clause-found c = λ area is.
    full_at c.args.left c.args.front.now area (record { head = c.in-Ok.head; back = 0; size = 42 + c.in-Ok.head.length }) is c.in-Ok.ensures.head c.in-Ok.ensures.long c.in-Ok.ensures.fits (omega arith) (omega arith)

pub returns-then-behind-clause-none : goal.returns-then-behind-clause-none
returns-then-behind-clause-none c = λ area is. none_at c.args.left c.args.front.now area c.in-Ok.head is c.in-Ok.ensures.head c.in-Ok.ensures.long c.in-Ok.ensures.fits (inl (c.if-head-eq0.true, omega (arith, c.if-behind.true)))

pub returns-then-head-behind-clause-none : goal.returns-then-head-behind-clause-none
returns-then-head-behind-clause-none c = λ area is. none_at c.args.left c.args.front.now area c.in-Ok.head is c.in-Ok.ensures.head c.in-Ok.ensures.long c.in-Ok.ensures.fits (inr (omega arith))
