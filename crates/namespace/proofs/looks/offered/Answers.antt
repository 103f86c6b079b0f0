use Rattle.std.proofs.Common.{ap, sym, true, Ok}
use Rattle.namespace.proofs.looks.offered.Goals as goal

pub returns-in_ok-take-in-Granted-clause-is : goal.returns-in_ok-take-in-Granted-clause-is
returns-in_ok-take-in-Granted-clause-is c = λ known. rw c.in-Granted.is (ap (λ s. Ok (true, s)) (sym (c.in_ok-take-in-Granted.ensures.taken c.args.who.now)))
