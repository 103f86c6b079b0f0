use Rattle.std.proofs.Common.{arith}
use Rattle.std.proofs.lemmas.Result.{err_from_is_err_and}
use Rattle.zknown.specs.Seen.{shapes}
use Rattle.permissions.proofs.Unsaid.{begins, stops_there}
use Rattle.permissions.proofs.verdicts.verdict_on.Goals as goal

pub returns-in_err-object : goal.returns-in_err-object
returns-in_err-object c =
    let p = err_from_is_err_and c.from_residual.result c.from_residual.ensures.1 in
    rw (p.1, p.2) (stops_there (shapes c.args.known.now) c.args.permission c.args.oid 0 c.args.oid (omega arith) (begins (shapes c.args.known.now) c.args.permission c.args.oid) _ c.in_err-object.ensures.shape c.args.who.now)
