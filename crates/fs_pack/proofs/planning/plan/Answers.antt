use Rattle.std.proofs.Common.{◌≡◌, Err, ap, subst, arith}
use Rattle.std.proofs.lemmas.Result.{err_from_is_err_and}
use Rattle.fs_pack.proofs.Drawn.{passes_there, stands_there}
use Rattle.fs_pack.specs.Measured.{IsOver}
use Rattle.fs_pack.specs.declared.refusal.PackRefusal.TheVariants as refusals
use Rattle.fs_pack.proofs.planning.plan.Goals as goal

pub returns-clause-planned : goal.returns-clause-planned
returns-clause-planned g c =
    stands_there (g.D.Disk.told c.args.disk.now) (g.D.Disk.told c.drawn.new.disk) g.L.Links.linked c.in_ok-plan.plan c.in_ok-tally.tally c.in_ok-size.size c.with.result
    c.in_ok-plan.ensures.only_reads.same c.in_ok-plan.ensures.drawn c.in_ok-tally.ensures.measured c.in_ok-size.ensures.within.0 c.with.ensures

pub returns-in_err-size-clause-full : goal.returns-in_err-size-clause-full
returns-in_err-size-clause-full g c = λ need most is.
    let p = err_from_is_err_and c.from_residual-in_err-size.result c.from_residual-in_err-size.ensures.1 in
    let same : c.in_err-size.field-0.0 ≡ refusals.Full need most = cc in
    let full = c.in_err-size.ensures.full (refusals.Full need most) (ap Err same) in
    let limits : most ≡ c.args.limit = cc (full.1) in
    let needs : full.0 ≡ need = cc (full.1) in (
      limits,
      passes_there (g.D.Disk.told c.args.disk.now) (g.D.Disk.told c.drawn.new.disk) g.L.Links.linked c.in_ok-plan.plan c.in_ok-tally.tally c.args.before need c.args.limit
          c.in_ok-plan.ensures.only_reads.same c.in_ok-plan.ensures.at (omega arith) c.in_ok-plan.ensures.drawn c.in_ok-tally.ensures.measured (subst (IsOver c.in_ok-tally.tally.size c.args.limit) needs full.2),
    )
