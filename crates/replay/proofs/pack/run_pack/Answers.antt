use Rattle.std.proofs.lemmas.Result.{err_from_is_err_and}
use Rattle.zbase.specs.Faults.{counts_as}
use Rattle.replay.proofs.LineRefusals.{run_counts}
use Rattle.replay.proofs.pack.run_pack.Goals as goal

pub returns-clause-ok : goal.returns-clause-ok
returns-clause-ok g c = c.in_ok-core.ensures.ok c.args.run.clock

pub returns-clause-counts : goal.returns-clause-counts
returns-clause-counts g c = counts_as c.in_ok-core.ensures.counts (λ e. cc) (λ e. cc)

pub returns-in_err-core-clause-counts : goal.returns-in_err-core-clause-counts
returns-in_err-core-clause-counts g c =
    let p = err_from_is_err_and c.from_residual.result c.from_residual.ensures.1 in
    run_counts _ _ _ c.in_err-core.field-0.0 c.from_residual.result p.1 p.2 c.in_err-core.ensures.counts
