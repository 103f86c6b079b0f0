use Rattle.std.proofs.Common.{[], ◌∷◌}
use Rattle.http_out.specs.Replies.{answer}
use Rattle.schedule.specs.declared.item.Item2.{Item2}
use Rattle.txn_core.specs.StepLines.{step_lines}
use Rattle.zserve.specs.Going.{Went}
use Rattle.zserve.proofs.Refusing.{on_err}
use Rattle.zserve.proofs.turning.step_and_file.Goals as goal

pub returns-in_err-push-in-None-clause-went : goal.returns-in_err-push-in-None-clause-went
returns-in_err-push-in-None-clause-went g c =
    let did = c.in_ok-reply.ensures.stepped in
    let went : Went {E = g.row.E.Denot} {R = g.row.E-Request.Denot} {S = g.row.E-State.Denot} g.E.Evaluator.takes g.E.Evaluator.meaning c.args.core.now c.args.now c.step.new.core = ((Item2.Step c.args.worker, step_lines answer c.args.worker did.0) ∷ [], c.args.now, did.1.goes) in
    on_err c.from_residual-in_err-push-in-None.result _ went
