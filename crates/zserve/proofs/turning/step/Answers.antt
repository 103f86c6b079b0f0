use Rattle.std.proofs.Common.{[], ◌∷◌}
use Rattle.zserve.proofs.Goings.{goes_step}
use Rattle.zserve.proofs.Stepping.{ok_final}
use Rattle.zserve.specs.Waiting.{Stepped}
use Rattle.zserve.specs.Going.{Went}
use Rattle.zserve.proofs.Refusing.{on_err, went_none}
use Rattle.schedule.specs.declared.item.Item2.{Item2}
use Rattle.http_out.specs.Replies.{answer}
use Rattle.txn_core.specs.StepLines.{step_lines}
use Rattle.zserve.proofs.turning.step.Goals as goal

pub returns-in_err-write_item-clause-went : goal.returns-in_err-write_item-clause-went
returns-in_err-write_item-clause-went g c = on_err c.from_residual.result (Went {E = g.row.E.Denot} {R = g.row.E-Request.Denot} {S = g.row.E-State.Denot} g.E.Evaluator.takes g.E.Evaluator.meaning c.args.core.now c.args.now c.args.core.now) (went_none {E = g.row.E.Denot} {R = g.row.E-Request.Denot} {S = g.row.E-State.Denot} g.E.Evaluator.takes g.E.Evaluator.meaning c.args.core.now c.args.now)

pub returns-clause-stepped : goal.returns-clause-stepped
returns-clause-stepped g c =
    let e = c.step-line.ensures in
    let stepped : Stepped {E = g.row.E.Denot} {R = g.row.E-Request.Denot} {S = g.row.E-State.Denot} g.E.Evaluator.takes g.E.Evaluator.meaning c.args.core.now c.step-line.new.self c.args.worker c.args.now c.step-line.result = record {
      goes = goes_step g.E.Evaluator.takes g.E.Evaluator.meaning c.args.core.now c.step-line.new.self c.args.worker c.args.now c.step-line.result e.limit e.step e.tells e.counts e.any_moment;
      passes = e.passes;
      lowers = e.left;
      waits = e.waits;
      others = e.others;
      sixteen = (c.is_sound.ensures.workers, c.is_sound-2.ensures.workers);
    } in
    ok_final g.E.Evaluator.takes g.E.Evaluator.meaning c.args.core.now c.step-line.new.self c.args.worker c.args.now c.step-line.result c.reply_of.result stepped c.reply_of.ensures

pub returns-clause-went : goal.returns-clause-went
returns-clause-went g c =
    let e = c.step-line.ensures in
    let went : Went {E = g.row.E.Denot} {R = g.row.E-Request.Denot} {S = g.row.E-State.Denot} g.E.Evaluator.takes g.E.Evaluator.meaning c.args.core.now c.args.now c.step-line.new.self = (
      (Item2.Step c.args.worker, step_lines answer c.args.worker c.step-line.result) ∷ [],
      c.args.now,
      goes_step g.E.Evaluator.takes g.E.Evaluator.meaning c.args.core.now c.step-line.new.self c.args.worker c.args.now c.step-line.result e.limit e.step e.tells e.counts e.any_moment,
    ) in
    on_err c.reply_of.result (Went {E = g.row.E.Denot} {R = g.row.E-Request.Denot} {S = g.row.E-State.Denot} g.E.Evaluator.takes g.E.Evaluator.meaning c.args.core.now c.args.now c.step-line.new.self) went
