use Rattle.http_in.specs.declared.message.Message.{Message}
use Rattle.file_server.proofs.Ended.{failed_over, refused_over, served_over, tells_still}
use Rattle.file_server.proofs.running.serve_core.Goals as goal

pub returns-then-failed-clause-refused : goal.returns-then-failed-clause-refused
returns-then-failed-clause-refused g c =
    failed_over {E = g.row.E.Denot} {R = Message} {S = g.row.E-State.Denot} g.E.Evaluator.takes g.E.Evaluator.meaning c.args.plan.port c.args.plan.connections c.args.plan.clients c.args.core c.serve-answer.new.core (g.D.Disk.told c.close_core-failed.result.1) (g.D.Disk.told c.serve-answer.new.tape) _ _ _ _ _ _ c.serve-answer.result
    c.serve-answer.ensures.tape c.serve-answer.ensures.refused c.close_core-failed.ensures.holds

pub returns-then-failed-clause-tells : goal.returns-then-failed-clause-tells
returns-then-failed-clause-tells g c = (
  tells_still {E = g.row.E.Denot} {R = Message} {S = g.row.E-State.Denot} g.E.Evaluator.takes g.E.Evaluator.meaning c.args.plan.port c.args.plan.connections c.args.plan.clients c.args.core c.serve-answer.new.core (g.D.Disk.told c.close_core-failed.result.1) (g.D.Disk.told c.serve-answer.new.tape) _ _ _ _ _ _ c.serve-answer.result
      c.serve-answer.ensures.tape c.serve-answer.ensures.refused c.close_core-failed.ensures.tells,
  c.serve-answer.ensures.tells,
)

pub returns-in-Ok-clause-tells : goal.returns-in-Ok-clause-tells
returns-in-Ok-clause-tells g c = (
  tells_still {E = g.row.E.Denot} {R = Message} {S = g.row.E-State.Denot} g.E.Evaluator.takes g.E.Evaluator.meaning c.args.plan.port c.args.plan.connections c.args.plan.clients c.args.core c.serve-answer.new.core (g.D.Disk.told c.close_core-failed.result.1) (g.D.Disk.told c.serve-answer.new.tape) _ _ _ _ _ _ c.serve-answer.result
      c.serve-answer.ensures.tape c.serve-answer.ensures.refused c.close_core-failed.ensures.tells,
  c.serve-answer.ensures.tells,
)

pub returns-in-Err-clause-tells : goal.returns-in-Err-clause-tells
returns-in-Err-clause-tells g c = (
  tells_still {E = g.row.E.Denot} {R = Message} {S = g.row.E-State.Denot} g.E.Evaluator.takes g.E.Evaluator.meaning c.args.plan.port c.args.plan.connections c.args.plan.clients c.args.core c.serve-answer.new.core (g.D.Disk.told c.close_core-failed.result.1) (g.D.Disk.told c.serve-answer.new.tape) _ _ _ _ _ _ c.serve-answer.result
      c.serve-answer.ensures.tape c.serve-answer.ensures.refused c.close_core-failed.ensures.tells,
  c.serve-answer.ensures.tells,
)

pub returns-in-Ok-clause-served : goal.returns-in-Ok-clause-served
returns-in-Ok-clause-served g c = served_over {E = g.row.E.Denot} {R = Message} {S = g.row.E-State.Denot} g.E.Evaluator.takes g.E.Evaluator.meaning c.args.plan.port c.args.plan.connections c.args.plan.clients c.args.core c.serve-answer.new.core (g.D.Disk.told c.close_core-failed.result.1) (g.D.Disk.told c.serve-answer.new.tape) _ _ _ _ _ _ c.in-Ok.served c.in-Ok.ensures.tape c.close_core-failed.ensures.holds

pub returns-in-Err-clause-refused : goal.returns-in-Err-clause-refused
returns-in-Err-clause-refused g c = refused_over {E = g.row.E.Denot} {R = Message} {S = g.row.E-State.Denot} g.E.Evaluator.takes g.E.Evaluator.meaning c.args.plan.port c.args.plan.connections c.args.plan.clients c.args.core c.serve-answer.new.core (g.D.Disk.told c.close_core-failed.result.1) (g.D.Disk.told c.serve-answer.new.tape) _ _ _ _ c.in-Err.refusal c.from.result c.from.ensures c.in-Err.ensures.refused c.close_core-failed.ensures.holds
