use Rattle.zbase.specs.Faults.{IsFaultless}
use Rattle.http_in.specs.declared.message.Message.{Message}
use Rattle.file_server.proofs.Keeping.{back_lost}
use Rattle.file_server.proofs.serving.serve_over.Goals as goal

pub returns-in-Err-clause-refused : goal.returns-in-Err-clause-refused
returns-in-Err-clause-refused g c =
    back_lost {R = Message} (IsFaultless (g.F.D.Disk.counter c.args.site.disk)) g.E.Evaluator.takes g.E.Evaluator.meaning c.args.job.plan.port c.args.job.plan.connections c.args.job.plan.clients c.args.job.file.now c.args.job.record.now (g.F.Shelf.files c.args.files.now) (g.F.Shelf.files c.give_back.new.files) (g.F.D.Disk.told c.args.site.disk) (g.F.D.Disk.told c.serve_disk-answer.result.1) (g.F.D.Disk.told c.args.tape) (g.F.D.Disk.told c.serve_disk-answer.new.tape) _ _ _ _ _ _ c.serve_disk-answer.result.0
    c.serve_disk-answer.ensures.served c.serve_disk-answer.ensures.refused c.serve_disk-answer.ensures.tells c.in-Err.ensures.one c.from.result c.from.ensures
