use Rattle.zbase.specs.Faults.{IsFaultless}
use Rattle.http_in.specs.declared.message.Message.{Message}
use Rattle.file_server.proofs.Keeping.{refused_kept, served_kept_ok}
use Rattle.file_server.proofs.serving.serve_file.Goals as goal

pub returns-in-Ok-clause-served : goal.returns-in-Ok-clause-served
returns-in-Ok-clause-served g c =
    served_kept_ok {R = Message} (IsFaultless (g.F.D.Disk.counter c.in-Ok.disk)) (g.F.Shelf.sound_disks c.args.files.now) g.E.Evaluator.takes g.E.Evaluator.meaning c.args.job.plan.port c.args.job.plan.connections c.args.job.plan.clients c.args.job.file.now c.args.job.record.now (g.F.Shelf.files c.args.files.now) (g.F.Shelf.files c.lend.new.files) (g.F.Shelf.files c.serve_over.new.files) (g.F.D.Disk.told c.in-Ok.disk) (g.F.D.Disk.told c.in-Ok.tape) _ _ _ _ _ _ c.serve_over.result
    c.in-Ok.ensures.lends (λ sound. (c.in-Ok.ensures.sound sound).0) c.serve_over.ensures.served

pub returns-in-Ok-clause-refused : goal.returns-in-Ok-clause-refused
returns-in-Ok-clause-refused g c =
    refused_kept {R = Message} (IsFaultless (g.F.D.Disk.counter c.in-Ok.disk)) (g.F.Shelf.sound_disks c.args.files.now) g.E.Evaluator.takes g.E.Evaluator.meaning c.args.job.plan.port c.args.job.plan.connections c.args.job.plan.clients c.args.job.file.now c.args.job.record.now (g.F.Shelf.files c.args.files.now) (g.F.Shelf.files c.lend.new.files) (g.F.Shelf.files c.serve_over.new.files) (g.F.D.Disk.told c.in-Ok.disk) (g.F.D.Disk.told c.in-Ok.tape) _ _ _ _ c.serve_over.result
    c.one_image.ensures.own c.one_image.ensures.only c.in-Ok.ensures.lends (λ sound. (c.in-Ok.ensures.sound sound).0) c.serve_over.ensures.refused
