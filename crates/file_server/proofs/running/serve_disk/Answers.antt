use Rattle.zbase.specs.Faults.{IsFaultless}
use Rattle.http_in.specs.declared.message.Message.{Message}
use Rattle.file_server.proofs.Ended.{disk_refused, disk_served_ok}
use Rattle.file_server.proofs.running.serve_disk.Goals as goal

pub returns-in-Ok-clause-served : goal.returns-in-Ok-clause-served
returns-in-Ok-clause-served g c = disk_served_ok {R = Message} (IsFaultless (g.D.Disk.counter c.args.site.disk)) g.E.Evaluator.takes g.E.Evaluator.meaning c.args.plan.port c.args.plan.connections c.args.plan.clients c.in-Ok.core.store (g.D.Disk.told c.args.site.disk) (g.D.Disk.told c.serve_core.result.1) (g.D.Disk.told c.serve_core.new.tape) _ _ _ _ _ _ c.serve_core.result.0 c.in-Ok.ensures.opened (λ calm. (c.in-Ok.ensures.calm.calm calm).0) c.serve_core.ensures.tells.0 c.serve_core.ensures.served

pub returns-in-Ok-clause-refused : goal.returns-in-Ok-clause-refused
returns-in-Ok-clause-refused g c = disk_refused {R = Message} (IsFaultless (g.D.Disk.counter c.args.site.disk)) g.E.Evaluator.takes g.E.Evaluator.meaning c.args.plan.port c.args.plan.connections c.args.plan.clients c.in-Ok.core.store (g.D.Disk.told c.args.site.disk) (g.D.Disk.told c.serve_core.result.1) (g.D.Disk.told c.serve_core.new.tape) _ _ _ _ c.serve_core.result.0 c.in-Ok.ensures.opened (λ calm. (c.in-Ok.ensures.calm.calm calm).0) c.serve_core.ensures.tells.0 c.serve_core.ensures.refused
