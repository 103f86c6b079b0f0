use Rattle.file_server.proofs.Unopened.{not_begun, opening_refused}
use Rattle.file_server.proofs.opening.open_core.Goals as goal

pub returns-in-Err-core_over-clause-refused : goal.returns-in-Err-core_over-clause-refused
returns-in-Err-core_over-clause-refused g c = not_begun (g.D.Disk.told c.args.disk) _ _ _ c.in-Ok.ensures.opened c.in-Ok.ensures.any_moment c.in-Err-core_over.ensures.told

pub returns-in-Err-clause-refused : goal.returns-in-Err-clause-refused
returns-in-Err-clause-refused g c = opening_refused c.one_image.ensures.own (g.D.Disk.told c.args.disk) _ _ _ c.from.ensures c.in-Err.ensures.refused c.in-Err.ensures.left c.in-Err.ensures.any_moment_refused
