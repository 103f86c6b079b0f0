use Rattle.file_server.proofs.Shelves.{returned}
use Rattle.file_server.proofs.lending.make_tape.Goals as goal

pub returns-in-Err-clause-kept : goal.returns-in-Err-clause-kept
returns-in-Err-clause-kept g c =
    returned (g.F.Shelf.files c.args.files.now) (g.F.Shelf.files c.create.new.self) (g.F.Shelf.files c.close-closed.new.self) c.args.job.file.now (g.F.D.Disk.told c.args.disk) c.close-closed.result c.requires.holds c.in-Err.ensures.kept c.close-closed.ensures.closed c.close-closed.ensures.kept
