use Rattle.http_clients.proofs.Hears.{read_but_lost}
use Rattle.http_clients.proofs.hearing.read_piece.Goals as goal

pub returns-in_err-feed-in-Ok-clause-err : goal.returns-in_err-feed-in-Ok-clause-err
returns-in_err-feed-in-Ok-clause-err g c = λ err. read_but_lost c.args.conn c.in-Ok.count c.read.new.buf (g.H.Hub.peers c.args.hub.now) (g.H.Hub.peers c.read.new.self) c.in-Ok.ensures.ok
