use Rattle.http_clients.proofs.Endings.{ended, ends_one_as, open_written}
use Rattle.http_clients.proofs.answering.answer_one.Goals as goal

pub close-requires : goal.close-requires
close-requires g c = record { «open» = open_written c.args.conn c.args.reply.now c.write_all-wrote.result (g.H.Hub.peers c.args.hub.now) (g.H.Hub.peers c.write_all-wrote.new.self) (c.write_all-wrote.ensures.ok, c.write_all-wrote.ensures.failed, c.write_all-wrote.ensures.memory) c.requires.open }

pub returns-clause-ended : goal.returns-clause-ended
returns-clause-ended g c = ends_one_as _ _ c.args.conn (g.H.Hub.peers c.args.hub.now) (g.H.Hub.peers c.close.new.self) (λ end sends none. sends (c.lacks_memory.ensures none))
    (ended c.args.conn c.args.reply.now c.write_all-wrote.result (g.H.Hub.peers c.args.hub.now) (g.H.Hub.peers c.write_all-wrote.new.self) (g.H.Hub.peers c.close.new.self) (c.write_all-wrote.ensures.ok, c.write_all-wrote.ensures.failed, c.write_all-wrote.ensures.memory) c.close.ensures.closed)
