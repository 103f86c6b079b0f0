use Rattle.std.proofs.Common.{◌≡◌, drop, take}
use Rattle.std.specs.Prelude.{⊤}
use Rattle.http_clients.specs.Ending.{EndsAll, WereOpen}
use Rattle.http_clients.proofs.answering.close_all.Given as goal

-- those that were seen are closed, the others are open
abbrev pub invariant-loop-conn : goal.invariant-loop-conn
invariant-loop-conn g l = record {
  ended : EndsAll (λ w end. ⊤) (take l.conn-index l.numbers) (g.H.Hub.peers l.fn.hub) (g.H.Hub.peers l.hub);
  rest : WereOpen (drop l.conn-index l.numbers) (g.H.Hub.peers l.hub);
  listening : g.H.Hub.listening l.hub ≡ g.H.Hub.listening l.fn.hub;
}
