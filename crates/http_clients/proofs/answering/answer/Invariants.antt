use Rattle.std.proofs.Common.{◌≡◌, false, drop, take}
use Rattle.http_clients.specs.Ending.{EndsAll, SendsReply, WereOpen}
use Rattle.http_clients.proofs.answering.answer.Given as goal

-- those that were seen are answered and closed, the others are open
abbrev pub invariant-loop-worker : goal.invariant-loop-worker
invariant-loop-worker g l = record {
  ended : EndsAll (λ w end. l.short ≡ false → SendsReply l.replies w end) (take l.worker l.numbers) (g.H.Hub.peers l.fn.hub) (g.H.Hub.peers l.hub);
  rest : WereOpen (drop l.worker l.numbers) (g.H.Hub.peers l.hub);
  listening : g.H.Hub.listening l.hub ≡ g.H.Hub.listening l.fn.hub;
}
