use Rattle.std.proofs.Common.{◌≡◌, ◌≤◌, length}
use Rattle.zbase.specs.Faults.{Counts}
use Rattle.http_clients.specs.Arriving.{AreMessages, Arrived, Tells, bytes_of}
use Rattle.http_clients.proofs.arriving.arrive.Given as goal

-- those that came so far
abbrev pub invariant-loop-count : goal.invariant-loop-count
invariant-loop-count g l = record {
  arrived : Tells (g.H.Hub.peers l.fn.hub) (g.H.Hub.peers l.hub) (λ p q. Arrived p q l.numbers.items (bytes_of l.asked.items) l.count);
  most : length l.numbers.items ≤ l.count;
  messages : AreMessages l.asked.items;
  as_many : length l.numbers.items ≡ length l.asked.items;
  counts : Counts (g.H.Hub.listening l.fn.hub) (g.H.Hub.listening l.hub) ⊥;
}
