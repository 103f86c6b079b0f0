use Rattle.std.proofs.Common.{◌≡◌, ◌-◌, ◌<◌, length}
use Rattle.http_clients.specs.Hearing.{HearsOn, TellsStill}
use Rattle.http_in.specs.Messages.{most_message}
use Rattle.http_clients.proofs.hearing.read_message.Given as goal

-- what came is in the reader
abbrev pub invariant-reading : goal.invariant-reading
invariant-reading g l = record {
  hears : TellsStill (g.H.Hub.peers l.fn.hub) (g.H.Hub.peers l.hub) (HearsOn l.conn l.reader.rest);
  some : 0 < length l.piece;
  listening : g.H.Hub.listening l.hub ≡ g.H.Hub.listening l.fn.hub;
}

abbrev pub decreases-reading : goal.decreases-reading
decreases-reading g l = most_message - length l.reader.rest
