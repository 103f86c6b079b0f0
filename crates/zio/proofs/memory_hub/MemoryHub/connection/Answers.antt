use Rattle.std.proofs.Common.{◌≡◌, ap, option_map}
use Rattle.zio.specs.MemoryHubs.{connection, connections_from}
use Rattle.zio.proofs.Connections.{found_at, peers-at}
use Rattle.zio.proofs.memory_hub.MemoryHub.connection.Goals as goal

pub returns : goal.returns
returns c =
    let seen : connections_from 0 c.self.inside.accepted.items ≡ c.args.self.now.peers.accepted = ap (λ s. s.peers.accepted) c.self.view_is in
    rw (← seen, peers-at, ← c.deref.ensures.value) (ap (option_map (connection c.args.number)) (found_at c.deref.result.now c.args.number c.get.result c.get.ensures.lookup))
