use Rattle.std.proofs.Common.{◌<◌, drop, length, Some, ap, refl, arith}
use Rattle.zio.specs.Hubs.{Peers}
use Rattle.zio.specs.HubCalls.{without_peer}
use Rattle.zio.proofs.Connections.{open_within, peers_changed}
use Rattle.zio.proofs.memory_hub.MemoryHubHub.close.Goals as goal

pub index_mut-requires : goal.index_mut-requires
index_mut-requires c =
    let within : c.args.conn < length c.self.inside.accepted.items = open_within c.self.inside.port c.self.inside.accepted.items _ _ c.args.conn (ap (λ s. s.peers) c.self.view_is) (c.requires.open _ refl) in
    omega arith

pub returns-clause-closed : goal.returns-clause-closed
returns-clause-closed c = ap (λ (p : Peers). Some p) (peers_changed c.self.inside.port c.self.inside.accepted.items (drop c.self.inside.next c.self.inside.coming.items) c.args.self.now.peers c.args.conn without_peer c.index_mut.result.now _ (ap (λ s. s.peers) c.self.view_is) (c.requires.open _ refl) c.index_mut.ensures.value refl)
