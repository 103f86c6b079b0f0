use Rattle.std.proofs.Common.{◌<◌, ◌∙◌, drop, length, Some, ap, refl, arith}
use Rattle.zio.specs.Hubs.{Peers}
use Rattle.zio.specs.HubCalls.{with_left, with_read_fault}
use Rattle.zio.proofs.Connections.{open_within, peers_changed, peers_left}
use Rattle.zio.proofs.memory_hub.MemoryHubHub.read.Goals as goal

pub index_mut-connection-requires : goal.index_mut-connection-requires
index_mut-connection-requires c =
    let within : c.args.conn < length c.self.inside.accepted.items = open_within c.self.inside.port c.self.inside.accepted.items _ _ c.args.conn (ap (λ s. s.peers) c.self.view_is) (c.requires.open _ refl) in
    omega arith

pub returns-then-is_err-clause-failed : goal.returns-then-is_err-clause-failed
returns-then-is_err-clause-failed c = λ _. ap (λ (p : Peers). Some p) (peers_changed c.self.inside.port c.self.inside.accepted.items (drop c.self.inside.next c.self.inside.coming.items) c.args.self.now.peers c.args.conn with_read_fault c.index_mut-connection.result.now _ (ap (λ s. s.peers) c.self.view_is) (c.requires.open _ refl) c.index_mut-connection.ensures.value (rw c.saturating_add-connection.ensures refl))

pub returns-clause-ok : goal.returns-clause-ok
returns-clause-ok c =
    let left = peers_left c.self.inside.port c.self.inside.accepted.items (drop c.self.inside.next c.self.inside.coming.items) c.args.self.now.peers c.args.conn c.index_mut-connection.result.now (ap (λ s. s.peers) c.self.view_is) (c.requires.open _ refl) c.index_mut-connection.ensures.value in
    (c.read.new.self, left ∙ c.read.ensures.moved, c.read.ensures.end, ap (λ (p : Peers). Some p) (peers_changed c.self.inside.port c.self.inside.accepted.items (drop c.self.inside.next c.self.inside.coming.items) c.args.self.now.peers c.args.conn (with_left c.read.new.self) c.index_mut-connection.result.now _ (ap (λ s. s.peers) c.self.view_is) (c.requires.open _ refl) c.index_mut-connection.ensures.value refl))
