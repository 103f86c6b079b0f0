use Rattle.std.proofs.Common.{◌<◌, drop, length, [], Some, ap, refl, arith, append-nil}
use Rattle.zio.specs.Hubs.{Peers}
use Rattle.zio.specs.HubCalls.{with_more, with_write_fault}
use Rattle.zio.proofs.Connections.{open_within, peers_changed}
use Rattle.zio.proofs.memory_hub.MemoryHubHub.write_all.Goals as goal

pub index_mut-connection-requires : goal.index_mut-connection-requires
index_mut-connection-requires c =
    let within : c.args.conn < length c.self.inside.accepted.items = open_within c.self.inside.port c.self.inside.accepted.items _ _ c.args.conn (ap (λ s. s.peers) c.self.view_is) (c.requires.open _ refl) in
    omega arith

pub returns-then-is_err-clause-failed : goal.returns-then-is_err-clause-failed
returns-then-is_err-clause-failed c = λ _. ([], c.args.bytes.now, refl, ap (λ (p : Peers). Some p) (peers_changed c.self.inside.port c.self.inside.accepted.items (drop c.self.inside.next c.self.inside.coming.items) c.args.self.now.peers c.args.conn (λ c. with_write_fault (with_more [] c)) c.index_mut-connection.result.now _ (ap (λ s. s.peers) c.self.view_is) (c.requires.open _ refl) c.index_mut-connection.ensures.value (rw (append-nil c.index_mut-connection.result.now.written, c.saturating_add-connection.ensures) refl)))

pub returns-clause-ok : goal.returns-clause-ok
returns-clause-ok c =
    let more = c.in_ok-append.ensures.ok in
    ap (λ (p : Peers). Some p) (peers_changed c.self.inside.port c.self.inside.accepted.items (drop c.self.inside.next c.self.inside.coming.items) c.args.self.now.peers c.args.conn (with_more c.args.bytes.now) c.index_mut-connection.result.now _ (ap (λ s. s.peers) c.self.view_is) (c.requires.open _ refl) c.index_mut-connection.ensures.value (rw more refl))
