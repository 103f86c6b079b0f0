use Rattle.std.proofs.Common.{◌≡◌, ◌∷◌, ◌∙◌, ℕ, ◌+◌, drop, get_or, length, Some, ap, arith, List, refl}
use Rattle.std.proofs.lemmas.List.{drop_more, drop-set-lt}
use Rattle.zio.specs.MemoryHubs.{peers_of}
use Rattle.zio.proofs.Connections.{peers_accepted}
use Rattle.zio.proofs.memory_hub.MemoryHubHub.accept.Goals as goal

pub returns-clause-ok : goal.returns-clause-ok
returns-clause-ok c =
    let coming = c.self.inside.coming.items in
    let next = c.self.inside.next in
    let taken = drop-set-lt (next + 1) coming next c.replace-bytes.new.dest (omega arith) in
    let first : get_or coming next c.index_mut.result.now ≡ c.replace-bytes.result = cc in
    let cut : drop next coming ≡ c.replace-bytes.result ∷ drop (next + 1) coming = drop_more coming next c.index_mut.result.now (omega arith) ∙ ap (λ bytes. bytes ∷ drop (next + 1) coming) first in
    let number : c.in-Ok.number ≡ length c.self.inside.accepted.items = omega arith in
    let pushed = c.push_reserved.ensures.items ∙ rw c.try_reserve.ensures.items refl in
    (peers_of c.self.inside.port c.push_reserved.new.self.items (drop (next + 1) coming), ap (λ (xs : List (List ℕ)). Some (peers_of c.self.inside.port c.push_reserved.new.self.items xs)) taken, peers_accepted c.self.inside.port c.self.inside.accepted.items _ (drop next coming) _ _ c.in-Ok.number c.new-2.result c.replace-bytes.result (ap (λ s. s.peers) c.self.view_is) cut number pushed (c.new-2.ensures c.in-Ok.number))
