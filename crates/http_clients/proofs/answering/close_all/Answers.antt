use Rattle.std.proofs.Common.{get_or, ◌∙◌}
use Rattle.std.specs.Prelude.{⊤}
use Rattle.http_clients.proofs.Endings.{ended_quietly, ends_next, were_next, were_rest}
use Rattle.http_clients.proofs.answering.close_all.Goals as goal

pub loop-conn-preserved : goal.loop-conn-preserved
loop-conn-preserved g c =
    let ns = c.args.numbers.now in
    let i = c.loop-conn.conn-index in
    let less = c.loop-conn-test.true in
    let old = g.H.Hub.peers c.args.hub.now in
    let mid = g.H.Hub.peers c.loop-conn.hub in
    let new = g.H.Hub.peers c.close.new.self in
    let one = ended_quietly (get_or ns i 0) mid new c.close.ensures.closed in
    record {
      ended = ends_next (λ w end. ⊤) ns i 0 old mid new less c.loop-conn.invariant.ended one;
      rest = were_rest (λ end. ⊤) (get_or ns i 0) _ mid new (were_next ns i 0 mid less c.loop-conn.invariant.rest) one;
      listening = c.close.ensures.counts.1 ∙ c.loop-conn.invariant.listening;
    }
