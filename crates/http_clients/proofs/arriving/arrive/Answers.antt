use Rattle.std.proofs.Common.{◌≡◌, false, true, Ok, ap, refl, rules}
use Rattle.http_clients.specs.Arriving.{Arrived, bytes_of}
use Rattle.http_clients.proofs.Arrivals.{arrived_but, arrived_more, arrived_still, as_many_more, counted_as, counts_more, messages_more, most_more, tells_moved, were_open, were_open_but}
use Rattle.http_clients.proofs.arriving.arrive.Goals as goal

pub returns-then-not-takes_next-clause-arrived : goal.returns-then-not-takes_next-clause-arrived
returns-then-not-takes_next-clause-arrived g c =
    tells_moved (λ p q. Arrived p q c.loop-count.numbers.items (bytes_of c.loop-count.asked.items) c.loop-count.count) (g.H.Hub.peers c.args.hub.now) (g.H.Hub.peers c.loop-count.hub) (g.H.Hub.peers c.takes_next.new.hub) c.takes_next.ensures.peers c.loop-count.invariant.arrived

pub returns-then-not-takes_next-clause-open : goal.returns-then-not-takes_next-clause-open
returns-then-not-takes_next-clause-open g c =
    were_open c.loop-count.numbers.items (bytes_of c.loop-count.asked.items) c.loop-count.count (g.H.Hub.peers c.args.hub.now) (g.H.Hub.peers c.takes_next.new.hub) (returns-then-not-takes_next-clause-arrived g c)

pub returns-in_err-admit-clause-refused : goal.returns-in_err-admit-clause-refused
returns-in_err-admit-clause-refused g c = λ err.
    (let e = c.in_err-admit.ensures.err refl in
    arrived_but c.loop-count.numbers.items c.admit.new.numbers.items c.loop-count.asked.items c.admit.new.asked.items c.loop-count.count (g.H.Hub.peers c.args.hub.now) (g.H.Hub.peers c.takes_next.new.hub) (g.H.Hub.peers c.admit.new.hub) e.0 e.1
    (tells_moved (λ p q. Arrived p q c.loop-count.numbers.items (bytes_of c.loop-count.asked.items) c.loop-count.count) (g.H.Hub.peers c.args.hub.now) (g.H.Hub.peers c.loop-count.hub) (g.H.Hub.peers c.takes_next.new.hub) c.takes_next.ensures.peers c.loop-count.invariant.arrived)
    e.2)

pub returns-in_err-admit-clause-open : goal.returns-in_err-admit-clause-open
returns-in_err-admit-clause-open g c =
    (let e = c.in_err-admit.ensures.err refl in
    were_open_but c.admit.new.numbers.items (bytes_of c.admit.new.asked.items) (g.H.Hub.peers c.args.hub.now) (g.H.Hub.peers c.admit.new.hub)
    (arrived_but c.loop-count.numbers.items c.admit.new.numbers.items c.loop-count.asked.items c.admit.new.asked.items c.loop-count.count (g.H.Hub.peers c.args.hub.now) (g.H.Hub.peers c.takes_next.new.hub) (g.H.Hub.peers c.admit.new.hub) e.0 e.1
    (tells_moved (λ p q. Arrived p q c.loop-count.numbers.items (bytes_of c.loop-count.asked.items) c.loop-count.count) (g.H.Hub.peers c.args.hub.now) (g.H.Hub.peers c.loop-count.hub) (g.H.Hub.peers c.takes_next.new.hub) c.takes_next.ensures.peers c.loop-count.invariant.arrived)
    e.2))

pub returns-then-not-branch-clause-arrived : goal.returns-then-not-branch-clause-arrived
returns-then-not-branch-clause-arrived g c =
    (let none : c.in_ok-admit.field-0 ≡ false = search rules in
    let e = c.in_ok-admit.ensures.none (ap Ok none) in
    arrived_still c.loop-count.numbers.items c.admit.new.numbers.items c.loop-count.asked.items c.admit.new.asked.items c.loop-count.count (g.H.Hub.peers c.args.hub.now) (g.H.Hub.peers c.loop-count.hub) (g.H.Hub.peers c.takes_next.new.hub) (g.H.Hub.peers c.admit.new.hub) c.takes_next.ensures.peers e.2 e.0 e.1 c.loop-count.invariant.arrived)

pub returns-then-not-branch-clause-open : goal.returns-then-not-branch-clause-open
returns-then-not-branch-clause-open g c =
    were_open c.admit.new.numbers.items (bytes_of c.admit.new.asked.items) c.loop-count.count (g.H.Hub.peers c.args.hub.now) (g.H.Hub.peers c.admit.new.hub) (returns-then-not-branch-clause-arrived g c)

pub loop-count-preserved : goal.loop-count-preserved
loop-count-preserved g c =
    let some : c.in_ok-admit.field-0 ≡ true = search rules in
    let one = c.in_ok-admit.ensures.some (ap Ok some) in
    let ns = c.loop-count.numbers.items in
    let ns' = c.admit.new.numbers.items in
    let asked = c.loop-count.asked.items in
    let asked' = c.admit.new.asked.items in
    let mid = g.H.Hub.peers c.takes_next.new.hub in
    let new = g.H.Hub.peers c.admit.new.hub in
    let before = tells_moved (λ p q. Arrived p q ns (bytes_of asked) c.loop-count.count) (g.H.Hub.peers c.args.hub.now) (g.H.Hub.peers c.loop-count.hub) mid c.takes_next.ensures.peers c.loop-count.invariant.arrived in
    record {
      arrived = arrived_more ns ns' asked asked' c.loop-count.count (g.H.Hub.peers c.args.hub.now) mid new before one;
      most = most_more ns ns' asked asked' c.loop-count.count mid new c.loop-count.invariant.most one;
      messages = messages_more ns ns' asked asked' mid new c.loop-count.invariant.messages one;
      as_many = as_many_more ns ns' asked asked' mid new c.loop-count.invariant.as_many one;
      counts = counts_more (g.H.Hub.listening c.args.hub.now) (g.H.Hub.listening c.loop-count.hub) (g.H.Hub.listening c.takes_next.new.hub) (g.H.Hub.listening c.admit.new.hub) c.in_ok-admit.field-0 c.loop-count.invariant.counts c.takes_next.ensures.listening c.in_ok-admit.ensures.listening;
    }

pub returns-clause-arrived : goal.returns-clause-arrived
returns-clause-arrived g c =
    (let most : c.loop-count.count ≡ c.args.most = search rules in
    counted_as c.loop-count.numbers.items (bytes_of c.loop-count.asked.items) c.loop-count.count c.args.most (g.H.Hub.peers c.args.hub.now) (g.H.Hub.peers c.loop-count.hub) most c.loop-count.invariant.arrived)

pub returns-clause-open : goal.returns-clause-open
returns-clause-open g c =
    were_open c.loop-count.numbers.items (bytes_of c.loop-count.asked.items) c.loop-count.count (g.H.Hub.peers c.args.hub.now) (g.H.Hub.peers c.loop-count.hub) c.loop-count.invariant.arrived
