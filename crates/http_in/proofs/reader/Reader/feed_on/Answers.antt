use Rattle.std.proofs.Common.{◌≡◌, drop, ap, sym, vec_capacity}
use Rattle.http_in.specs.Streams.{Stream}
use Rattle.http_in.proofs.Readers.{keeps_either, rest_fed}
use Rattle.http_in.proofs.reader.Reader.feed_on.Goals as goal

pub invariant_of-self : goal.invariant_of-self
invariant_of-self c =
    keeps_either c.moved_on-bytes.result.1 c.self.inside.bytes.items c.args.piece.now c.moved_on-bytes.result.0.items c.self.inside.taken c.self.inside.at c.self.inside.clean c.self.inside.wanted c.self.inside.quiet (vec_capacity c.self.inside.bytes) (vec_capacity c.moved_on-bytes.result.0) c.self.invariant
    (rw (← c.replace-bytes.ensures.value) c.moved_on-bytes.ensures.ok)
    (rw (← c.replace-bytes.ensures.value) c.moved_on-bytes.ensures.err)

pub returns-clause-ok : goal.returns-clause-ok
returns-clause-ok c =
    let seen : c.args.self.now.rest ≡ drop c.self.inside.at c.self.inside.bytes.items = ap (λ (s : Stream). s.rest) (sym c.self.view_is) in
    rw seen (rest_fed c.moved_on-bytes.result.1 c.self.inside.bytes.items c.args.piece.now c.moved_on-bytes.result.0.items c.self.inside.taken c.self.inside.at c.self.invariant.ordered c.self.invariant.within
    (rw (← c.replace-bytes.ensures.value) c.moved_on-bytes.ensures.ok))
