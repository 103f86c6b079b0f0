use Rattle.std.proofs.Common.{◌≡◌, ◌∙◌, length, drop, ap, sym, vec_capacity, arith}
use Rattle.http_in.specs.Messages.{asked}
use Rattle.http_in.specs.SizeLaws.{long_enough}
use Rattle.http_in.specs.Streams.{Stream}
use Rattle.http_in.proofs.Readers.{keeps_byte, most_byte}
use Rattle.http_in.proofs.reader.Reader.feed.Goals as goal

pub invariant_of-self : goal.invariant_of-self
invariant_of-self c =
    rw (c.push_reserved.ensures.items, c.push_reserved.ensures.capacity)
    (keeps_byte c.self.inside.bytes.items c.self.inside.taken c.self.inside.at c.self.inside.clean c.self.inside.wanted c.self.inside.quiet (vec_capacity c.self.inside.bytes) _ c.self.invariant (omega (arith, c.if-len-self.true)) c.if-piece-ne10.true)

pub returns-then-len-self-clause-most : goal.returns-then-len-self-clause-most
returns-then-len-self-clause-most c =
    let seen : c.args.self.now.rest ≡ drop c.self.inside.at c.self.inside.bytes.items = ap (λ (s : Stream). s.rest) (sym c.self.view_is) in
    λ none. rw c.push_reserved.ensures.items
    (most_byte c.self.inside.bytes.items c.self.inside.taken c.self.inside.at _ (length c.args.piece.now) (c.self.invariant.front (omega (arith, c.if-len-self.true))) c.self.invariant.within (omega (arith, c.if-piece-eq1.true)) (ap asked (sym seen) ∙ none) c.self.invariant.ordered)

pub returns-clause-most : goal.returns-clause-most
returns-clause-most c = λ none. omega (arith, c.feed_on.ensures.most, long_enough c.args.self.now.rest none, ap length c.feed_on.ensures.taken)
