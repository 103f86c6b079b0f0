use Rattle.std.proofs.Common.{◌≡◌, ◌∙◌, drop, ap, sym}
use Rattle.http_in.specs.Messages.{asked}
use Rattle.http_in.specs.Streams.{Stream}
use Rattle.http_in.proofs.Quiet.{quiet_now}
use Rattle.http_in.proofs.reader.Reader.next.Goals as goal

pub returns-then-self-gt0-clause-none : goal.returns-then-self-gt0-clause-none
returns-then-self-gt0-clause-none c =
    let seen : c.args.self.now.rest ≡ drop c.self.inside.at c.self.inside.bytes.items = ap (λ (s : Stream). s.rest) (sym c.self.view_is) in
    ap asked seen ∙ quiet_now c.self.inside.bytes.items c.self.inside.at c.self.inside.quiet c.self.invariant.still (c.self.invariant.left c.if-self-gt0.true)
