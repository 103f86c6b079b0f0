use Rattle.http_in.proofs.Placing.{ascii_same}
use Rattle.http_in.proofs.placed.Headers.in_ascii.Goals as goal

pub invariant_of-result : goal.invariant_of-result
invariant_of-result c =
    ascii_same c.in_ok-bytes.bytes.items c.args.head.now c.in_ok-spans.spans.items c.args.spans.now
    c.in_ok-bytes.ensures.items c.in_ok-spans.ensures.items c.requires.ascii c.requires.within
