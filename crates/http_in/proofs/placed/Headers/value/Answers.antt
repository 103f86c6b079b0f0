use Rattle.http_in.proofs.Placing.{value_seen}
use Rattle.http_in.proofs.placed.Headers.value.Goals as goal

pub returns : goal.returns
returns c =
    value_seen c.self.inside.bytes.items c.self.inside.spans.items c.args.self.now c.args.at c.index.result.now c.text_at.result.now c.as_slice.result.now
    c.self.view_is c.self.invariant c.requires c.index.ensures c.as_slice.ensures.value c.text_at.ensures
