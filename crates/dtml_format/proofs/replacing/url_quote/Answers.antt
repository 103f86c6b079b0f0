use Rattle.dtml_format.proofs.Escapes.{is_quoted}
use Rattle.dtml_format.proofs.replacing.url_quote.Goals as goal

pub returns : goal.returns
returns c = rw (c.in_ok-append_to.ensures.ok, c.in_ok-made.ensures.bytes, c.percent_encode.ensures.text, c.as_bytes.ensures.value) (is_quoted c.escaped.result c.escaped.ensures c.args.text.now)
