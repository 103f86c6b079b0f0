use Rattle.std.proofs.Common.{◌∙◌, ap, sym}
use Rattle.std.specs.Str.{str_eq_ignore_ascii_case}
use Rattle.std.proofs.lemmas.Str.{utf8_lossy-IsUtf8}
use Rattle.httparse.specs.Spans.{span_bytes}
use Rattle.http_in.proofs.placed.is_named_at.Goals as goal

pub returns : goal.returns
returns c =
    c.is_same.ensures
    ∙ ap (λ name. str_eq_ignore_ascii_case name c.args.name.now) (c.of.ensures ∙ sym (utf8_lossy-IsUtf8 (span_bytes c.args.bytes.now c.args.span.name) c.requires.0.1))
