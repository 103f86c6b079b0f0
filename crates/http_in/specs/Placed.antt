-- Where texts stand among bytes: words for the crate's own list of headers. No clause of a public function needs them.
use Rattle.std.specs.Prelude.{ℕ, List, length}
use Rattle.std.specs.Str.{IsUtf8}
use Rattle.httparse.specs.declared.spans.HeaderSpan.{HeaderSpan}
use Rattle.httparse.specs.declared.spans.Span.{Span}
use Rattle.httparse.specs.Spans.{IsWithin, span_bytes}

-- the place lies within, and a text stands there
abbrev pub IsTextPlace : List ℕ → Span → Type 0
IsTextPlace bytes span = IsWithin (length bytes) span × IsUtf8 (span_bytes bytes span)

-- a name and a value stand there
abbrev pub IsTextAt : List ℕ → HeaderSpan → Type 0
IsTextAt bytes span = IsTextPlace bytes span.name × IsTextPlace bytes span.value
