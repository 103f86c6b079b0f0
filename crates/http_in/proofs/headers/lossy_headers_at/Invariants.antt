use Rattle.std.proofs.Common.{◌≡◌, map, take}
use Rattle.httparse.specs.Spans.{header_bytes}
use Rattle.http_in.specs.Headers.{header_by}
use Rattle.http_in.proofs.headers.lossy_headers_at.Given as goal

abbrev pub invariant-loop-span : goal.invariant-loop-span
invariant-loop-span l = l.all ≡ map (λ span. header_by (header_bytes l.head span)) (take l.span-index l.spans)
