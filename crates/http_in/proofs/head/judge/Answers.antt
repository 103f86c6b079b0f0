use Rattle.std.proofs.Common.{◌≡◌, false, nat_lt, sym, ◌∙◌, subst, take}
use Rattle.http_in.specs.Ends.{header_lines}
use Rattle.http_in.specs.Messages.{judged, most_lines, request_of}
use Rattle.http_in.specs.Inside.{Gives}
use Rattle.http_in.proofs.Judging.{judged_is, headers_are}
use Rattle.http_in.proofs.head.judge.Goals as goal

pub returns-clause-is : goal.returns-clause-is
returns-clause-is c =
    let parts = c.in-Some.ensures.some in
    let short : nat_lt most_lines (header_lines c.args.head.now) ≡ false = sym c.has_many_lines.ensures ∙ c.if-has_many_lines.false in
    let e : judged c.args.head.now ≡ request_of c.of.result.now c.of-2.result.now c.in_ok-headers.headers =
    judged_is c.args.head.now parts.0 c.of.result.now c.of-2.result.now c.in_ok-headers.headers short parts.1
    (c.of.ensures ∙ parts.2.method) (c.of-2.ensures ∙ parts.2.path)
    (c.in_ok-headers.ensures ∙ headers_are c.args.head.now (take c.in-Some.found.headers c.parts_of-found.new.spans) parts.0 parts.2.fields) in
    subst (Gives c.request_of.result) (sym e) c.request_of.ensures.is
