use Rattle.std.proofs.Common.{◌∙◌, [], ◌∷◌, ◌++◌, List, ap₂}
use Rattle.std.specs.Str.Lossy.{utf8_lossy}
use Rattle.http_in.specs.Headers.{Header}
use Rattle.http_in.proofs.Placing.{with_one, made_once}
use Rattle.http_in.proofs.placed.Headers.with.Goals as goal

pub invariant_of-result : goal.invariant_of-result
invariant_of-result c = (with_one
    c.self.inside.bytes.items c.add_lossy.new.bytes.items c.add_lossy-2.new.bytes.items (utf8_lossy c.args.name.now) (utf8_lossy c.args.value.now)
    c.self.inside.spans.items c.push.new.self.items (record { name = c.in_ok-name.name; value = c.in_ok-value.value })
    c.in_ok-name.ensures.bytes c.in_ok-value.ensures.bytes c.in_ok-push.ensures.items c.self.invariant
    c.in_ok-name.ensures.start c.in_ok-name.ensures.end c.in_ok-name.ensures.text
    c.in_ok-value.ensures.start c.in_ok-value.ensures.end c.in_ok-value.ensures.text).0

pub returns : goal.returns
returns c = (with_one
    c.self.inside.bytes.items c.add_lossy.new.bytes.items c.add_lossy-2.new.bytes.items (utf8_lossy c.args.name.now) (utf8_lossy c.args.value.now)
    c.self.inside.spans.items c.push.new.self.items (record { name = c.in_ok-name.name; value = c.in_ok-value.value })
    c.in_ok-name.ensures.bytes c.in_ok-value.ensures.bytes c.in_ok-push.ensures.items c.self.invariant
    c.in_ok-name.ensures.start c.in_ok-name.ensures.end c.in_ok-name.ensures.text
    c.in_ok-value.ensures.start c.in_ok-value.ensures.end c.in_ok-value.ensures.text).1
    ∙ ap₂ (λ (hs : List Header) (h : Header). hs ++ h ∷ []) c.self.view_is (made_once c.args.name.now c.args.value.now c.in_ok-name.ensures.text c.in_ok-value.ensures.text)
