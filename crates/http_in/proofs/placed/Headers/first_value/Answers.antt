use Rattle.std.proofs.Common.{◌≡◌, ◌∙◌, ◌<◌, length, find, get_or, ap, sym, arith, Some, option_map}
use Rattle.http_in.specs.Headers.{Header, is_named}
use Rattle.http_in.proofs.Placing.{no_header}
use Rattle.http_in.proofs.Scans.{find_passes, find_stops}
use Rattle.http_in.proofs.placed.Headers.first_value.Goals as goal

pub returns-then-is_named : goal.returns-then-is_named
returns-then-is_named c =
    let less : c.loop-at.at < length c.args.self.now = omega (arith, c.loop-at-test.true, c.len-at-end.ensures) in
    let found : find (is_named c.args.name.now) c.args.self.now ≡ Some (get_or c.args.self.now c.loop-at.at no_header) =
    c.loop-at.invariant ∙ find_stops (is_named c.args.name.now) c.args.self.now c.loop-at.at no_header less (sym (c.is_named.ensures no_header) ∙ c.if-is_named.true) in
    ap Some (c.value.ensures no_header) ∙ sym (ap (option_map (λ (h : Header). h.value)) found)

pub loop-at-preserved : goal.loop-at-preserved
loop-at-preserved c =
    let less : c.loop-at.at < length c.args.self.now = omega (arith, c.loop-at-test.true, c.len-at-end.ensures) in
    c.loop-at.invariant ∙ find_passes (is_named c.args.name.now) c.args.self.now c.loop-at.at no_header less (sym (c.is_named.ensures no_header) ∙ c.if-is_named.false)
