use Rattle.std.proofs.Common.{◌≡◌, ◌+◌, ◌-◌, ◌≤◌, length, take, drop, ap, ◌∙◌, arith}
use Rattle.std.proofs.lemmas.List.{length-take}
use Rattle.dtml_format.specs.Shaping as spec
use Rattle.dtml_format.proofs.Blocks.{block_counted, few_chars}
use Rattle.dtml_format.proofs.sizing.chars.Goals as goal

pub loop-at-preserved : goal.loop-at-preserved
loop-at-preserved c =
    let xs = c.args.bytes.now in
    let at = c.loop-at.at in
    let len : at + 128 - at ≡ 128 = omega arith in
    let le : at + 128 ≤ length xs = omega (arith, c.loop-at-test.true, c.loop-at.invariant.within) in
    let n : c.chars_in.result ≡ spec.chars (take 128 (drop at xs)) = c.chars_in.ensures ∙ ap (λ k. spec.chars (take k (drop at xs))) len in
    record {
      within = le;
      few = omega (arith, c.loop-at.invariant.few, n, few_chars (take 128 (drop at xs)), length-take 128 (drop at xs));
      is = ap (λ k. (c.loop-at.count + k) + spec.chars (drop (at + 128) xs)) n ∙ block_counted xs at 128 c.loop-at.count le c.loop-at.invariant.is;
    }
