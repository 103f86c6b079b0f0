use Rattle.std.proofs.Common.{◌≡◌, ◌+◌, ◌-◌, ◌≤◌, ◌++◌, length, take, drop, nat_lt, ap, ◌∙◌, arith}
use Rattle.dtml_format.specs.Shaping as spec
use Rattle.dtml_format.proofs.Blocks.{block_is_more, block_taken}
use Rattle.dtml_format.proofs.sizing.past_blocks.Goals as goal

pub loop-at-preserved : goal.loop-at-preserved
loop-at-preserved c =
    let xs = c.args.bytes.now in
    let at = c.loop-at.at in
    let left = c.loop-at.left in
    let len : at + 128 - at ≡ 128 = omega arith in
    let le : at + 128 ≤ length xs = omega (arith, c.loop-at-test.true, c.loop-at.invariant.within) in
    let n : c.chars_in-some.result ≡ spec.chars (take 128 (drop at xs)) = c.chars_in-some.ensures ∙ ap (λ k. spec.chars (take k (drop at xs))) len in
    let few : spec.chars (take 128 (drop at xs)) ≤ left = omega (arith, n, c.if-left-some.false) in
    record {
      within = le;
      is = ap (λ k. take (at + 128) xs ++ spec.first_chars (left - k) (drop (at + 128) xs)) n ∙ block_taken xs _ at 128 left le few c.loop-at.invariant.is;
      more = ap (λ k. nat_lt (left - k) (spec.chars (drop (at + 128) xs))) n ∙ block_is_more xs _ at 128 left le few c.loop-at.invariant.more;
    }
