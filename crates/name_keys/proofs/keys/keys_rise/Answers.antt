use Rattle.std.proofs.Common.{◌≡◌, ◌+◌, ◌-◌, ◌<◌, sym, subst, arith, below_more, slice_index_or}
use Rattle.std.proofs.lemmas.Map.Keys.{sorted_from_strictly_increasing}
use Rattle.name_keys.proofs.keys.keys_rise.Goals as goal

pub loop-later-init : goal.loop-later-init
loop-later-init c = λ k h. absurd (omega arith)

pub loop-later-preserved : goal.loop-later-preserved
loop-later-preserved c =
    let keys = c.args.keys.now in
    let last = c.loop-later.later - 1 in
    let next : last + 1 ≡ c.loop-later.later = omega (arith, c.loop-later.auto.later) in
    let here = subst (λ n. slice_index_or keys last 0 < slice_index_or keys n 0) (sym next) c.if-keys-later.false in
    λ k h. below_more (λ j. slice_index_or keys j 0 < slice_index_or keys (j + 1) 0) last (λ j less. c.loop-later.invariant j (omega arith)) here k (omega arith)

pub returns : goal.returns
returns c = λ _. sorted_from_strictly_increasing c.args.keys.now (λ k h. c.loop-later.invariant k (omega arith))
