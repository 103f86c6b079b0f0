use Rattle.std.proofs.Common.{◌∙◌, ap, sym}
use Rattle.std.specs.Str.{bytes_eq}
use Rattle.zknown.proofs.Spotting.{begins_at, goes_at}
use Rattle.zknown.proofs.spots.child_by.Goals as goal

pub loop-at-init : goal.loop-at-init
loop-at-init c =
    let way = begins_at c.args.children.now c.args.name.now c.spot_of.result _ c.spot_of.ensures.is (c.requires.are.first c.spot_of.result c.spot_of.ensures.below) in
    record { left = way.left; spot = way.spot }

pub loop-at-preserved : goal.loop-at-preserved
loop-at-preserved c =
    let x = c.index-children-at.result in
    let way = goes_at c.args.children.now c.args.name.now c.loop-at.at _ x c.loop-at-test.true c.index-children-at.is
    (ap (λ n. bytes_eq n c.args.name.now) (sym c.as_bytes.ensures) ∙ sym c.eq.ensures ∙ c.if-eq.false) (record { left = c.loop-at.invariant.left; spot = c.loop-at.invariant.spot })
    (c.requires.are.next c.loop-at.at x c.loop-at-test.true) in
    record { left = way.left; spot = way.spot }
