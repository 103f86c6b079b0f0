use Rattle.std.proofs.Common.{◌≡◌, ◌∙◌, ap, sym, arith, length, subst, get_or, replicate, ◌+◌, ◌-◌}
use Rattle.std.proofs.lemmas.List.{get_or-replicate, get_or_default, length-replicate}
use Rattle.zobject.specs.declared.object.Child.{Child}
use Rattle.zknown.specs.Spots.{spot_of}
use Rattle.zknown.proofs.Spotting.{AreFrom, at_end, one_more}
use Rattle.zknown.proofs.spots.spots_of.Goals as goal

pub loop-at-init : goal.loop-at-init
loop-at-init c =
    let many = length c.args.children.now in
    let all : c.in_ok-spots.spots.items ≡ replicate (many + many) many = c.in_ok-spots.ensures.items_if_clones_equal (λ y same. same) in
    record {
      size = ap length all ∙ length-replicate (many + many) many;
      within = omega arith;
      first = λ spot l. ap (λ items. get_or items spot 0) all ∙ get_or-replicate (many + many) spot many 0 (omega (arith, l)) ∙ sym (at_end c.args.children.now spot);
      next = λ j d from l. absurd (omega (arith, from, l));
    }

pub loop-at-preserved : goal.loop-at-preserved
loop-at-preserved c =
    let children = c.args.children.now in
    let at = c.loop-at.at - 1 in
    let more : c.loop-at.at ≡ at + 1 = omega (arith, c.loop-at-test.true) in
    let i = c.loop-at.invariant in
    let are : AreFrom children c.loop-at.spots.items (at + 1) = subst (AreFrom children c.loop-at.spots.items) more (record { size = i.size; first = i.first; next = i.next }) in
    let read : c.index.result.now ≡ get_or c.loop-at.spots.items c.spot_of-spot.result 0 =
    c.index.ensures ∙ get_or_default c.loop-at.spots.items c.spot_of-spot.result c.index.result.now 0 (let size = i.size in let below = c.spot_of-spot.ensures.below in omega (arith, size, below)) in
    let later = one_more children c.loop-at.spots.items at c.spot_of-spot.result c.index-children-at.result (omega (arith, c.loop-at-test.true, i.within)) c.index-children-at.is
    (c.spot_of-spot.ensures.is ∙ ap (spot_of (length children)) c.as_bytes.ensures ∙ ap (λ (k : Child). spot_of (length children) k.name) (sym c.index-children-at.is)) c.spot_of-spot.ensures.below c.index.result.now read are in
    record { size = later.size; within = omega (arith, i.within); first = later.first; next = later.next }
