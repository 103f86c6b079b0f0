use Rattle.std.proofs.Common.{rules, ◌≡◌, ◌≤◌, ◌∙◌, ap, length, arith}
use Rattle.std.specs.List.{filter}
use Rattle.catalog.specs.Hits.{found_by, found_by_all}
use Rattle.catalog.specs.Placing.{is_among}
use Rattle.catalog.proofs.Searched.{left_end, left_step}
use Rattle.catalog.proofs.searching.found_by_all.Goals as goal

pub loop-sought-preserved : goal.loop-sought-preserved
loop-sought-preserved c =
    let new : c.in_ok-found-2.found ≡ filter (λ o. is_among o c.in_ok-others.others) c.loop-sought.found = search rules in
    let others = c.in_ok-others.ensures ∙ ap (found_by c.args.indexes.now) c.sought-item.is in
    left_step c.args.indexes.now c.args.further.now c.loop-sought.sought-index c.sought-item.result c.loop-sought.found c.in_ok-others.others c.in_ok-found-2.found (found_by_all c.args.indexes.now c.args.first.now c.args.further.now) (omega arith) others new c.loop-sought.invariant

pub returns : goal.returns
returns c =
    let past : length c.args.further.now ≤ c.loop-sought.sought-index = omega arith in
    left_end c.args.indexes.now c.args.further.now c.loop-sought.sought-index c.loop-sought.found (found_by_all c.args.indexes.now c.args.first.now c.args.further.now) past c.loop-sought.invariant
