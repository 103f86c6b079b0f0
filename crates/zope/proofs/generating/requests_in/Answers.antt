use Rattle.std.proofs.Common.{◌≡◌, ◌+◌, ◌∷◌, ◌++◌, ◌∙◌, [], ap, sym, take}
use Rattle.std.proofs.lemmas.List.{take_more}
use Rattle.report_tally.specs.Tallies.{capped}
use Rattle.zope.specs.Drawn.{requests_in}
use Rattle.zope.proofs.Drawing.{one_item}
use Rattle.zope.proofs.generating.requests_in.Goals as goal

pub loop-item-preserved : goal.loop-item-preserved
loop-item-preserved c =
    let items = c.args.items.now in
    let i = c.loop-item.item-index in
    let item = c.item-item.result in
    let more : take i items ++ item ∷ [] ≡ take (i + 1) items = sym (take_more items i item c.loop-item-test.true ∙ ap (λ x. take i items ++ x ∷ []) (sym c.item-item.is)) in
    c.one_more-count.ensures ∙ one_item (take i items) item c.loop-item.count c.loop-item.invariant ∙ ap (λ xs. capped (requests_in xs)) more
