use Rattle.std.proofs.Common.{◌∷◌, [], ◌++◌, ◌∙◌, ap, append_assoc}
use Rattle.replay.proofs.InOrder.{one_placed}
use Rattle.replay.proofs.printing.lines_by_oid.Goals as goal

pub placing-preserved : goal.placing-preserved
placing-preserved c =
    let placed = c.placing.invariant.placed in
    let split = placed.1 ∙ ap (λ left. left ++ placed.0) c.in-Some.ensures.items ∙ append_assoc c.pop.new.self.items (c.in-Some.one ∷ []) placed.0 in
    record { placed = (c.in-Some.one ∷ placed.0, split, one_placed c.args.worker c.args.shown c.pop.new.self.items placed.0 c.in-Some.one _ _ split c.requires.distinct placed.2 c.in_ok-place.ensures) }
