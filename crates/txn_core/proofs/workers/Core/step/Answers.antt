use Rattle.std.proofs.Common.{◌≡◌, Some, sym, slice_get}
use Rattle.std.proofs.lemmas.Option.{slice_get_read}
use Rattle.txn_core.proofs.Lists.{set_other, set_twice}
use Rattle.txn_core.proofs.Cores.{step_asked, step_ends, step_finishes, step_follows, step_lowers, step_paces, step_passes, step_waits}
use Rattle.txn_core.proofs.workers.Core.step.Goals as goal

pub advance-next-requires : goal.advance-next-requires
advance-next-requires g c =
    let here : slice_get c.self.inside.slots.items c.args.worker ≡ Some c.replace-slot.result =
    slice_get_read c.self.inside.slots.items 16 c.args.worker c.replace-slot.result (sym c.self.invariant.count) c.requires (rw c.replace-slot.ensures.value c.index_mut.ensures.value) in
    c.self.invariant.each c.args.worker c.replace-slot.result here

pub invariant_of-self : goal.invariant_of-self
invariant_of-self g c =
    let here : slice_get c.self.inside.slots.items c.args.worker ≡ Some c.replace-slot.result =
    slice_get_read c.self.inside.slots.items 16 c.args.worker c.replace-slot.result (sym c.self.invariant.count) c.requires (rw c.replace-slot.ensures.value c.index_mut.ensures.value) in
    rw (set_twice, c.replace-idle.ensures.after) (c.advance-next.ensures.advances.stands c.self.inside.slots.items here c.self.invariant)

pub returns-clause-step : goal.returns-clause-step
returns-clause-step g c =
    let here : slice_get c.self.inside.slots.items c.args.worker ≡ Some c.replace-slot.result =
    slice_get_read c.self.inside.slots.items 16 c.args.worker c.replace-slot.result (sym c.self.invariant.count) c.requires (rw c.replace-slot.ensures.value c.index_mut.ensures.value) in
    rw (← c.self.view_is) (λ told terms same limit. rw (set_twice, c.replace-idle.ensures.after)
    (step_follows g.E.Evaluator.meaning c.args.worker c.args.now c.self.inside.store c.advance-next.new.store c.replace-slot.result c.advance-next.result.0 c.advance-next.result.1 c.self.inside.slots.items c.advance-next.ensures.advances here c.self.invariant told terms same limit))

pub returns-clause-passes : goal.returns-clause-passes
returns-clause-passes g c =
    let here : slice_get c.self.inside.slots.items c.args.worker ≡ Some c.replace-slot.result =
    slice_get_read c.self.inside.slots.items 16 c.args.worker c.replace-slot.result (sym c.self.invariant.count) c.requires (rw c.replace-slot.ensures.value c.index_mut.ensures.value) in
    rw (← c.self.view_is) (rw (set_twice, c.replace-idle.ensures.after) (step_passes g.E.Evaluator.meaning c.args.worker c.args.now c.self.inside.store c.advance-next.new.store c.replace-slot.result c.advance-next.result.0 c.advance-next.result.1 c.self.inside.slots.items c.advance-next.ensures.advances here))

pub returns-clause-left : goal.returns-clause-left
returns-clause-left g c =
    let here : slice_get c.self.inside.slots.items c.args.worker ≡ Some c.replace-slot.result =
    slice_get_read c.self.inside.slots.items 16 c.args.worker c.replace-slot.result (sym c.self.invariant.count) c.requires (rw c.replace-slot.ensures.value c.index_mut.ensures.value) in
    rw (← c.self.view_is) (rw (set_twice, c.replace-idle.ensures.after) (step_lowers g.E.Evaluator.meaning c.args.worker c.args.now c.self.inside.store c.advance-next.new.store c.replace-slot.result c.advance-next.result.0 c.advance-next.result.1 c.self.inside.slots.items c.advance-next.ensures.advances here))

pub returns-clause-paces : goal.returns-clause-paces
returns-clause-paces g c =
    let here : slice_get c.self.inside.slots.items c.args.worker ≡ Some c.replace-slot.result =
    slice_get_read c.self.inside.slots.items 16 c.args.worker c.replace-slot.result (sym c.self.invariant.count) c.requires (rw c.replace-slot.ensures.value c.index_mut.ensures.value) in
    rw (← c.self.view_is) (rw (set_twice, c.replace-idle.ensures.after) (step_paces g.E.Evaluator.meaning c.args.worker c.args.now c.self.inside.store c.advance-next.new.store c.replace-slot.result c.advance-next.result.0 c.advance-next.result.1 c.self.inside.slots.items c.advance-next.ensures.advances here))

pub returns-clause-asked : goal.returns-clause-asked
returns-clause-asked g c =
    let here : slice_get c.self.inside.slots.items c.args.worker ≡ Some c.replace-slot.result =
    slice_get_read c.self.inside.slots.items 16 c.args.worker c.replace-slot.result (sym c.self.invariant.count) c.requires (rw c.replace-slot.ensures.value c.index_mut.ensures.value) in
    rw (← c.self.view_is) (step_asked g.E.Evaluator.meaning c.args.worker c.args.now c.self.inside.store c.advance-next.new.store c.replace-slot.result c.advance-next.result.0 c.advance-next.result.1 c.self.inside.slots.items c.advance-next.ensures.advances here)

pub returns-clause-waits : goal.returns-clause-waits
returns-clause-waits g c =
    rw (← c.self.view_is) (step_waits g.E.Evaluator.meaning c.args.worker c.args.now c.self.inside.store c.advance-next.new.store c.replace-slot.result c.advance-next.result.0 c.advance-next.result.1 c.self.inside.slots.items c.advance-next.ensures.advances c.self.invariant)

pub returns-clause-ends : goal.returns-clause-ends
returns-clause-ends g c =
    let here : slice_get c.self.inside.slots.items c.args.worker ≡ Some c.replace-slot.result =
    slice_get_read c.self.inside.slots.items 16 c.args.worker c.replace-slot.result (sym c.self.invariant.count) c.requires (rw c.replace-slot.ensures.value c.index_mut.ensures.value) in
    rw (← c.self.view_is) (λ p voted. rw (set_twice, c.replace-idle.ensures.after) (step_ends g.E.Evaluator.meaning c.args.worker c.args.now c.self.inside.store c.advance-next.new.store c.replace-slot.result c.advance-next.result.0 c.advance-next.result.1 c.self.inside.slots.items c.advance-next.ensures.advances here p voted))

pub returns-clause-finishes : goal.returns-clause-finishes
returns-clause-finishes g c =
    let here : slice_get c.self.inside.slots.items c.args.worker ≡ Some c.replace-slot.result =
    slice_get_read c.self.inside.slots.items 16 c.args.worker c.replace-slot.result (sym c.self.invariant.count) c.requires (rw c.replace-slot.ensures.value c.index_mut.ensures.value) in
    rw (← c.self.view_is) (step_finishes g.E.Evaluator.meaning c.args.worker c.args.now c.self.inside.store c.advance-next.new.store c.replace-slot.result c.advance-next.result.0 c.advance-next.result.1 c.self.inside.slots.items c.advance-next.ensures.advances here)

pub returns-clause-others : goal.returns-clause-others
returns-clause-others g c = λ v other. rw (← c.self.view_is) (rw set_twice (set_other c.replace-idle.new.dest c.self.inside.slots.items c.args.worker v other))

pub returns-clause-twice : goal.returns-clause-twice
returns-clause-twice g c = rw (← c.self.view_is) c.advance-next.ensures.twice

pub returns-clause-fresh : goal.returns-clause-fresh
returns-clause-fresh g c = c.advance-next.ensures.fresh

pub returns-clause-tells : goal.returns-clause-tells
returns-clause-tells g c = rw (← c.self.view_is) c.advance-next.ensures.tells

pub returns-clause-calm : goal.returns-clause-calm
returns-clause-calm g c = rw (← c.self.view_is) c.advance-next.ensures.calm

pub returns-clause-any_moment : goal.returns-clause-any_moment
returns-clause-any_moment g c = rw (← c.self.view_is) c.advance-next.ensures.any_moment
