use Rattle.std.proofs.Common.{◌≡◌, Some, sym, ◌∙◌, slice_get, refl}
use Rattle.txn_core.specs.declared.slot.Slot.{Slot}
use Rattle.txn_core.proofs.Lists.{read_here, set_other}
use Rattle.txn_core.proofs.Cores.{given_stands, given_follows, some_same}
use Rattle.txn_core.proofs.workers.Core.give.Goals as goal

pub invariant_of-self : goal.invariant_of-self
invariant_of-self g c =
    let here = rw c.in-Idle-idle.is at (read_here c.self.inside.slots.items 16 c.args.worker c.replace-idle.result c.index_mut.result.now (sym c.self.invariant.count) c.requires.worker c.replace-idle.ensures.value c.index_mut.ensures.value) in
    rw (c.replace-idle.ensures.after, c.new-fresh.ensures) (given_stands g.E.Evaluator.meaning c.args.worker c.self.inside.store c.self.inside.slots.items c.args.request here c.self.invariant)

pub returns-in_default : goal.returns-in_default
returns-in_default g c =
    let there : slice_get c.self.inside.slots.items c.args.worker ≡ Some c.index.result.now = read_here c.self.inside.slots.items 16 c.args.worker c.index.result.now c.index.result.now (sym c.self.invariant.count) c.requires.worker refl c.index.ensures in
    record {
      idle = tt;
      taken = rw (← c.self.view_is) (λ idle. c.in_default.not-Idle (some_same c.index.result.now (let idle_slot : Slot g.row.E.Denot g.row.E-Request.Denot g.row.E-State.Denot = Slot.Idle in idle_slot) (sym there ∙ idle)));
      given = tt;
      store = refl;
      left = tt;
      others = λ v other. refl;
      back = (refl, refl);
    }

pub returns-clause-given : goal.returns-clause-given
returns-clause-given g c =
    let here = rw c.in-Idle-idle.is at (read_here c.self.inside.slots.items 16 c.args.worker c.replace-idle.result c.index_mut.result.now (sym c.self.invariant.count) c.requires.worker c.replace-idle.ensures.value c.index_mut.ensures.value) in
    rw (← c.self.view_is) (λ terms now bytes takes. rw (c.replace-idle.ensures.after, c.new-fresh.ensures) (given_follows g.E.Evaluator.meaning c.args.worker c.self.inside.store c.self.inside.slots.items c.args.request here c.self.invariant terms now bytes takes))

pub returns-clause-idle : goal.returns-clause-idle
returns-clause-idle g c =
    let here = rw c.in-Idle-idle.is at (read_here c.self.inside.slots.items 16 c.args.worker c.replace-idle.result c.index_mut.result.now (sym c.self.invariant.count) c.requires.worker c.replace-idle.ensures.value c.index_mut.ensures.value) in
    rw (← c.self.view_is) here

pub returns-clause-others : goal.returns-clause-others
returns-clause-others g c = λ v other. rw (← c.self.view_is) (set_other c.replace-idle.new.dest c.self.inside.slots.items c.args.worker v other)
