use Rattle.std.proofs.Common.{◌≡◌, List, [], ◌∷◌, ◌++◌, true, subst}
use Rattle.std.specs.Prelude.{if◌then◌else◌}
use Rattle.zbase.specs.Faults.{Counts}
use Rattle.connection.specs.Telling.{tells_then}
use Rattle.txn_core.specs.declared.slot.Slot.{Slot}
use Rattle.txn_core.specs.Slots.{Closes, Closing}
use Rattle.txn_core.proofs.Endings.{can_end, closes_on, closing_popped, counts_on}
use Rattle.txn_core.proofs.closing.end_slots.Goals as goal

pub end_slot-requires : goal.end_slot-requires
end_slot-requires g c =
    can_end {E = g.row.E.Denot} {R = g.row.E-Request.Denot} {S = g.row.E-State.Denot} c.loop-slot.store c.pop.new.self.items c.in-Some.slot
    (subst (λ (k : List (Slot g.row.E.Denot g.row.E-Request.Denot g.row.E-State.Denot)). Closing c.loop-slot.store k) c.in-Some.ensures.items c.loop-slot.invariant.left)

pub loop-slot-preserved-then-end_slot : goal.loop-slot-preserved-then-end_slot
loop-slot-preserved-then-end_slot g c =
    let left : Closing c.loop-slot.store (c.pop.new.self.items ++ c.in-Some.slot ∷ []) = subst (λ (k : List (Slot g.row.E.Denot g.row.E-Request.Denot g.row.E-State.Denot)). Closing c.loop-slot.store k) c.in-Some.ensures.items c.loop-slot.invariant.left in
    record {
      left = closing_popped {E = g.row.E.Denot} {R = g.row.E-Request.Denot} {S = g.row.E-State.Denot} c.loop-slot.store c.end_slot.new.store c.pop.new.self.items c.in-Some.slot c.end_slot.result c.end_slot.ensures.ended left;
      tells = tells_then c.args.store.now.disk.told c.loop-slot.store.disk.told c.end_slot.new.store.disk.told c.loop-slot.invariant.tells c.end_slot.ensures.tells;
      closes = subst (λ f. Closes c.args.store.now (if f then true else c.loop-slot.fault) c.end_slot.new.store) c.if-end_slot.true (closes_on {E = g.row.E.Denot} {R = g.row.E-Request.Denot} {S = g.row.E-State.Denot} c.args.store.now c.loop-slot.store c.end_slot.new.store c.pop.new.self.items c.in-Some.slot c.end_slot.result c.loop-slot.fault left c.loop-slot.invariant.closes c.end_slot.ensures.ended);
      counts = subst (λ f. Counts c.args.store.now.disk.counter c.end_slot.new.store.disk.counter ((if f then true else c.loop-slot.fault) ≡ true)) c.if-end_slot.true (counts_on {E = g.row.E.Denot} {R = g.row.E-Request.Denot} {S = g.row.E-State.Denot} c.args.store.now c.loop-slot.store c.end_slot.new.store c.pop.new.self.items c.in-Some.slot c.end_slot.result c.loop-slot.fault left c.loop-slot.invariant.closes c.end_slot.ensures.ended c.loop-slot.invariant.counts c.end_slot.ensures.counts);
    }

pub loop-slot-preserved : goal.loop-slot-preserved
loop-slot-preserved g c =
    let left : Closing c.loop-slot.store (c.pop.new.self.items ++ c.in-Some.slot ∷ []) = subst (λ (k : List (Slot g.row.E.Denot g.row.E-Request.Denot g.row.E-State.Denot)). Closing c.loop-slot.store k) c.in-Some.ensures.items c.loop-slot.invariant.left in
    record {
      left = closing_popped {E = g.row.E.Denot} {R = g.row.E-Request.Denot} {S = g.row.E-State.Denot} c.loop-slot.store c.end_slot.new.store c.pop.new.self.items c.in-Some.slot c.end_slot.result c.end_slot.ensures.ended left;
      tells = tells_then c.args.store.now.disk.told c.loop-slot.store.disk.told c.end_slot.new.store.disk.told c.loop-slot.invariant.tells c.end_slot.ensures.tells;
      closes = subst (λ f. Closes c.args.store.now (if f then true else c.loop-slot.fault) c.end_slot.new.store) c.if-end_slot.false (closes_on {E = g.row.E.Denot} {R = g.row.E-Request.Denot} {S = g.row.E-State.Denot} c.args.store.now c.loop-slot.store c.end_slot.new.store c.pop.new.self.items c.in-Some.slot c.end_slot.result c.loop-slot.fault left c.loop-slot.invariant.closes c.end_slot.ensures.ended);
      counts = subst (λ f. Counts c.args.store.now.disk.counter c.end_slot.new.store.disk.counter ((if f then true else c.loop-slot.fault) ≡ true)) c.if-end_slot.false (counts_on {E = g.row.E.Denot} {R = g.row.E-Request.Denot} {S = g.row.E-State.Denot} c.args.store.now c.loop-slot.store c.end_slot.new.store c.pop.new.self.items c.in-Some.slot c.end_slot.result c.loop-slot.fault left c.loop-slot.invariant.closes c.end_slot.ensures.ended c.loop-slot.invariant.counts c.end_slot.ensures.counts);
    }
