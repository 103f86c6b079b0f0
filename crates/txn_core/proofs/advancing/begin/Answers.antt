use Rattle.std.proofs.Common.{ap, refl, ◌∙◌}
use Rattle.fs_store.specs.Stores.{StoreView}
use Rattle.connection.specs.States.{FreshView}
use Rattle.connection.specs.Telling.{tells_back, tells_forth}
use Rattle.txn_core.specs.declared.slot.Slot.{Slot}
use Rattle.txn_core.specs.declared.step_line.StepLine.{StepLine}
use Rattle.txn_core.proofs.Arms.{began, troubled}
use Rattle.txn_core.proofs.QuietArms.{fault_moves, fresh_left, memory_moves}
use Rattle.txn_core.proofs.Steadiness.{Carries, grows_same, grows_settles, rests_over}
use Rattle.txn_core.proofs.advancing.begin.Goals as goal

pub returns-in-Ok-clause-advances : goal.returns-in-Ok-clause-advances
returns-in-Ok-clause-advances g c =
    let carries : Carries c.args.store.now c.begin.new.store = record { tells = tells_forth c.args.store.now.disk.told c.begin.new.store.disk.told c.begin.ensures.tells; told = tells_back c.args.store.now.disk.told c.begin.new.store.disk.told c.begin.ensures.tells; seen = c.begin.ensures.seen; grows = λ told. grows_settles c.args.store.now c.begin.new.store (c.in-Ok.ensures.settled told) (c.is_sound.ensures.history told) (c.is_sound.ensures.later_undecided told) } in
    began {E = g.row.E.Denot} {R = g.row.E-Request.Denot} {S = g.row.E-State.Denot} g.E.Evaluator.meaning c.args.worker c.args.now c.args.store.now c.begin.new.store c.args.fresh c.in-Ok.active c.snapshot-snapshot.result carries c.begin.ensures.out c.in-Ok.ensures.settled c.in-Ok.ensures.began c.in-Ok.ensures.snapshot c.snapshot-snapshot.ensures

pub returns-in-Err-Disk-default-clause-advances : goal.returns-in-Err-Disk-default-clause-advances
returns-in-Err-Disk-default-clause-advances g c =
    let same = c.in-Err-Disk-default.ensures.stands in
    let carries : Carries c.args.store.now c.begin.new.store = record { tells = tells_forth c.args.store.now.disk.told c.begin.new.store.disk.told c.begin.ensures.tells; told = tells_back c.args.store.now.disk.told c.begin.new.store.disk.told c.begin.ensures.tells; seen = c.begin.ensures.seen; grows = λ told. grows_same c.args.store.now.history c.begin.new.store.history (ap (λ (s : StoreView). s.history) same) } in
    troubled {E = g.row.E.Denot} {R = g.row.E-Request.Denot} {S = g.row.E-State.Denot} g.E.Evaluator.meaning c.args.worker c.args.now c.args.store.now c.begin.new.store (Slot.Fresh c.args.fresh) StepLine.DiskFault carries c.begin.ensures.out (λ k. k) (tt, refl) (fresh_left (let f : FreshView _ = c.args.fresh in f).conflicts) (λ k. k) tt tt (λ told. tt)
    (λ told. fault_moves {E = g.row.E.Denot} {R = g.row.E-Request.Denot} {S = g.row.E-State.Denot} g.E.Evaluator.meaning c.args.worker c.args.now c.args.store.now c.begin.new.store (Slot.Fresh c.args.fresh) (rests_over c.args.store.now c.begin.new.store same) (λ k. k) refl)

pub returns-in-Err-Memory-default-clause-advances : goal.returns-in-Err-Memory-default-clause-advances
returns-in-Err-Memory-default-clause-advances g c =
    let same = c.in-Err-Memory-default.ensures.stands in
    let carries : Carries c.args.store.now c.begin.new.store = record { tells = tells_forth c.args.store.now.disk.told c.begin.new.store.disk.told c.begin.ensures.tells; told = tells_back c.args.store.now.disk.told c.begin.new.store.disk.told c.begin.ensures.tells; seen = c.begin.ensures.seen; grows = λ told. grows_same c.args.store.now.history c.begin.new.store.history (ap (λ (s : StoreView). s.history) same) } in
    troubled {E = g.row.E.Denot} {R = g.row.E-Request.Denot} {S = g.row.E-State.Denot} g.E.Evaluator.meaning c.args.worker c.args.now c.args.store.now c.begin.new.store (Slot.Fresh c.args.fresh) StepLine.Memory carries c.begin.ensures.out (λ k. k) (tt, refl) (fresh_left (let f : FreshView _ = c.args.fresh in f).conflicts) (λ k. k) tt tt (λ told. tt)
    (λ told. memory_moves {E = g.row.E.Denot} {R = g.row.E-Request.Denot} {S = g.row.E-State.Denot} g.E.Evaluator.meaning c.args.worker c.args.now c.args.store.now c.begin.new.store (Slot.Fresh c.args.fresh) (rests_over c.args.store.now c.begin.new.store same) (λ k. k) refl)

pub returns-in-Ok-clause-calm : goal.returns-in-Ok-clause-calm
returns-in-Ok-clause-calm g c = λ told calm fresh. c.in-Ok.ensures.fresh

pub returns-in-Err-Disk-default-clause-calm : goal.returns-in-Err-Disk-default-clause-calm
returns-in-Err-Disk-default-clause-calm g c = λ told calm fresh. absurd (calm tt)

pub returns-in-Err-Memory-default-clause-calm : goal.returns-in-Err-Memory-default-clause-calm
returns-in-Err-Memory-default-clause-calm g c = λ told calm fresh. ap (λ (s : StoreView). s.stale) c.in-Err-Memory-default.ensures.stands ∙ fresh
