use Rattle.std.proofs.Common.{length, refl}
use Rattle.connection.specs.States.{ActiveView}
use Rattle.fs_store.specs.Stores.{idle}
use Rattle.connection.specs.Telling.{tells_back, tells_forth}
use Rattle.txn_core.specs.Counting.{further_steps}
use Rattle.txn_core.specs.declared.slot.Slot.{Slot}
use Rattle.txn_core.specs.declared.step_line.StepLine.{StepLine}
use Rattle.txn_core.proofs.Arms.{busy, conflicting, given_up, spends, troubled, voted}
use Rattle.txn_core.proofs.QuietArms.{memory_moves, stands_moves, vote_fault_moves}
use Rattle.txn_core.proofs.Steadiness.{settles_fresh, stands_fresh, Carries, grows_loses, grows_settles, grows_stands}
use Rattle.txn_core.proofs.Voting.{computed_busy, ends_lower, ready_draft}
use Rattle.txn_core.proofs.advancing.vote.Goals as goal

pub vote-requires-clause-ready : goal.vote-requires-clause-ready
vote-requires-clause-ready g c = ready_draft g.E.Evaluator.meaning g.E.Evaluator.takes c.args.store.now c.args.active g.met.E.Evaluator.changes c.is_sound-2.ensures.taken c.requires.stands

pub returns-in-Ok-clause-advances : goal.returns-in-Ok-clause-advances
returns-in-Ok-clause-advances g c =
    let t = c.in-Ok.ensures.voted in
    let carries : Carries c.args.store.now c.vote.new.store = record { tells = tells_forth c.args.store.now.disk.told c.vote.new.store.disk.told c.vote.ensures.tells; told = tells_back c.args.store.now.disk.told c.vote.new.store.disk.told c.vote.ensures.tells; seen = c.vote.ensures.seen; grows = λ told. grows_settles c.args.store.now (idle c.vote.new.store) (t.3.settles told) (c.is_sound.ensures.history told) (c.is_sound.ensures.later_undecided told) } in
    voted {E = g.row.E.Denot} {R = g.row.E-Request.Denot} {S = g.row.E-State.Denot} g.E.Evaluator.meaning c.args.worker c.args.now c.args.store.now c.vote.new.store c.args.active t.0 t.1 c.in-Ok.pending c.tid-tid.result carries c.requires.stands t.2 t.3 c.tid-tid.ensures

pub returns-in-Err-Busy-clause-advances : goal.returns-in-Err-Busy-clause-advances
returns-in-Err-Busy-clause-advances g c =
    let t = rw c.in-Err-Busy.field-0-is at c.in-Err-Busy.ensures.refused in
    let carries : Carries c.args.store.now c.vote.new.store = record { tells = tells_forth c.args.store.now.disk.told c.vote.new.store.disk.told c.vote.ensures.tells; told = tells_back c.args.store.now.disk.told c.vote.new.store.disk.told c.vote.ensures.tells; seen = c.vote.ensures.seen; grows = λ told. grows_settles c.args.store.now c.vote.new.store ((t.3.2 told).0) (c.is_sound.ensures.history told) (c.is_sound.ensures.later_undecided told) } in
    busy {E = g.row.E.Denot} {R = g.row.E-Request.Denot} {S = g.row.E-State.Denot} g.E.Evaluator.meaning c.args.worker c.args.now c.args.store.now c.vote.new.store c.args.active c.in-Err-Busy.active t.0 t.1 c.in-Err-Busy.holder carries c.in-Err-Busy.ensures.kept c.requires.stands t.2 t.3.0 t.3.1 t.3.2

pub returns-in-Err-Conflict-clause-advances : goal.returns-in-Err-Conflict-clause-advances
returns-in-Err-Conflict-clause-advances g c =
    let t = rw c.in-Err-Conflict.field-0-is at c.in-Err-Conflict.ensures.refused in
    let carries : Carries c.args.store.now c.vote.new.store = record { tells = tells_forth c.args.store.now.disk.told c.vote.new.store.disk.told c.vote.ensures.tells; told = tells_back c.args.store.now.disk.told c.vote.new.store.disk.told c.vote.ensures.tells; seen = c.vote.ensures.seen; grows = λ told. grows_settles c.args.store.now c.vote.new.store ((t.3.3 told).0) (c.is_sound.ensures.history told) (c.is_sound.ensures.later_undecided told) } in
    conflicting {E = g.row.E.Denot} {R = g.row.E-Request.Denot} {S = g.row.E-State.Denot} g.E.Evaluator.meaning c.args.worker c.args.now c.args.store.now c.vote.new.store c.args.active c.in-Err-Conflict.fresh t.0 t.1 c.in-Err-Conflict.clash carries c.in-Err-Conflict.ensures.kept t.2 t.3.0 t.3.1 t.3.2 t.3.3

pub returns-in-Err-GivenUp-clause-advances : goal.returns-in-Err-GivenUp-clause-advances
returns-in-Err-GivenUp-clause-advances g c =
    let t = rw c.in-Err-GivenUp.field-0-is at c.in-Err-GivenUp.ensures.refused in
    let carries : Carries c.args.store.now c.vote.new.store = record { tells = tells_forth c.args.store.now.disk.told c.vote.new.store.disk.told c.vote.ensures.tells; told = tells_back c.args.store.now.disk.told c.vote.new.store.disk.told c.vote.ensures.tells; seen = c.vote.ensures.seen; grows = λ told. grows_settles c.args.store.now c.vote.new.store ((t.3.3 told).0) (c.is_sound.ensures.history told) (c.is_sound.ensures.later_undecided told) } in
    given_up {E = g.row.E.Denot} {R = g.row.E-Request.Denot} {S = g.row.E-State.Denot} g.E.Evaluator.meaning c.args.worker c.args.now c.args.store.now c.vote.new.store c.args.active t.0 t.1 c.in-Err-GivenUp.clashes t.3.0 carries c.in-Err-GivenUp.ensures.kept t.2 t.3.1 t.3.2 t.3.3

pub returns-in-Err-Spent-clause-advances : goal.returns-in-Err-Spent-clause-advances
returns-in-Err-Spent-clause-advances g c =
    let t = rw c.in-Err-Spent.field-0-is at c.in-Err-Spent.ensures.refused in
    let carries : Carries c.args.store.now c.vote.new.store = record { tells = tells_forth c.args.store.now.disk.told c.vote.new.store.disk.told c.vote.ensures.tells; told = tells_back c.args.store.now.disk.told c.vote.new.store.disk.told c.vote.ensures.tells; seen = c.vote.ensures.seen; grows = λ told. grows_settles c.args.store.now c.vote.new.store ((t.3.1 told).0) (c.is_sound.ensures.history told) (c.is_sound.ensures.later_undecided told) } in
    spends {E = g.row.E.Denot} {R = g.row.E-Request.Denot} {S = g.row.E-State.Denot} g.E.Evaluator.meaning c.args.worker c.args.now c.args.store.now c.vote.new.store c.args.active t.0 t.1 c.in-Err-Spent.spent carries c.in-Err-Spent.ensures.kept t.2 t.3.1

pub returns-in-Err-Disk-clause-advances : goal.returns-in-Err-Disk-clause-advances
returns-in-Err-Disk-clause-advances g c =
    let t = rw c.in-Err-Disk.field-0-is at c.in-Err-Disk.ensures.refused in
    let carries : Carries c.args.store.now c.vote.new.store = record { tells = tells_forth c.args.store.now.disk.told c.vote.new.store.disk.told c.vote.ensures.tells; told = tells_back c.args.store.now.disk.told c.vote.new.store.disk.told c.vote.ensures.tells; seen = c.vote.ensures.seen; grows = λ told. grows_loses c.args.store.now c.vote.new.store (t.3.2 told) (c.is_sound.ensures.history told) (c.is_sound.ensures.later_undecided told) } in
    troubled {E = g.row.E.Denot} {R = g.row.E-Request.Denot} {S = g.row.E-State.Denot} g.E.Evaluator.meaning c.args.worker c.args.now c.args.store.now c.vote.new.store (Slot.Computed c.args.active) StepLine.DiskFault carries c.in-Err-Disk.ensures.kept (λ k. k) (tt, refl) (ends_lower (further_steps (length (let a : ActiveView _ = c.args.active in a).attempt.clashes))) (λ k. k) tt tt (λ told. tt)
    (λ told. vote_fault_moves {E = g.row.E.Denot} {R = g.row.E-Request.Denot} {S = g.row.E-State.Denot} g.E.Evaluator.meaning c.args.worker c.args.now c.args.store.now c.vote.new.store (Slot.Computed c.args.active) (t.3.2 told) t.3.1 (λ k. k) (computed_busy c.args.active))

pub returns-in-Err-Memory-clause-advances : goal.returns-in-Err-Memory-clause-advances
returns-in-Err-Memory-clause-advances g c =
    let t = rw c.in-Err-Memory.field-0-is at c.in-Err-Memory.ensures.refused in
    let carries : Carries c.args.store.now c.vote.new.store = record { tells = tells_forth c.args.store.now.disk.told c.vote.new.store.disk.told c.vote.ensures.tells; told = tells_back c.args.store.now.disk.told c.vote.new.store.disk.told c.vote.ensures.tells; seen = c.vote.ensures.seen; grows = λ told. grows_stands c.args.store.now c.vote.new.store (t.3.2 told) (c.is_sound.ensures.history told) (c.is_sound.ensures.later_undecided told) } in
    troubled {E = g.row.E.Denot} {R = g.row.E-Request.Denot} {S = g.row.E-State.Denot} g.E.Evaluator.meaning c.args.worker c.args.now c.args.store.now c.vote.new.store (Slot.Computed c.args.active) StepLine.Memory carries c.in-Err-Memory.ensures.kept (λ k. k) (tt, refl) (ends_lower (further_steps (length (let a : ActiveView _ = c.args.active in a).attempt.clashes))) (λ k. k) tt tt (λ told. tt)
    (λ told. stands_moves {E = g.row.E.Denot} {R = g.row.E-Request.Denot} {S = g.row.E-State.Denot} g.E.Evaluator.meaning c.args.worker c.args.now c.args.store.now c.vote.new.store (Slot.Computed c.args.active) StepLine.Memory (t.3.2 told)
    (λ st rests. memory_moves {E = g.row.E.Denot} {R = g.row.E-Request.Denot} {S = g.row.E-State.Denot} g.E.Evaluator.meaning c.args.worker c.args.now st c.vote.new.store (Slot.Computed c.args.active) rests (λ k. k) (computed_busy c.args.active)))

pub returns-in-Ok-clause-calm : goal.returns-in-Ok-clause-calm
returns-in-Ok-clause-calm g c = λ told calm fresh. settles_fresh c.args.store.now (idle c.vote.new.store) (c.in-Ok.ensures.voted.3.settles told)

pub returns-in-Err-Busy-clause-calm : goal.returns-in-Err-Busy-clause-calm
returns-in-Err-Busy-clause-calm g c =
    let t = rw c.in-Err-Busy.field-0-is at c.in-Err-Busy.ensures.refused in
    λ told calm fresh. settles_fresh c.args.store.now c.vote.new.store ((t.3.2 told).0)

pub returns-in-Err-Conflict-clause-calm : goal.returns-in-Err-Conflict-clause-calm
returns-in-Err-Conflict-clause-calm g c =
    let t = rw c.in-Err-Conflict.field-0-is at c.in-Err-Conflict.ensures.refused in
    λ told calm fresh. settles_fresh c.args.store.now c.vote.new.store ((t.3.3 told).0)

pub returns-in-Err-GivenUp-clause-calm : goal.returns-in-Err-GivenUp-clause-calm
returns-in-Err-GivenUp-clause-calm g c =
    let t = rw c.in-Err-GivenUp.field-0-is at c.in-Err-GivenUp.ensures.refused in
    λ told calm fresh. settles_fresh c.args.store.now c.vote.new.store ((t.3.3 told).0)

pub returns-in-Err-Spent-clause-calm : goal.returns-in-Err-Spent-clause-calm
returns-in-Err-Spent-clause-calm g c =
    let t = rw c.in-Err-Spent.field-0-is at c.in-Err-Spent.ensures.refused in
    λ told calm fresh. settles_fresh c.args.store.now c.vote.new.store ((t.3.1 told).0)

pub returns-in-Err-Disk-clause-calm : goal.returns-in-Err-Disk-clause-calm
returns-in-Err-Disk-clause-calm g c = λ told calm fresh. absurd (calm tt)

pub returns-in-Err-Memory-clause-calm : goal.returns-in-Err-Memory-clause-calm
returns-in-Err-Memory-clause-calm g c =
    let t = rw c.in-Err-Memory.field-0-is at c.in-Err-Memory.ensures.refused in
    λ told calm fresh. stands_fresh c.args.store.now c.vote.new.store (t.3.2 told) fresh
