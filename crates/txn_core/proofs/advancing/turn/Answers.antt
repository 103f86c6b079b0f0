use Rattle.std.proofs.Common.{ap, refl, ◌∙◌}
use Rattle.fs_store.specs.Stores.{StoreView}
use Rattle.connection.specs.Telling.{tells_back, tells_forth}
use Rattle.txn_core.specs.declared.slot.Slot.{Slot}
use Rattle.txn_core.specs.declared.step_line.StepLine.{StepLine}
use Rattle.txn_core.proofs.Arms.{answered, computed, fetched, troubled}
use Rattle.txn_core.proofs.QuietArms.{active_left, fault_moves, memory_moves, stands_moves}
use Rattle.txn_core.proofs.Steadiness.{settles_fresh, stands_fresh, Carries, grows_same, grows_settles, grows_stands}
use Rattle.txn_core.proofs.Voting.{read_reply}
use Rattle.txn_core.proofs.advancing.turn.Goals as goal

pub returns-in-Ok-Fetched-clause-advances : goal.returns-in-Ok-Fetched-clause-advances
returns-in-Ok-Fetched-clause-advances g c =
    let t = rw c.in-Ok-Fetched.field-0-is at c.in-Ok-Fetched.ensures.turned in
    let reads = rw c.in-Ok-Fetched.field-0-is at c.in-Ok-Fetched.ensures.reads in
    let settles = rw c.in-Ok-Fetched.field-0-is at c.in-Ok-Fetched.ensures.store in
    let carries : Carries c.args.store.now c.turn.new.store = record { tells = tells_forth c.args.store.now.disk.told c.turn.new.store.disk.told c.turn.ensures.tells; told = tells_back c.args.store.now.disk.told c.turn.new.store.disk.told c.turn.ensures.tells; seen = c.turn.ensures.seen; grows = λ told. grows_settles c.args.store.now c.turn.new.store (settles told) (c.is_sound.ensures.history told) (c.is_sound.ensures.later_undecided told) } in
    fetched {E = g.row.E.Denot} {R = g.row.E-Request.Denot} {S = g.row.E-State.Denot} g.E.Evaluator.meaning c.args.worker c.args.now c.args.store.now c.turn.new.store c.args.active c.in-Ok-Fetched.active c.in-Ok-Fetched.ask carries c.turn.ensures.out settles c.requires.stands t.0 t.1 t.2 t.3 reads c.is_sound-in-Ok-Fetched.ensures.few

pub returns-in-Ok-Answered-clause-advances : goal.returns-in-Ok-Answered-clause-advances
returns-in-Ok-Answered-clause-advances g c =
    let t = rw c.in-Ok-Answered.field-0-is at c.in-Ok-Answered.ensures.turned in
    let same = rw c.in-Ok-Answered.field-0-is at c.in-Ok-Answered.ensures.store in
    let asks = rw c.in-Ok-Answered.field-0-is at c.in-Ok-Answered.ensures.asked in
    let carries : Carries c.args.store.now c.turn.new.store = record { tells = tells_forth c.args.store.now.disk.told c.turn.new.store.disk.told c.turn.ensures.tells; told = tells_back c.args.store.now.disk.told c.turn.new.store.disk.told c.turn.ensures.tells; seen = c.turn.ensures.seen; grows = λ told. grows_same c.args.store.now.history c.turn.new.store.history (ap (λ (s : StoreView). s.history) same) } in
    answered {E = g.row.E.Denot} {R = g.row.E-Request.Denot} {S = g.row.E-State.Denot} g.E.Evaluator.meaning c.args.worker c.args.now c.args.store.now c.turn.new.store c.args.active c.in-Ok-Answered.reply c.in-Ok-Answered.at carries same c.requires.stands t.0 t.1 asks

pub returns-in-Ok-Ready-clause-advances : goal.returns-in-Ok-Ready-clause-advances
returns-in-Ok-Ready-clause-advances g c =
    let t = rw c.in-Ok-Ready.field-0-is at c.in-Ok-Ready.ensures.turned in
    let same = rw c.in-Ok-Ready.field-0-is at c.in-Ok-Ready.ensures.store in
    let asks = rw c.in-Ok-Ready.field-0-is at c.in-Ok-Ready.ensures.asked in
    let carries : Carries c.args.store.now c.turn.new.store = record { tells = tells_forth c.args.store.now.disk.told c.turn.new.store.disk.told c.turn.ensures.tells; told = tells_back c.args.store.now.disk.told c.turn.new.store.disk.told c.turn.ensures.tells; seen = c.turn.ensures.seen; grows = λ told. grows_same c.args.store.now.history c.turn.new.store.history (ap (λ (s : StoreView). s.history) same) } in
    computed {E = g.row.E.Denot} {R = g.row.E-Request.Denot} {S = g.row.E-State.Denot} g.E.Evaluator.meaning c.args.worker c.args.now c.args.store.now c.turn.new.store c.args.active c.in-Ok-Ready.active t.0 t.1 carries same c.requires.stands t.2 t.3 asks

pub returns-in-Err-Disk-default-clause-advances : goal.returns-in-Err-Disk-default-clause-advances
returns-in-Err-Disk-default-clause-advances g c =
    let stands = c.in-Err-Disk-default.ensures.stands in
    let carries : Carries c.args.store.now c.turn.new.store = record { tells = tells_forth c.args.store.now.disk.told c.turn.new.store.disk.told c.turn.ensures.tells; told = tells_back c.args.store.now.disk.told c.turn.new.store.disk.told c.turn.ensures.tells; seen = c.turn.ensures.seen; grows = λ told. grows_stands c.args.store.now c.turn.new.store (stands told) (c.is_sound.ensures.history told) (c.is_sound.ensures.later_undecided told) } in
    troubled {E = g.row.E.Denot} {R = g.row.E-Request.Denot} {S = g.row.E-State.Denot} g.E.Evaluator.meaning c.args.worker c.args.now c.args.store.now c.turn.new.store (Slot.Active c.args.active) StepLine.DiskFault carries c.turn.ensures.out (λ k. k) (tt, refl) (active_left c.args.active) (λ k. k) tt tt (λ told. tt)
    (λ told. stands_moves {E = g.row.E.Denot} {R = g.row.E-Request.Denot} {S = g.row.E-State.Denot} g.E.Evaluator.meaning c.args.worker c.args.now c.args.store.now c.turn.new.store (Slot.Active c.args.active) StepLine.DiskFault (stands told)
    (λ st rests. fault_moves {E = g.row.E.Denot} {R = g.row.E-Request.Denot} {S = g.row.E-State.Denot} g.E.Evaluator.meaning c.args.worker c.args.now st c.turn.new.store (Slot.Active c.args.active) rests (λ k. k) refl))

pub returns-in-Err-Memory-default-clause-advances : goal.returns-in-Err-Memory-default-clause-advances
returns-in-Err-Memory-default-clause-advances g c =
    let stands = c.in-Err-Memory-default.ensures.stands in
    let carries : Carries c.args.store.now c.turn.new.store = record { tells = tells_forth c.args.store.now.disk.told c.turn.new.store.disk.told c.turn.ensures.tells; told = tells_back c.args.store.now.disk.told c.turn.new.store.disk.told c.turn.ensures.tells; seen = c.turn.ensures.seen; grows = λ told. grows_stands c.args.store.now c.turn.new.store (stands told) (c.is_sound.ensures.history told) (c.is_sound.ensures.later_undecided told) } in
    troubled {E = g.row.E.Denot} {R = g.row.E-Request.Denot} {S = g.row.E-State.Denot} g.E.Evaluator.meaning c.args.worker c.args.now c.args.store.now c.turn.new.store (Slot.Active c.args.active) StepLine.Memory carries c.turn.ensures.out (λ k. k) (tt, refl) (active_left c.args.active) (λ k. k) tt tt (λ told. tt)
    (λ told. stands_moves {E = g.row.E.Denot} {R = g.row.E-Request.Denot} {S = g.row.E-State.Denot} g.E.Evaluator.meaning c.args.worker c.args.now c.args.store.now c.turn.new.store (Slot.Active c.args.active) StepLine.Memory (stands told)
    (λ st rests. memory_moves {E = g.row.E.Denot} {R = g.row.E-Request.Denot} {S = g.row.E-State.Denot} g.E.Evaluator.meaning c.args.worker c.args.now st c.turn.new.store (Slot.Active c.args.active) rests (λ k. k) refl))

pub returns-in-Ok-Answered-clause-answered : goal.returns-in-Ok-Answered-clause-answered
returns-in-Ok-Answered-clause-answered g c =
    let t = rw c.in-Ok-Answered.field-0-is at c.in-Ok-Answered.ensures.turned in
    read_reply g.E.Evaluator.meaning c.args.active c.in-Ok-Answered.reply g.met.E.Evaluator.replies t.0

pub returns-in-Ok-Fetched-clause-calm : goal.returns-in-Ok-Fetched-clause-calm
returns-in-Ok-Fetched-clause-calm g c =
    let settles = rw c.in-Ok-Fetched.field-0-is at c.in-Ok-Fetched.ensures.store in
    λ told calm fresh. settles_fresh c.args.store.now c.turn.new.store (settles told)

pub returns-in-Ok-Answered-clause-calm : goal.returns-in-Ok-Answered-clause-calm
returns-in-Ok-Answered-clause-calm g c =
    let same = rw c.in-Ok-Answered.field-0-is at c.in-Ok-Answered.ensures.store in
    λ told calm fresh. ap (λ (s : StoreView). s.stale) same ∙ fresh

pub returns-in-Ok-Ready-clause-calm : goal.returns-in-Ok-Ready-clause-calm
returns-in-Ok-Ready-clause-calm g c =
    let same = rw c.in-Ok-Ready.field-0-is at c.in-Ok-Ready.ensures.store in
    λ told calm fresh. ap (λ (s : StoreView). s.stale) same ∙ fresh

pub returns-in-Err-Disk-default-clause-calm : goal.returns-in-Err-Disk-default-clause-calm
returns-in-Err-Disk-default-clause-calm g c = λ told calm fresh. absurd (calm tt)

pub returns-in-Err-Memory-default-clause-calm : goal.returns-in-Err-Memory-default-clause-calm
returns-in-Err-Memory-default-clause-calm g c = λ told calm fresh. stands_fresh c.args.store.now c.turn.new.store (c.in-Err-Memory-default.ensures.stands told) fresh
