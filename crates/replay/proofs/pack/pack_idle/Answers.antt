use Rattle.std.proofs.Common.{inl, inr, sym, subst, ap, ◌∙◌, Err}
use Rattle.std.proofs.lemmas.Result.{IfOk-weaker}
use Rattle.zbase.specs.Faults.{counts_as}
use Rattle.connection.specs.Telling.{tells_forth}
use Rattle.fs_store.specs.Stores.{IsTold}
use Rattle.txn_core.specs.Cores.{IsAtRest}
use Rattle.replay.specs.Kept.{IsUnarmed}
use Rattle.replay.proofs.Closing.{no_fault}
use Rattle.replay.proofs.PackItems.{cut_off_goes_on, done_goes_on, failed_goes_on, packed_limit, packed_rest, packed_told, packed_unarmed, refused_goes_on, rests_still, unread_goes_on}
use Rattle.replay.proofs.RunAlone.{still_unarmed}
use Rattle.replay.proofs.PackMaking.{said_so}
use Rattle.replay.proofs.pack.pack_idle.Goals as goal

pub bytes-requires : goal.bytes-requires
bytes-requires g c = record { idle = c.requires.rest.0 }

pub pack_bytes-requires-clause-running : goal.pack_bytes-requires-clause-running
pack_bytes-requires-clause-running g c = (c.in-Ok.ensures.counts.arms.spends (λ e. cc)).stopped ∙ c.requires.running

pub pack_bytes-requires-clause-whole : goal.pack_bytes-requires-clause-whole
pack_bytes-requires-clause-whole g c = c.in-Ok.ensures.whole (tells_forth c.args.core.store.disk.told c.bytes.new.self.store.disk.told c.in-Ok.ensures.tells c.requires.told)

pub restart-requires-clause-told : goal.restart-requires-clause-told
restart-requires-clause-told g c = tells_forth c.args.core.store.disk.told c.bytes.new.self.store.disk.told c.in-Err-Disk.ensures.tells c.requires.told

pub returns-in-Ok-clause-limit : goal.returns-in-Ok-clause-limit
returns-in-Ok-clause-limit g c =
    IfOk-weaker c.pack_bytes.result _ _ (λ new p. packed_limit g.L.Links.linked c.args.limit c.args.before c.bytes.new.self new _ _ (c.requires.limit.0 ∙ sym c.in-Ok.ensures.limit) p ∙ c.in-Ok.ensures.limit) c.pack_bytes.ensures.packed

pub returns-in-Ok-clause-ok : goal.returns-in-Ok-clause-ok
returns-in-Ok-clause-ok g c =
    let old = c.args.core in
    let mid = c.bytes.new.self in
    let b = c.in-Ok.ensures in
    let sound = rw c.store.ensures at c.is_sound.ensures in
    let calm = counts_as b.counts (λ e. cc) (λ none. absurd none) in
    IfOk-weaker c.pack_bytes.result _ _
    (λ new p clock. elim p [
      | inl d ↦ done_goes_on g.E.Evaluator.takes g.E.Evaluator.meaning g.L.Links.linked c.args.limit c.args.before clock old mid new _ _ c.requires.rest b.settled calm b.slots d
      | inr r ↦ refused_goes_on g.E.Evaluator.takes g.E.Evaluator.meaning g.L.Links.linked c.args.limit c.args.before clock old mid new _ _ c.requires.rest b.settled calm b.tells
          (λ told. sound.history (tells_forth old.store.disk.told mid.store.disk.told b.tells told)) (sound.undecided b.fresh) b.out b.slots r
    ])
    c.pack_bytes.ensures.packed

pub returns-in-Err-Memory-clause-ok : goal.returns-in-Err-Memory-clause-ok
returns-in-Err-Memory-clause-ok g c =
    let old = c.args.core in
    let mid = c.bytes.new.self in
    let b = c.in-Err-Memory.ensures in
    let sound = rw c.store-in-Err-Memory.ensures at c.is_sound-in-Err-Memory.ensures in
    said_so c.say.result mid _ _ c.say.ensures.same c.say.ensures.printed
    (λ printed clock. unread_goes_on g.E.Evaluator.takes g.E.Evaluator.meaning g.L.Links.linked c.args.limit c.args.before clock old mid _ _ c.requires.rest b.stands (counts_as b.counts (λ e. cc) (λ none. absurd none)) b.tells
    (λ told. sound.history (tells_forth old.store.disk.told mid.store.disk.told b.tells told)) b.slots printed)

pub returns-then-stopped-clause-ok : goal.returns-then-stopped-clause-ok
returns-then-stopped-clause-ok g c =
    let old = c.args.core in
    let mid = c.bytes.new.self in
    let b = c.in-Err-Disk.ensures in
    IfOk-weaker c.restart.result _ _
    (λ new r clock. cut_off_goes_on g.E.Evaluator.takes g.E.Evaluator.meaning g.L.Links.linked c.args.limit c.args.before clock old mid new _ r.0 _ _ c.requires.rest c.requires.idle b.stands b.counts (ap (λ k. Err k) c.in-Err-Disk.field-0-is)
    c.stopped-running.ensures.calm (sym c.stopped.ensures.value ∙ c.if-stopped.true) b.slots r.1 r.2)
    c.restart.ensures.restarted

pub returns-else-stopped-clause-ok : goal.returns-else-stopped-clause-ok
returns-else-stopped-clause-ok g c =
    let old = c.args.core in
    let mid = c.bytes.new.self in
    let b = c.in-Err-Disk.ensures in
    let sound = rw c.store-in-Err-Disk.ensures at c.is_sound-in-Err-Disk.ensures in
    said_so c.say-in-Err-Disk.result mid _ _ c.say-in-Err-Disk.ensures.same c.say-in-Err-Disk.ensures.printed
    (λ printed clock. failed_goes_on g.E.Evaluator.takes g.E.Evaluator.meaning g.L.Links.linked c.args.limit c.args.before clock old mid _ _ _ c.requires.rest b.stands b.counts (ap (λ k. Err k) c.in-Err-Disk.field-0-is)
    c.stopped-running.ensures.calm (sym c.stopped.ensures.value ∙ c.if-stopped.false) b.tells (λ told. sound.history (tells_forth old.store.disk.told mid.store.disk.told b.tells told)) b.slots printed)

pub returns-then-stopped-clause-limit : goal.returns-then-stopped-clause-limit
returns-then-stopped-clause-limit g c = IfOk-weaker c.restart.result _ _ (λ new r. r.1.reopens.limit ∙ c.in-Err-Disk.ensures.limit) c.restart.ensures.restarted

pub returns-in-Err-Memory-clause-limit : goal.returns-in-Err-Memory-clause-limit
returns-in-Err-Memory-clause-limit g c = IfOk-weaker c.say.result _ _ (λ new same. ap (λ k. k.store.limit) same ∙ c.in-Err-Memory.ensures.limit) c.say.ensures.same

pub returns-else-stopped-clause-limit : goal.returns-else-stopped-clause-limit
returns-else-stopped-clause-limit g c = IfOk-weaker c.say-in-Err-Disk.result _ _ (λ new same. ap (λ k. k.store.limit) same ∙ c.in-Err-Disk.ensures.limit) c.say-in-Err-Disk.ensures.same

pub returns-in-Ok-clause-told : goal.returns-in-Ok-clause-told
returns-in-Ok-clause-told g c = IfOk-weaker c.pack_bytes.result _ _ (λ new p. packed_told g.L.Links.linked c.args.limit c.args.before c.bytes.new.self new _ _ (tells_forth c.args.core.store.disk.told c.bytes.new.self.store.disk.told c.in-Ok.ensures.tells c.requires.told) p) c.pack_bytes.ensures.packed

pub returns-in-Ok-clause-rest : goal.returns-in-Ok-clause-rest
returns-in-Ok-clause-rest g c = IfOk-weaker c.pack_bytes.result _ _ (λ new p rest. packed_rest g.E.Evaluator.meaning g.L.Links.linked c.args.limit c.args.before c.bytes.new.self new _ _ (rests_still g.E.Evaluator.meaning c.args.core c.bytes.new.self rest c.in-Ok.ensures.out c.in-Ok.ensures.slots) p) c.pack_bytes.ensures.packed

pub returns-in-Ok-clause-unarmed : goal.returns-in-Ok-clause-unarmed
returns-in-Ok-clause-unarmed g c = IfOk-weaker c.pack_bytes.result _ _ (λ new p un. packed_unarmed g.L.Links.linked c.args.limit c.args.before c.bytes.new.self new _ _ (still_unarmed _ _ (c.in-Ok.ensures.counts.arms.spends (λ e. cc)) un) p) c.pack_bytes.ensures.packed

pub returns-in-Err-Memory-clause-told : goal.returns-in-Err-Memory-clause-told
returns-in-Err-Memory-clause-told g c = IfOk-weaker c.say.result _ _ (λ new same. subst (λ k. IsTold k.store) (sym same) (tells_forth c.args.core.store.disk.told c.bytes.new.self.store.disk.told c.in-Err-Memory.ensures.tells c.requires.told)) c.say.ensures.same

pub returns-in-Err-Memory-clause-rest : goal.returns-in-Err-Memory-clause-rest
returns-in-Err-Memory-clause-rest g c = IfOk-weaker c.say.result _ _ (λ new same rest. subst (λ k. IsAtRest g.E.Evaluator.meaning k) (sym same) (rests_still g.E.Evaluator.meaning c.args.core c.bytes.new.self rest c.in-Err-Memory.ensures.out c.in-Err-Memory.ensures.slots)) c.say.ensures.same

pub returns-in-Err-Memory-clause-unarmed : goal.returns-in-Err-Memory-clause-unarmed
returns-in-Err-Memory-clause-unarmed g c =
    let calm = counts_as c.in-Err-Memory.ensures.counts (λ e. cc) (λ none. absurd none) in
    let spends = calm.arms.spends (λ none. none) in
    IfOk-weaker c.say.result _ _ (λ new same un. subst (λ k. IsUnarmed k.store) (sym same) (still_unarmed _ _ spends un)) c.say.ensures.same

pub returns-else-stopped-clause-told : goal.returns-else-stopped-clause-told
returns-else-stopped-clause-told g c = IfOk-weaker c.say-in-Err-Disk.result _ _ (λ new same. subst (λ k. IsTold k.store) (sym same) (tells_forth c.args.core.store.disk.told c.bytes.new.self.store.disk.told c.in-Err-Disk.ensures.tells c.requires.told)) c.say-in-Err-Disk.ensures.same

pub returns-else-stopped-clause-rest : goal.returns-else-stopped-clause-rest
returns-else-stopped-clause-rest g c = IfOk-weaker c.say-in-Err-Disk.result _ _ (λ new same rest. subst (λ k. IsAtRest g.E.Evaluator.meaning k) (sym same) (rests_still g.E.Evaluator.meaning c.args.core c.bytes.new.self rest c.in-Err-Disk.ensures.out c.in-Err-Disk.ensures.slots)) c.say-in-Err-Disk.ensures.same

pub returns-else-stopped-clause-unarmed : goal.returns-else-stopped-clause-unarmed
returns-else-stopped-clause-unarmed g c = IfOk-weaker c.say-in-Err-Disk.result _ _ (λ new same un. absurd (no_fault _ _ _ (c.stopped-running.ensures.calm un.0 un.1) c.in-Err-Disk.ensures.counts (ap (λ k. Err k) c.in-Err-Disk.field-0-is))) c.say-in-Err-Disk.ensures.same

pub returns-then-stopped-clause-told : goal.returns-then-stopped-clause-told
returns-then-stopped-clause-told g c = IfOk-weaker c.restart.result _ _ (λ new r. r.1.told) c.restart.ensures.restarted

pub returns-then-stopped-clause-rest : goal.returns-then-stopped-clause-rest
returns-then-stopped-clause-rest g c = IfOk-weaker c.restart.result _ _ (λ new r rest. r.1.rest) c.restart.ensures.restarted

pub returns-then-stopped-clause-unarmed : goal.returns-then-stopped-clause-unarmed
returns-then-stopped-clause-unarmed g c = IfOk-weaker c.restart.result _ _ (λ new r un. absurd (no_fault _ _ _ (c.stopped-running.ensures.calm un.0 un.1) c.in-Err-Disk.ensures.counts (ap (λ k. Err k) c.in-Err-Disk.field-0-is))) c.restart.ensures.restarted
