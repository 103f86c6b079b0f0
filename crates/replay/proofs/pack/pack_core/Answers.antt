use Rattle.std.proofs.Common.{ap, subst, sym}
use Rattle.std.proofs.lemmas.Result.{IfOk-weaker}
use Rattle.fs_store.specs.Stores.{IsTold}
use Rattle.txn_core.specs.Cores.{IsAtRest}
use Rattle.replay.specs.Kept.{IsUnarmed}
use Rattle.replay.proofs.PackItems.{busy_goes_on}
use Rattle.replay.proofs.PackMaking.{said_so}
use Rattle.replay.proofs.pack.pack_core.Goals as goal

pub pack_idle-requires-clause-idle : goal.pack_idle-requires-clause-idle
pack_idle-requires-clause-idle g c = c.is_idle.ensures.idle c.if-is_idle.true

pub pack_idle-requires-clause-rest : goal.pack_idle-requires-clause-rest
pack_idle-requires-clause-rest g c = c.is_idle.ensures.rest c.if-is_idle.true

pub returns-clause-limit : goal.returns-clause-limit
returns-clause-limit g c = IfOk-weaker c.say.result _ _ (λ new same. ap (λ k. k.store.limit) same) c.say.ensures.same

pub returns-clause-ok : goal.returns-clause-ok
returns-clause-ok g c =
    let sound = rw c.store.ensures at c.is_sound.ensures in
    said_so c.say.result c.args.core _ _ c.say.ensures.same c.say.ensures.printed
    (λ printed clock. busy_goes_on g.E.Evaluator.takes g.E.Evaluator.meaning g.L.Links.linked c.args.limit c.args.before clock c.args.core _ _ (c.is_idle.ensures.busy c.if-is_idle.false) sound.history printed)

pub returns-clause-told : goal.returns-clause-told
returns-clause-told g c = IfOk-weaker c.say.result _ _ (λ new same. subst (λ k. IsTold k.store) (sym same) c.requires.told) c.say.ensures.same

pub returns-clause-rest : goal.returns-clause-rest
returns-clause-rest g c = IfOk-weaker c.say.result _ _ (λ new same rest. subst (λ k. IsAtRest g.E.Evaluator.meaning k) (sym same) rest) c.say.ensures.same

pub returns-clause-unarmed : goal.returns-clause-unarmed
returns-clause-unarmed g c = IfOk-weaker c.say.result _ _ (λ new same un. subst (λ k. IsUnarmed k.store) (sym same) un) c.say.ensures.same
