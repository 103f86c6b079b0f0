use Rattle.zbase.specs.Faults.{spends_then}
use Rattle.replay.proofs.PackMaking.{is_packed, made_told, opens_made}
use Rattle.replay.proofs.pack.make_pack.Goals as goal

pub open_pack-requires-clause-opens : goal.open_pack-requires-clause-opens
open_pack-requires-clause-opens g c =
    let left = made_told g.L.Links.linked c.args.limit c.args.before c.requires.file.0 _ _ _ c.in-Ok.plan c.in-Ok-write_pack.written.1 c.requires.file.1 c.requires.limit c.plan_pack.ensures.same c.in-Ok.ensures.planned c.in-Ok.ensures.at c.in-Ok-write_pack.ensures.written in
    (left.0, (left.1.0, opens_made _ _ _ _ _ _ _ left.1.1))

pub returns-in-Ok-open_pack-clause-made : goal.returns-in-Ok-open_pack-clause-made
returns-in-Ok-open_pack-clause-made g c = λ h file.
    (let left = made_told g.L.Links.linked c.args.limit c.args.before h _ _ _ c.in-Ok.plan c.in-Ok-write_pack.written.1 file c.requires.limit c.plan_pack.ensures.same c.in-Ok.ensures.planned c.in-Ok.ensures.at c.in-Ok-write_pack.ensures.written in
    is_packed _ _ _ h _ _ _ c.in-Ok-open_pack.store left.1.1 (λ k end opens. c.in-Ok-open_pack.ensures.opened left.0 k end left.1.0 opens) (spends_then c.in-Ok-write_pack.ensures.unarmed.1 c.in-Ok-open_pack.ensures.spends))
