use Rattle.std.proofs.Common.{ap}
use Rattle.fs_store.specs.Stores.{StoreView}
use Rattle.connection.specs.Telling.{tells_back, tells_forth}
use Rattle.txn_core.proofs.Crashing.{finish_nearly}
use Rattle.txn_core.proofs.Arms.{committed, unknown}
use Rattle.txn_core.proofs.Steadiness.{Carries, grows_finished, grows_same, voter_decided}
use Rattle.txn_core.proofs.Voting.{commit_reply}
use Rattle.txn_core.proofs.advancing.finish.Goals as goal

pub returns-in-Ok-clause-advances : goal.returns-in-Ok-clause-advances
returns-in-Ok-clause-advances g c =
    let vote = c.requires.vote in
    let carries : Carries c.args.store.now c.finish.new.store = record { tells = tells_forth c.args.store.now.disk.told c.finish.new.store.disk.told c.finish.ensures.tells; told = tells_back c.args.store.now.disk.told c.finish.new.store.disk.told c.finish.ensures.tells; seen = c.finish.ensures.seen; grows = λ told. grows_finished c.args.store.now c.finish.new.store vote.0 vote.1 (c.in-Ok.ensures.stands told) (c.is_sound.ensures.history told) (c.is_sound.ensures.later told vote.0 vote.1) } in
    committed {E = g.row.E.Denot} {R = g.row.E-Request.Denot} {S = g.row.E-State.Denot} g.E.Evaluator.meaning c.args.worker c.args.now c.args.store.now c.finish.new.store c.args.pending c.in-Ok.reply c.in-Ok.tid carries vote c.requires.change (voter_decided c.args.store.now vote.0 vote.1 c.is_sound.ensures.idle c.is_sound.ensures.undecided) c.in-Ok.ensures.done.0 c.in-Ok.ensures.stands c.in-Ok.ensures.reply.0 c.in-Ok.ensures.reply.1

pub returns-in-Err-clause-advances : goal.returns-in-Err-clause-advances
returns-in-Err-clause-advances g c =
    let same = ap (λ (s : StoreView). s.history) c.in-Err.ensures.stale in
    let carries : Carries c.args.store.now c.finish.new.store = record { tells = tells_forth c.args.store.now.disk.told c.finish.new.store.disk.told c.finish.ensures.tells; told = tells_back c.args.store.now.disk.told c.finish.new.store.disk.told c.finish.ensures.tells; seen = c.finish.ensures.seen; grows = λ told. grows_same c.args.store.now.history c.finish.new.store.history same } in
    unknown {E = g.row.E.Denot} {R = g.row.E-Request.Denot} {S = g.row.E-State.Denot} g.E.Evaluator.meaning c.args.worker c.args.now c.args.store.now c.finish.new.store c.args.pending c.tid-voted.result carries c.requires.vote c.in-Err.ensures.stale c.tid-voted.ensures

pub returns-in-Ok-clause-answered : goal.returns-in-Ok-clause-answered
returns-in-Ok-clause-answered g c = rw c.in-Ok.ensures.reply.0 (commit_reply g.E.Evaluator.meaning g.E.Evaluator.takes c.args.store.now c.args.pending g.met.E.Evaluator.changes c.is_sound-2.ensures c.requires.change)

pub returns-in-Err-clause-calm : goal.returns-in-Err-clause-calm
returns-in-Err-clause-calm g c = λ told calm fresh. absurd (calm tt)

pub returns-in-Ok-clause-any_moment : goal.returns-in-Ok-clause-any_moment
returns-in-Ok-clause-any_moment g c = finish_nearly c.args.store.now c.finish.new.store c.args.worker c.args.pending c.requires.vote c.finish.ensures.any_moment

pub returns-in-Err-clause-any_moment : goal.returns-in-Err-clause-any_moment
returns-in-Err-clause-any_moment g c = finish_nearly c.args.store.now c.finish.new.store c.args.worker c.args.pending c.requires.vote c.finish.ensures.any_moment
