use Rattle.std.proofs.Common.{Err, ap, subst, sym}
use Rattle.replay.specs.Packs.{IsUnmade}
use Rattle.replay.proofs.Closing.{no_fault}
use Rattle.replay.proofs.PackMaking.{plan_calm, plan_unmade}
use Rattle.replay.proofs.pack.plan_pack.Goals as goal

pub why_unmade-requires : goal.why_unmade-requires
why_unmade-requires g c =
    plan_calm _ c.requires.file.0 c.in-Err.refusal c.requires.file.1 (λ kind place e. c.in-Err.ensures.damaged kind place (ap (λ k. Err k) e))
    (λ e. no_fault _ _ _ c.requires.calm c.in-Err.ensures.only_reads.counts (ap (λ k. Err k) e)) (λ e. c.in-Err.ensures.only_from (ap (λ k. Err k) e))

pub returns-in-Err-clause-refused : goal.returns-in-Err-clause-refused
returns-in-Err-clause-refused g c = λ h file. subst (IsUnmade g.L.Links.linked c.args.limit c.args.before h) (sym c.why_unmade.ensures)
    (plan_unmade g.L.Links.linked c.args.limit c.args.before h _ c.in-Err.refusal file (λ o e. c.in-Err.ensures.unreadable o (ap (λ k. Err k) e)) (λ need most e. c.in-Err.ensures.full need most (ap (λ k. Err k) e)))

pub returns-in-Ok-clause-same : goal.returns-in-Ok-clause-same
returns-in-Ok-clause-same g c = c.in-Ok.ensures.only_reads.same

pub returns-in-Err-clause-same : goal.returns-in-Err-clause-same
returns-in-Err-clause-same g c = c.in-Err.ensures.only_reads.same

pub returns-in-Ok-clause-calm : goal.returns-in-Ok-clause-calm
returns-in-Ok-clause-calm g c = (c.in-Ok.ensures.only_reads.counts.calm c.requires.calm).0

pub returns-in-Err-clause-calm : goal.returns-in-Err-clause-calm
returns-in-Err-clause-calm g c = (c.in-Err.ensures.only_reads.counts.calm c.requires.calm).0
