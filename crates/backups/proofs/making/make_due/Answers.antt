use Rattle.std.proofs.Common.{rules}
use Rattle.backups.specs.Calls.{calls_as}
use Rattle.backups.proofs.NewPiece.{made_full, made_more}
use Rattle.backups.proofs.making.make_due.Goals as goal

pub returns-in_err-row-in-Full-clause-calls : goal.returns-in_err-row-in-Full-clause-calls
returns-in_err-row-in-Full-clause-calls g c = calls_as c.in_err-row-in-Full.ensures.calls (λ f. search rules)

pub returns-in_err-row-in-More-clause-calls : goal.returns-in_err-row-in-More-clause-calls
returns-in_err-row-in-More-clause-calls g c = calls_as c.in_err-row-in-More.ensures.calls (λ f. search rules)

pub returns-in_ok-push-in-Full-clause-made : goal.returns-in_ok-push-in-Full-clause-made
returns-in_ok-push-in-Full-clause-made g c = made_full _ _ c.args.repo.now _ _ _ _ _ _ _ c.in_ok-row-in-Full.ensures.made (search rules) (search rules) (search rules)

pub returns-in_ok-push-in-More-clause-made : goal.returns-in_ok-push-in-More-clause-made
returns-in_ok-push-in-More-clause-made g c = made_more _ _ c.args.repo.now _ _ _ _ _ _ _ _ c.in_ok-row-in-More.ensures.made (search rules) (search rules) (search rules)
