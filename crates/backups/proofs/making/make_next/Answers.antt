use Rattle.std.proofs.Common.{inr, refl, rules}
use Rattle.backups.specs.Calls.{calls_as, calls_then}
use Rattle.backups.proofs.Closing.{calls_back}
use Rattle.backups.proofs.NewPiece.{makes_due, spends_due}
use Rattle.backups.proofs.making.make_next.Goals as goal

pub returns-in_err-due-clause-calls : goal.returns-in_err-due-clause-calls
returns-in_err-due-clause-calls g c = calls_as (calls_back c.in_err-due.ensures.calls (λ t. t.0) refl) (λ f. search rules)

pub returns-clause-made : goal.returns-clause-made
returns-clause-made g c = makes_due c.make_due.result _ _ _ c.args.repo.now c.args.index.now c.args.full _ _ _ _ c.due_for.ensures.same c.due_for.ensures.same_file c.in_ok-due.ensures.due c.make_due.ensures.made

pub returns-clause-spent : goal.returns-clause-spent
returns-clause-spent g c = λ f bytes reads.
    spends_due _ _ c.args.repo.now c.args.index.now c.args.full _ _ bytes c.due_for.ensures.same (c.in_ok-due.ensures.due bytes reads) (c.make_due.ensures.spent f).0 (c.make_due.ensures.spent f).1

pub returns-clause-calls : goal.returns-clause-calls
returns-clause-calls g c = calls_then c.due_for.ensures.calls c.due_for.ensures.calls.sound c.make_due.ensures.calls (λ f. inr f)
