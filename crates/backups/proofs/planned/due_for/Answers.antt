use Rattle.std.proofs.Common.{inr, refl, rules}
use Rattle.backups.specs.Calls.{calls_then}
use Rattle.backups.proofs.Planning.{calls_beside, no_index_of, no_pieces_due, none_of, over_due, over_whole}
use Rattle.backups.proofs.planned.due_for.Goals as goal

pub returns-in_err-rows-clause-calls : goal.returns-in_err-rows-clause-calls
returns-in_err-rows-clause-calls g c = calls_beside c.in_err-rows.ensures.calls (λ x. x) (λ f. search rules)

pub returns-in_err-plan-clause-calls : goal.returns-in_err-plan-clause-calls
returns-in_err-plan-clause-calls g c =
    calls_then (calls_beside c.standing_rows.ensures.calls (λ x. x) (λ f. f)) (λ s. (c.standing_rows.ensures.calls.sound s.0, s.1)) c.in_err-plan.ensures.calls (λ f. inr (search rules))

pub returns-in_default-clause-due : goal.returns-in_default-clause-due
returns-in_default-clause-due g c =
    over_whole c.due_whole.result (g.F.Shelf.files c.args.files.now) c.args.index.now c.args.full _ _ refl
    (λ bytes reads. no_index_of (g.F.Shelf.files c.args.files.now) c.args.index.now _ (none_of _ c.in_default.not-Some) c.in_ok-rows.ensures.stands) c.due_whole.ensures.none c.due_whole.ensures.due

pub returns-in-Some-2-clause-due : goal.returns-in-Some-2-clause-due
returns-in-Some-2-clause-due g c = λ bytes reads.
    over_due (g.F.Shelf.files c.args.files.now) _ c.args.index.now c.args.full bytes _ _ _ _ _ c.standing_rows.ensures.same (search rules) (search rules) (search rules) c.in_ok-rows.ensures.stands (c.in_ok-plan.ensures.planned bytes reads)

pub returns-in-None-clause-due : goal.returns-in-None-clause-due
returns-in-None-clause-due g c =
    over_whole c.due_whole-in-None.result (g.F.Shelf.files c.args.files.now) c.args.index.now c.args.full _ _ c.plan_over.ensures.same_file
    (λ bytes reads. no_pieces_due (g.F.Shelf.files c.args.files.now) _ c.args.index.now c.args.full bytes c.in-Some.rows _ _ _ c.one_index.ensures c.standing_rows.ensures.same (search rules) (search rules) (search rules) c.in_ok-rows.ensures.stands (c.in_ok-plan.ensures.planned bytes reads))
    c.due_whole-in-None.ensures.none c.due_whole-in-None.ensures.due
