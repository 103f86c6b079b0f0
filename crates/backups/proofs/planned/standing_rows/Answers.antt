use Rattle.std.proofs.Common.{Err, ap, refl}
use Rattle.backups.specs.declared.indexes.Unread.{Unread}
use Rattle.backups.specs.Calls.{calls_as}
use Rattle.backups.proofs.Planning.{bad_stands}
use Rattle.backups.proofs.planned.standing_rows.Goals as goal

pub returns-in-Err-Bad-clause-stands : goal.returns-in-Err-Bad-clause-stands
returns-in-Err-Bad-clause-stands g c = bad_stands (g.F.Shelf.files c.args.files.now) c.args.index.now _ c.one_bad_line.ensures.not_both (c.in-Err-Bad.ensures.bad _ (ap (λ (u : Unread). Err u) c.in-Err-Bad.field-0-is))

pub returns-in-Err-Failed-clause-calls : goal.returns-in-Err-Failed-clause-calls
returns-in-Err-Failed-clause-calls g c = calls_as c.in-Err-Failed.ensures.calls (λ f. rw c.in-Err-Failed.field-0-is refl)
