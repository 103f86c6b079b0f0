use Rattle.std.proofs.Common.{rules}
use Rattle.backups.proofs.NewPiece.{left_copied, made_copied}
use Rattle.backups.proofs.Planning.{calls_first}
use Rattle.backups.proofs.making.make_piece.Goals as goal

pub returns-in_err-name-clause-calls : goal.returns-in_err-name-clause-calls
returns-in_err-name-clause-calls g c = calls_first c.in_err-name.ensures.calls (λ f. search rules)

pub returns-in_err-closed-in-Ok-clause-left : goal.returns-in_err-closed-in-Ok-clause-left
returns-in_err-closed-in-Ok-clause-left g c =
    left_copied _ _ _ c.args.repo.now c.as_str-new.result.now _ _ _ c.close-closed.result (search rules) c.in_ok-name.ensures.free c.in_ok-name.ensures.made c.in_ok-name.ensures.told c.copy-copied.ensures.tells c.close-closed.ensures.closed c.close-closed.ensures.kept

pub returns-in_err-name-in-Ok-clause-left : goal.returns-in_err-name-in-Ok-clause-left
returns-in_err-name-in-Ok-clause-left g c =
    left_copied _ _ _ c.args.repo.now c.as_str-new.result.now _ _ _ c.close-closed.result (search rules) c.in_ok-name.ensures.free c.in_ok-name.ensures.made c.in_ok-name.ensures.told c.copy-copied.ensures.tells c.close-closed.ensures.closed c.close-closed.ensures.kept

pub returns-in-Ok-clause-left : goal.returns-in-Ok-clause-left
returns-in-Ok-clause-left g c =
    left_copied _ _ _ c.args.repo.now c.as_str-new.result.now _ _ _ c.close-closed.result (search rules) c.in_ok-name.ensures.free c.in_ok-name.ensures.made c.in_ok-name.ensures.told c.copy-copied.ensures.tells c.close-closed.ensures.closed c.close-closed.ensures.kept

pub returns-clause-left : goal.returns-clause-left
returns-clause-left g c =
    left_copied _ _ _ c.args.repo.now c.as_str-new.result.now _ _ _ c.close-closed.result (search rules) c.in_ok-name.ensures.free c.in_ok-name.ensures.made c.in_ok-name.ensures.told c.copy-copied.ensures.tells c.close-closed.ensures.closed c.close-closed.ensures.kept

pub returns-in-Ok-clause-made : goal.returns-in-Ok-clause-made
returns-in-Ok-clause-made g c =
    made_copied _ _ _ c.args.repo.now c.as_str-new.result.now _ _ _ _ c.args.start c.args.end c.in-Ok.md5 _ (search rules) c.in_ok-name.ensures.free c.in_ok-name.ensures.made c.in_ok-name.ensures.told c.in-Ok.ensures.copied c.in_ok-closed-in-Ok.ensures.closed (search rules)
