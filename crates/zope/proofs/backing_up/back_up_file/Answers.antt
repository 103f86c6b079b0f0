use Rattle.zope.proofs.Leaving.{refused_leaves}
use Rattle.zope.proofs.backing_up.back_up_file.Goals as goal

pub returns-in_err-done-clause-left : goal.returns-in_err-done-clause-left
returns-in_err-done-clause-left g c = refused_leaves c.args.file.now c.args.repo.now c.args.full _ _ c.in_err-done.ensures.left
