use Rattle.std.proofs.Common.{subst}
use Rattle.zbase.specs.Query.{run, Answers}
use Rattle.zobject.specs.Shapes.{shape_of}
use Rattle.zknown.specs.Seen.{shapes}
use Rattle.acquisition.specs.Acquiring.{here, told}
use Rattle.permissions.specs.Users.{user_at, user_under}
use Rattle.permissions.proofs.Steps.{goes_so}
use Rattle.permissions.proofs.finding.user_at.Goals as goal

pub returns : goal.returns
unfolding user_at shape_of
returns c =
    goes_so told _ c.user_under.result (shapes c.args.known.now) (here c.args.folder) _ (shape_of c.in_ok-object.object.now) c.in_ok-object.ensures.shape
    (subst (λ child. Answers told (λ who. who) c.user_under.result (run (shapes c.args.known.now) (user_under c.args.credentials.now c.args.folder child))) c.child_in-child.ensures c.user_under.ensures)
