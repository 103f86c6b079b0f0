use Rattle.std.proofs.Common.{◌∙◌, ap, sym, Ok, option_map}
use Rattle.zobject.specs.Shapes.{shape_of}
use Rattle.zknown.specs.Seen.{shapes}
use Rattle.acquisition.specs.Acquiring.{here}
use Rattle.permissions.specs.Users.{known_at}
use Rattle.permissions.proofs.Steps.{goes}
use Rattle.permissions.proofs.finding.user_under.Goals as goal

pub returns : goal.returns
unfolding shape_of
returns c = rw (c.in-Some.is) (goes (shapes c.args.known.now) (here c.in-Some.oid) _ (shape_of c.in_ok-object.object.now) _ c.in_ok-object.ensures.shape (ap Ok (sym (c.in_ok-known_at.ensures ∙ ap (option_map (known_at c.args.home)) c.in_ok-user.ensures))))
