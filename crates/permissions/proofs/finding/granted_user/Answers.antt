use Rattle.std.proofs.Common.{◌∙◌, ap, Ok}
use Rattle.zknown.specs.Seen.{shapes}
use Rattle.permissions.specs.Users.{if_granted}
use Rattle.permissions.proofs.Steps.{granted_so}
use Rattle.permissions.proofs.finding.granted_user.Goals as goal

pub returns-in-Granted : goal.returns-in-Granted
returns-in-Granted c = rw (c.in-Some.is) (granted_so (shapes c.args.known.now) c.args.permission c.args.path.now c.in-Some.user c.in_ok-verdict.field-0 c.in_ok-verdict.ensures ∙ ap (λ v. Ok (if_granted c.in-Some.user v)) c.in-Granted.is)

pub returns-in-Denied : goal.returns-in-Denied
returns-in-Denied c = rw (c.in-Some.is) (granted_so (shapes c.args.known.now) c.args.permission c.args.path.now c.in-Some.user c.in_ok-verdict.field-0 c.in_ok-verdict.ensures ∙ ap (λ v. Ok (if_granted c.in-Some.user v)) c.in-Denied.is)
