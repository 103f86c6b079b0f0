use Rattle.std.proofs.Common.{◌≡◌, true, rules}
use Rattle.zknown.specs.Seen.{shapes}
use Rattle.acquisition.specs.Acquiring as acquiring
use Rattle.permissions.proofs.Steps.{at_home}
use Rattle.permissions.proofs.roles.known_roles.Goals as goal

pub returns : goal.returns
returns c =
    let on : acquiring.has c.args.path.now c.args.home ≡ true = search rules in
    at_home (shapes c.args.known.now) c.args.name.now c.args.own.now c.args.home c.args.path.now c.in_ok-had.had c.append.new.roles c.append_locals.new.roles on c.in_ok-had.ensures c.in_ok-append.ensures c.in_ok-append_locals.ensures
