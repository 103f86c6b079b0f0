use Rattle.std.proofs.Common.{◌∙◌, ap, sym, Ok}
use Rattle.zbase.specs.Query.{or_else}
use Rattle.acquisition.specs.Acquiring.{first}
use Rattle.manage.specs.Changing.{change}
use Rattle.publisher.specs.Faults as faults
use Rattle.publisher.specs.Site.{change_by, changed}
use Rattle.publisher.proofs.Steps.{goes}
use Rattle.publisher.proofs.calling.change_by.Goals as goal

pub returns : goal.returns
unfolding change_by
returns c =
    goes c.args.known.now (or_else faults.Call (change c.args.sent.now.call (first c.args.sent.now.on.now) c.args.sent.now.read.now.fields)) (changed c.args.sent.now.request.now c.args.user.now) c.in_ok-made.made c.in_ok-made.ensures
    ∙ ap (λ a. Ok a) (sym c.in_ok-answer.ensures)
