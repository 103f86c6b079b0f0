use Rattle.std.proofs.Common.{◌∙◌, ap}
use Rattle.manage.specs.Calls.{call_named}
use Rattle.publisher.proofs.answering.call_of.Goals as goal

pub returns : goal.returns
returns c = c.call_named.ensures ∙ ap call_named c.as_str.ensures
