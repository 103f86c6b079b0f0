use Rattle.std.proofs.Common.{refl}
use Rattle.manage.proofs.Calls.{its_own, is_named}
use Rattle.manage.proofs.laws.calls_are_those_of_traversal.Goals as goal

pub returns : goal.returns
returns c = record { same = refl; own = its_own; named = is_named }
