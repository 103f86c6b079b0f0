use Rattle.zobject.proofs.Sorted.{sorted_any, sorted_some}
use Rattle.zobject.proofs.laws.roles_may_be_sorted.Goals as goal

pub returns : goal.returns
returns c = record { any = sorted_any; some = sorted_some }
