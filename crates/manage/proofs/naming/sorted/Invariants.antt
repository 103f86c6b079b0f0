use Rattle.std.proofs.Common.{◌≡◌, ◌++◌, map}
use Rattle.zobject.specs.Sorting.{sorted as sorted_texts}
use Rattle.manage.proofs.naming.sorted.Given as goal

abbrev pub invariant-loop-text : goal.invariant-loop-text
invariant-loop-text l = l.sorted ++ map (λ key. key.now) l.text-iterator ≡ sorted_texts l.texts
