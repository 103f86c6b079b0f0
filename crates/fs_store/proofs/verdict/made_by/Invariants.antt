use Rattle.std.proofs.Common.{◌≡◌, take}
use Rattle.std.specs.Prelude.{count_by}
use Rattle.evaluator.specs.Change.{is_new, named}
use Rattle.fs_store.proofs.verdict.made_by.Given as goal

-- how many the entries so far make
abbrev pub invariant-loop-entry : goal.invariant-loop-entry
invariant-loop-entry l = l.made ≡ count_by (λ e. is_new (named e)) (take l.entry-index l.entry-items)
