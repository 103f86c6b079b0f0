use Rattle.std.proofs.Common.{◌≡◌, ◌≤◌, ℕ, length}
use Rattle.form_fields.specs.Names as spec
use Rattle.form_fields.specs.Views.{named_view}
use Rattle.form_fields.proofs.names.named_by.Given as goal

-- with turns enough, what is left gives what the name gives
abbrev pub invariant-suffixes : goal.invariant-suffixes
invariant-suffixes l = (n : ℕ) → length l.named.name.now ≤ n → spec.stripped n (named_view l.named) ≡ spec.named_by l.name

abbrev pub decreases-suffixes : goal.decreases-suffixes
decreases-suffixes l = length l.named.name.now
