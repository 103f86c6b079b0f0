-- A run whose last lines were written at its end: what was due by then is what was written.
use Rattle.std.proofs.Common.{◌≡◌, ℕ, List, [], Option, sym, ap, subst, ◌∙◌}
use Rattle.std.specs.Io.KnownBytes.{append_known}
use Rattle.replay.proofs.PrintSteps.{prints_none}

-- where no bytes are on their way, what is due is what was written
pub none_due : (old : Option (List ℕ)) (pending : List ℕ) → pending ≡ [] → append_known old pending ≡ old
none_due old pending none = ap (append_known old) none ∙ sym (prints_none old)

-- what holds of what was due holds of what was written
pub flushed : (P : Option (List ℕ) → Option (List ℕ) → Type 0) (begun due old new : Option (List ℕ)) → begun ≡ old → new ≡ due → P begun due → P old new
flushed P begun due old new first end holds = subst (λ o. P o new) first (subst (P begun) (sym end) holds)
