use Rattle.std.proofs.Common.{sym, subst, List, ℕ, vec_capacity}
use Rattle.http_in.specs.Inside.{Keeps}
use Rattle.http_in.proofs.Readers.{keeps_none}
use Rattle.http_in.proofs.reader.Reader.new.Goals as goal

pub invariant_of-result : goal.invariant_of-result
invariant_of-result c = subst (λ (b : List ℕ). Keeps b 0 0 0 0 0 (vec_capacity c.new.result)) (sym c.new.ensures.items) (keeps_none (vec_capacity c.new.result))
