-- Bindings that a loop has read to the end.
use Rattle.std.proofs.Common.{◌≡◌, ℕ, zero, suc, ◌≤◌, List, [], ◌∷◌, ◌++◌, length, drop, refl, sym, subst, arith}
use Rattle.std.proofs.lemmas.List.{append-nil}
use Rattle.dtml_lex.specs.declared.part.Attribute.{Attribute}
use Rattle.dtml_parse.specs.Trees.{Bound}
use Rattle.dtml_parse.specs.Pieces.{AreBound}

drop_past : (attributes : List Attribute) (i : ℕ) → length attributes ≤ i → drop i attributes ≡ []
drop_past [] zero le = refl
drop_past [] (suc i) le = refl
drop_past (a ∷ rest) zero le = absurd (omega arith)
drop_past (a ∷ rest) (suc i) le = drop_past rest i (omega arith)

pub all_bound : (attributes : List Attribute) (i : ℕ) (bounds : List Bound) → length attributes ≤ i → ((more : List Bound) → AreBound (drop i attributes) more → AreBound attributes (bounds ++ more)) → AreBound attributes bounds
all_bound attributes i bounds le said = subst (AreBound attributes) (append-nil bounds) (said [] (subst (λ (xs : List Attribute). AreBound xs []) (sym (drop_past attributes i le)) tt))
