use Rattle.std.proofs.Common.{◌≡◌, ◌∙◌, List, ℕ, IfOk, sym, subst}
use Rattle.http_in.specs.Paths.{as_text, decoded}
use Rattle.http_in.proofs.PathSteps.{plain_stays}
use Rattle.http_in.proofs.path.decoded.Goals as goal

pub returns-then-is_plain : goal.returns-then-is_plain
unfolding decoded
returns-then-is_plain c = subst (λ (x : List ℕ). IfOk c.text_of.result (λ text. text ≡ as_text x)) (sym (plain_stays c.args.piece.now (sym c.is_plain.ensures ∙ c.if-is_plain.true))) c.text_of.ensures
