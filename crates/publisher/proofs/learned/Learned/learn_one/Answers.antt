use Rattle.std.proofs.Common.{ℕ, ◌∙◌, ◌+◌, ◌-◌, ◌^◌, ap, refl}
use Rattle.std.specs.Prelude.{min}
use Rattle.publisher.proofs.Learning.{holds_more, holds_still, on_err}
use Rattle.publisher.proofs.learned.Learned.learn_one.Goals as goal

pub returns-in_err-learn_fact-clause-stays : goal.returns-in_err-learn_fact-clause-stays
returns-in_err-learn_fact-clause-stays c = on_err c.from_residual.result _ (λ front. holds_still c.args.self.now _ front (c.in_err-learn_fact.ensures.stays front) c.in_err-learn_fact.ensures.rules refl refl)

pub returns-clause-added : goal.returns-clause-added
returns-clause-added c = λ front.
    holds_more c.args.self.now _ front c.args.fact.now (c.in_ok-learn_fact.ensures.added front) c.in_ok-learn_fact.ensures.rules refl
    (c.saturating_add-self.ensures ∙ ap (λ (n : ℕ). min (c.args.self.now.bytes + n) (2 ^ 64 - 1)) c.fact_size.ensures)
