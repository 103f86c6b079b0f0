-- What is kept of the facts that an evaluation asks for: they are true, each was asked for given those before it,
-- and none twice.
use Rattle.std.proofs.Common.{◌≡◌, ◌∙◌, List, [], ◌∷◌, ◌++◌, refl, sym, ap}
use Rattle.std.specs.Prelude.{AllPairs, ◌≢◌}
use Rattle.zbase.specs.History.{History}
use Rattle.evaluator.specs.declared.ask.Ask.{Ask}
use Rattle.evaluator.specs.declared.fact.Fact.{Fact}
use Rattle.evaluator.specs.declared.outcome.Outcome.{Outcome}
use Rattle.evaluator.specs.Exec.{Eval, IsDecided, IsLawful, IsTrail}
use Rattle.evaluator.specs.Facts.{fact, ask_of, look, TrueOf}
use Rattle.evaluator.specs.FactLaws.{fact_asked, once_push, trail_push}

true_push : (h : History) (facts : List Fact) (f : Fact) → TrueOf facts h → f ≡ fact h (ask_of f) → TrueOf (facts ++ f ∷ []) h
true_push h [] f all is = (is, tt)
true_push h (g ∷ gs) f all is = (all.0, true_push h gs f all.1 is)

-- facts of a history that an evaluation asked for
pub record AreAsked {R : Type 0} (eval : Eval R) (h : History) (q : R) (facts : List Fact) : Type 0 where
  pub trail : IsTrail (λ known. eval (look known) q) facts
  pub true_facts : TrueOf facts h
  pub once : AllPairs (λ x y. ask_of x ≢ ask_of y) facts

pub asked_more : {R : Type 0} (eval : Eval R) (h : History) (q : R) (facts : List Fact) (ask : Ask) (f : Fact) → IsLawful eval → AreAsked eval h q facts → eval (look facts) q ≡ Outcome.Need ask → f ≡ fact h ask → AreAsked eval h q (facts ++ f ∷ [])
asked_more eval h q facts ask f lawful asked need told =
    let same : ask_of f ≡ ask = ap ask_of told ∙ fact_asked h ask in
    let wanted : eval (look facts) q ≡ Outcome.Need (ask_of f) = need ∙ ap (λ a. Outcome.Need a) (sym same) in
    record {
      trail = trail_push (λ known. eval (look known) q) facts f asked.trail wanted;
      true_facts = true_push h facts f asked.true_facts (told ∙ ap (fact h) (sym same));
      once = once_push facts f asked.once (lawful.unknown facts q (ask_of f) wanted);
    }

pub decided_else : (outcome : Outcome) → ((ask : Ask) → outcome ≡ Outcome.Need ask → ⊥) → IsDecided outcome
decided_else (Outcome.Need ask) other = other ask refl
decided_else (Outcome.Answer x) other = tt
decided_else (Outcome.Change x d) other = tt
