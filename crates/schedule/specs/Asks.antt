-- Which facts an evaluation asks for.
use Rattle.std.specs.Prelude.{ℕ, zero, suc, List, [], ◌∷◌, ◌++◌}
use Rattle.zbase.specs.History.{History}
use Rattle.evaluator.specs.declared.ask.Ask.{Ask}
use Rattle.evaluator.specs.declared.fact.Fact.{Fact}
use Rattle.evaluator.specs.declared.outcome.Outcome.{Outcome}
use Rattle.evaluator.specs.Exec.{Eval, most_asks}
use Rattle.evaluator.specs.Facts.{fact, look}

-- an ask and those behind it, or none where nothing is asked for
abbrev pub then_asked : Outcome → (Ask → List Ask) → List Ask
then_asked (Outcome.Need ask) behind = ask ∷ behind ask
then_asked (Outcome.Answer x) behind = []
then_asked (Outcome.Change x d) behind = []

-- what is asked for from these facts on, so many asks at most
abbrev pub asked_from : {R : Type 0} → ℕ → Eval R → History → R → List Fact → List Ask
asked_from zero eval h q known = []
asked_from (suc n) eval h q known = then_asked (eval (look known) q) (λ ask. asked_from n eval h q (known ++ fact h ask ∷ []))

-- The asks of the evaluation of a request over a history, in order: each is answered by the history before the next is
-- found. By the laws of an evaluator what is asked for isn't known, so that no ask stands twice.
unfoldable pub asks_at : {R : Type 0} → Eval R → History → R → List Ask
asks_at eval h q = asked_from most_asks eval h q []
