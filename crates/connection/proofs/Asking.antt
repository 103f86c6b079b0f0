-- A trail of facts answers what its evaluation asks for.
use Rattle.std.proofs.Common.{◌≡◌, ℕ, zero, suc, ◌≤◌, List, [], ◌∷◌, ◌++◌, length, map, refl, ap, sym, ◌∙◌, subst, arith, append-nil, append_assoc}
use Rattle.zbase.specs.History.{History}
use Rattle.evaluator.specs.declared.ask.Ask.{Ask}
use Rattle.evaluator.specs.declared.draft.Draft.{Draft}
use Rattle.evaluator.specs.declared.fact.Fact.{Fact}
use Rattle.evaluator.specs.declared.outcome.Outcome.{Outcome}
use Rattle.evaluator.specs.declared.reply.Reply.{Reply}
use Rattle.evaluator.specs.Exec.{Eval, IsDecided, IsTrail, IsTrailFrom, most_asks}
use Rattle.evaluator.specs.Facts.{TrueOf, ask_of, fact, look}
use Rattle.schedule.specs.Moments.{Attempt}
use Rattle.schedule.specs.Asks.{asked_from, asks_at, then_asked}
use Rattle.connection.specs.Asked.{HasAsked}

nothing_asked : (o : Outcome) (behind : Ask → List Ask) → IsDecided o → then_asked o behind ≡ []
nothing_asked (Outcome.Need ask) behind decided = absurd decided
nothing_asked (Outcome.Answer x) behind decided = refl
nothing_asked (Outcome.Change x d) behind decided = refl

none_from : {R : Type 0} (n : ℕ) (eval : Eval R) (h : History) (q : R) (known : List Fact) → IsDecided (eval (look known) q) → [] ≡ asked_from n eval h q known
none_from zero eval h q known decided = refl
none_from (suc n) eval h q known decided = sym (nothing_asked (eval (look known) q) (λ ask. asked_from n eval h q (known ++ fact h ask ∷ [])) decided)

trail_from : {R : Type 0} (n : ℕ) (eval : Eval R) (h : History) (q : R) (known facts : List Fact) → IsTrailFrom (λ k. eval (look k) q) known facts → TrueOf facts h → length facts ≤ n → IsDecided (eval (look (known ++ facts)) q) → map ask_of facts ≡ asked_from n eval h q known
trail_from n eval h q known [] trail true few decided = none_from n eval h q known (subst (λ k. IsDecided (eval (look k) q)) (append-nil known) decided)
trail_from zero eval h q known (f ∷ facts) trail true few decided = absurd (omega (arith, few))
trail_from (suc n) eval h q known (f ∷ facts) trail true few decided =
    let behind : Ask → List Ask = (λ ask. asked_from n eval h q (known ++ fact h ask ∷ [])) in
    let rest : map ask_of facts ≡ asked_from n eval h q (known ++ f ∷ []) = trail_from n eval h q (known ++ f ∷ []) facts trail.1 true.1 (omega (arith, few)) (subst (λ k. IsDecided (eval (look k) q)) (sym (append_assoc known (f ∷ []) facts)) decided) in
    ap (λ asks. ask_of f ∷ asks) (rest ∙ ap (λ k. asked_from n eval h q (known ++ k ∷ [])) true.0) ∙ ap (λ o. then_asked o behind) (sym trail.0)

pub has_asked : {R : Type 0} (eval : Eval R) (a : Attempt R) → IsTrail (λ k. eval (look k) a.request) a.facts → length a.facts ≤ most_asks → IsDecided (eval (look a.facts) a.request) → HasAsked eval a
unfolding asks_at
has_asked eval a trail few decided = λ h true. trail_from most_asks eval h a.request [] a.facts trail true few decided

pub answer_decided : (o : Outcome) (x : Reply) → o ≡ Outcome.Answer x → IsDecided o
answer_decided o x is = rw is tt

pub change_decided : (o : Outcome) (x : Reply) (d : Draft) → o ≡ Outcome.Change x d → IsDecided o
change_decided o x d is = rw is tt
