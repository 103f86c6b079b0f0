-- No ask of an evaluation stands twice, by the laws of an evaluator.
use Rattle.std.proofs.Common.{ℕ, zero, suc, ◌≡◌, ◌≢◌, ◌∙◌, List, [], ◌∷◌, ◌++◌, Option, Some, None, refl, sym, ap}
use Rattle.std.specs.List.{AllByRecursion}
use Rattle.zbase.specs.History.{History}
use Rattle.evaluator.specs.declared.ask.Ask.{Ask}
use Rattle.evaluator.specs.declared.fact.Fact.{Fact}
use Rattle.evaluator.specs.declared.outcome.Outcome.{Outcome}
use Rattle.evaluator.specs.Exec.{Eval, IsLawful, most_asks}
use Rattle.evaluator.specs.Facts.{ask_of, fact, look}
use Rattle.evaluator.specs.FactLaws.{fact_asked, look_more, look_new}
use Rattle.schedule.specs.Asks.{asked_from, asks_at, then_asked}

abbrev pub NoneTwice : List Ask → Type 0
NoneTwice [] = Unit {0}
NoneTwice (a ∷ asks) = AllByRecursion (λ b. b ≢ a) asks × NoneTwice asks

all_so : (P Q : Ask → Type 0) → ((a : Ask) → P a → Q a) → (asks : List Ask) → AllByRecursion P asks → AllByRecursion Q asks
all_so P Q so [] all = tt
all_so P Q so (a ∷ asks) all = (so a all.0, all_so P Q so asks all.1)

-- what isn't known of more facts isn't known of fewer
less_known : (known more : List Fact) (b : Ask) → look (known ++ more) b ≡ None → look known b ≡ None
less_known known more b e = go (look known b) refl
  where
    go : (r : Option Fact) → look known b ≡ r → look known b ≡ None
    go None is = is
    go (Some f) is = absurd (let bad : Some f ≡ None = sym (look_more known more b f is) ∙ e in cc)

-- the ask of the last fact is known
not_the_last : (h : History) (known : List Fact) (a b : Ask) → look known a ≡ None → look (known ++ fact h a ∷ []) b ≡ None → b ≢ a
not_the_last h known a b none e same =
    let asks : ask_of (fact h a) ≡ a = fact_asked h a in
    let found : look (known ++ fact h a ∷ []) (ask_of (fact h a)) ≡ Some (fact h a) = look_new known (fact h a) (ap (look known) asks ∙ none) in
    let bad : Some (fact h a) ≡ None = sym found ∙ ap (look (known ++ fact h a ∷ [])) (asks ∙ sym same) ∙ e in
    cc

unknown_from : {R : Type 0} (n : ℕ) (eval : Eval R) (h : History) (q : R) (known : List Fact) → IsLawful eval → AllByRecursion (λ b. look known b ≡ None) (asked_from n eval h q known)
unknown_from zero eval h q known lawful = tt
unknown_from (suc n) eval h q known lawful = go (eval (look known) q) refl (λ a. unknown_from n eval h q (known ++ fact h a ∷ []) lawful)
  where
    go : (o : Outcome) → eval (look known) q ≡ o → ((a : Ask) → AllByRecursion (λ b. look (known ++ fact h a ∷ []) b ≡ None) (asked_from n eval h q (known ++ fact h a ∷ [])))
        → AllByRecursion (λ b. look known b ≡ None) (then_asked o (λ ask. asked_from n eval h q (known ++ fact h ask ∷ [])))
    go (Outcome.Need a) e behind = (lawful.unknown known q a e, all_so (λ b. look (known ++ fact h a ∷ []) b ≡ None) (λ b. look known b ≡ None) (λ b. less_known known (fact h a ∷ []) b) (asked_from n eval h q (known ++ fact h a ∷ [])) (behind a))
    go (Outcome.Answer x) e behind = tt
    go (Outcome.Change x d) e behind = tt

once_from : {R : Type 0} (n : ℕ) (eval : Eval R) (h : History) (q : R) (known : List Fact) → IsLawful eval → NoneTwice (asked_from n eval h q known)
once_from zero eval h q known lawful = tt
once_from (suc n) eval h q known lawful = go (eval (look known) q) refl (λ a. once_from n eval h q (known ++ fact h a ∷ []) lawful)
  where
    go : (o : Outcome) → eval (look known) q ≡ o → ((a : Ask) → NoneTwice (asked_from n eval h q (known ++ fact h a ∷ []))) → NoneTwice (then_asked o (λ ask. asked_from n eval h q (known ++ fact h ask ∷ [])))
    go (Outcome.Need a) e behind = (
      all_so (λ b. look (known ++ fact h a ∷ []) b ≡ None) (λ b. b ≢ a) (λ b. not_the_last h known a b (lawful.unknown known q a e)) (asked_from n eval h q (known ++ fact h a ∷ [])) (unknown_from n eval h q (known ++ fact h a ∷ []) lawful),
      behind a,
    )
    go (Outcome.Answer x) e behind = tt
    go (Outcome.Change x d) e behind = tt

pub none_twice : {R : Type 0} (eval : Eval R) (h : History) (q : R) → IsLawful eval → NoneTwice (asks_at eval h q)
unfolding asks_at
none_twice eval h q lawful = once_from most_asks eval h q [] lawful
