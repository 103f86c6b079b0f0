-- What is known of an ask, and what a trail of facts keeps.
use Rattle.std.proofs.Common.{◌≡◌, ◌≢◌, ℕ, zero, suc, ◌<◌, Bool, true, false, cond, List, [], ◌∷◌, ◌++◌, length, get_or, Some, None, refl, sym, ap, ◌∙◌, subst, filter, eqb-true, eq-eqb, append_assoc, append-nil, arith}
use Rattle.std.specs.Prelude.{AllPairs}
use Rattle.std.proofs.lemmas.List.Quantifiers.{all_pairs_push}
use Rattle.zbase.specs.History.{History}
use Rattle.evaluator.specs.declared.ask.Ask.{Ask}
use Rattle.evaluator.specs.declared.fact.Fact.{Fact}
use Rattle.evaluator.specs.declared.outcome.Outcome.{Outcome}
use Rattle.evaluator.specs.Facts.{fact, ask_of, same_ask, look, TrueOf, EachOnce}
use Rattle.evaluator.specs.Exec.{Eval, IsLawful, is_lasting, IsTrailFrom, IsTrail}

pub same_asks : (a b : Ask) → same_ask a b ≡ true → a ≡ b
same_asks (Ask.Object o) (Ask.Object p) e = ap Ask.Object (eqb-true o p e)
same_asks (Ask.Transaction t) (Ask.Transaction u) e = ap Ask.Transaction (eqb-true t u e)
same_asks Ask.Log Ask.Log e = refl
same_asks (Ask.Object o) (Ask.Transaction t) e = cc
same_asks (Ask.Object o) Ask.Log e = cc
same_asks (Ask.Transaction t) (Ask.Object o) e = cc
same_asks (Ask.Transaction t) Ask.Log e = cc
same_asks Ask.Log (Ask.Object o) e = cc
same_asks Ask.Log (Ask.Transaction t) e = cc

-- what is known answers that ask
pub look_asked : (facts : List Fact) (ask : Ask) (f : Fact) → look facts ask ≡ Some f → ask_of f ≡ ask
look_asked [] ask f e = cc
look_asked (g ∷ gs) ask f e = go (same_ask (ask_of g) ask) refl e (look_asked gs ask f)
  where
    go : (b : Bool) → same_ask (ask_of g) ask ≡ b → cond b (Some g) (look gs ask) ≡ Some f → (look gs ask ≡ Some f → ask_of f ≡ ask) → ask_of f ≡ ask
    go true same e' deeper = (let one : g ≡ f = cc in subst (λ k. ask_of k ≡ ask) one (same_asks (ask_of g) ask same))
    go false other e' deeper = deeper e'

-- and is what the history gives
pub look_true : (facts : List Fact) (h : History) (ask : Ask) (f : Fact) → TrueOf facts h → look facts ask ≡ Some f → f ≡ fact h ask
look_true [] h ask f all e = cc
look_true (g ∷ gs) h ask f all e = go (same_ask (ask_of g) ask) refl e (look_true gs h ask f all.1)
  where
    go : (b : Bool) → same_ask (ask_of g) ask ≡ b → cond b (Some g) (look gs ask) ≡ Some f → (look gs ask ≡ Some f → f ≡ fact h ask) → f ≡ fact h ask
    go true same e' deeper = (let one : g ≡ f = cc in sym one ∙ all.0 ∙ ap (fact h) (same_asks (ask_of g) ask same))
    go false other e' deeper = deeper e'

-- a lasting fact is found where the others are taken away
pub look_lasting : (facts : List Fact) (ask : Ask) (f : Fact) → look facts ask ≡ Some f → is_lasting f ≡ true → look (filter is_lasting facts) ask ≡ Some f
look_lasting [] ask f e lasts = cc
look_lasting (g ∷ gs) ask f e lasts = go (is_lasting g) (same_ask (ask_of g) ask) refl refl e (λ e'. look_lasting gs ask f e' lasts)
  where
    go : (l s : Bool) → is_lasting g ≡ l → same_ask (ask_of g) ask ≡ s → cond s (Some g) (look gs ask) ≡ Some f → (look gs ask ≡ Some f → look (filter is_lasting gs) ask ≡ Some f) → look (cond l (g ∷ filter is_lasting gs) (filter is_lasting gs)) ask ≡ Some f
    go false false il is e' deeper = deeper e'
    go true false il is e' deeper = rw is (deeper e')
    go true true il is e' deeper = rw is e'
    go false true il is e' deeper = (let one : g ≡ f = cc in cc)

-- and where others follow
pub look_more : (facts more : List Fact) (ask : Ask) (f : Fact) → look facts ask ≡ Some f → look (facts ++ more) ask ≡ Some f
look_more [] more ask f e = cc
look_more (g ∷ gs) more ask f e = go (same_ask (ask_of g) ask) e (look_more gs more ask f)
  where
    go : (b : Bool) → cond b (Some g) (look gs ask) ≡ Some f → (look gs ask ≡ Some f → look (gs ++ more) ask ≡ Some f) → cond b (Some g) (look (gs ++ more) ask) ≡ Some f
    go true e' deeper = e'
    go false e' deeper = deeper e'

pub same_self : (ask : Ask) → same_ask ask ask ≡ true
same_self (Ask.Object o) = eq-eqb o o refl
same_self (Ask.Transaction t) = eq-eqb t t refl
same_self Ask.Log = refl

-- a fact that wasn't known is found at the end
pub look_new : (facts : List Fact) (f : Fact) → look facts (ask_of f) ≡ None → look (facts ++ f ∷ []) (ask_of f) ≡ Some f
look_new [] f e = rw (same_self (ask_of f)) refl
look_new (g ∷ gs) f e = go (same_ask (ask_of g) (ask_of f)) e (look_new gs f)
  where
    go : (b : Bool) → cond b (Some g) (look gs (ask_of f)) ≡ None → (look gs (ask_of f) ≡ None → look (gs ++ f ∷ []) (ask_of f) ≡ Some f) → cond b (Some g) (look (gs ++ f ∷ []) (ask_of f)) ≡ Some f
    go true e' deeper = cc
    go false e' deeper = deeper e'

-- a fact of a history is of the ask that it answers
pub fact_asked : (h : History) (ask : Ask) → ask_of (fact h ask) ≡ ask
fact_asked h (Ask.Object o) = refl
fact_asked h (Ask.Transaction t) = refl
fact_asked h Ask.Log = refl

trail_longer : (given : List Fact → Outcome) (known facts : List Fact) (f : Fact) → IsTrailFrom given known facts → given (known ++ facts) ≡ Outcome.Need (ask_of f) → IsTrailFrom given known (facts ++ f ∷ [])
trail_longer given known [] f trail asks = (ap given (sym (append-nil known)) ∙ asks, tt)
trail_longer given known (g ∷ gs) f trail asks = (trail.0, trail_longer given (known ++ g ∷ []) gs f trail.1 (ap given (append_assoc known (g ∷ []) gs) ∙ asks))

-- one fact more, which was asked for
pub trail_push : (given : List Fact → Outcome) (facts : List Fact) (f : Fact) → IsTrail given facts → given facts ≡ Outcome.Need (ask_of f) → IsTrail given (facts ++ f ∷ [])
trail_push given facts f trail asks = trail_longer given [] facts f trail asks

-- ---- no ask stands twice in a trail

-- no fact answers an ask that isn't known
other_asks : (facts : List Fact) (ask : Ask) → look facts ask ≡ None → (k : ℕ) (d : Fact) → k < length facts → ask_of (get_or facts k d) ≢ ask
other_asks [] ask none k d below same = omega arith
other_asks (g ∷ gs) ask none k d below same = go (same_ask (ask_of g) ask) refl none k below same (λ unknown j lt e. other_asks gs ask unknown j d lt e)
  where
    go : (b : Bool) → same_ask (ask_of g) ask ≡ b → cond b (Some g) (look gs ask) ≡ None → (j : ℕ) → j < length (g ∷ gs) → ask_of (get_or (g ∷ gs) j d) ≡ ask → (look gs ask ≡ None → (i : ℕ) → i < length gs → ask_of (get_or gs i d) ≡ ask → ⊥) → ⊥
    go true is e zero lt same' deeper = cc
    go true is e (suc j) lt same' deeper = cc
    go false is e zero lt same' deeper = (let self : same_ask ask ask ≡ true = same_self ask in let other : same_ask ask ask ≡ false = subst (λ a. same_ask a ask ≡ false) same' is in cc)
    go false is e (suc j) lt same' deeper = deeper e j (omega arith) same'

pub once_push : (facts : List Fact) (f : Fact) → AllPairs (λ x y. ask_of x ≢ ask_of y) facts → look facts (ask_of f) ≡ None → AllPairs (λ x y. ask_of x ≢ ask_of y) (facts ++ f ∷ [])
once_push facts f once none = all_pairs_push (λ x y. ask_of x ≢ ask_of y) facts f once (λ k d below. other_asks facts (ask_of f) none k d below)

once_each : (given : List Fact → Outcome) → ((known : List Fact) (ask : Ask) → given known ≡ Outcome.Need ask → look known ask ≡ None) → (known facts : List Fact) → EachOnce known → IsTrailFrom given known facts → EachOnce (known ++ facts)
once_each given unknown known [] once trail = subst EachOnce (sym (append-nil known)) once
once_each given unknown known (f ∷ fs) once trail =
    subst EachOnce (append_assoc known (f ∷ []) fs) (once_each given unknown (known ++ f ∷ []) fs (once_push known f once (unknown known (ask_of f) trail.0)) trail.1)

pub trail_once : {R : Type 0} (eval : Eval R) (q : R) (facts : List Fact) → IsLawful eval → IsTrail (λ known. eval (look known) q) facts → EachOnce facts
trail_once eval q facts lawful trail = once_each (λ known. eval (look known) q) (λ known ask e. lawful.unknown known q ask e) [] facts (λ i j d h k. absurd (omega arith)) trail

-- where each ask stands once, a fact that answers an ask is the one for it
pub look_there : (facts : List Fact) (i : ℕ) (ask : Ask) (d : Fact) → EachOnce facts → i < length facts → same_ask (ask_of (get_or facts i d)) ask ≡ true → look facts ask ≡ Some (get_or facts i d)
look_there [] i ask d once lt same = absurd (omega arith)
look_there (g ∷ gs) zero ask d once lt same = rw same refl
look_there (g ∷ gs) (suc i) ask d once lt same = at (same_ask (ask_of g) ask) refl (look_there gs i ask d (λ j k e h l. once (suc j) (suc k) e (omega (arith, h)) (omega (arith, l))) (omega (arith, lt)) same)
  where
    at : (b : Bool) → same_ask (ask_of g) ask ≡ b → look gs ask ≡ Some (get_or gs i d) → cond b (Some g) (look gs ask) ≡ Some (get_or gs i d)
    at true e deeper = absurd (once 0 (suc i) d (omega arith) (omega (arith, lt)) (same_asks (ask_of g) ask e ∙ sym (same_asks (ask_of (get_or gs i d)) ask same)))
    at false e deeper = deeper
