-- Evaluation: over what is known, over a whole history, and the laws on which the order of transactions rests.
use Rattle.std.specs.Prelude.{ℕ, ◌≡◌, Bool, true, false, List, [], ◌∷◌, ◌++◌, filter, Option, Some, None}
use Rattle.zbase.specs.History.{History}
use Rattle.evaluator.specs.declared.ask.Ask.{Ask}
use Rattle.evaluator.specs.declared.draft.Draft.{Draft}
use Rattle.evaluator.specs.declared.fact.Fact.{Fact}
use Rattle.evaluator.specs.declared.outcome.Outcome.{Outcome}
use Rattle.evaluator.specs.declared.reply.Reply.{Reply}
use Rattle.evaluator.specs.Facts.{fact, ask_of, look, TrueOf}

-- What an evaluator means: from what is known of each ask, and a request, an ask that isn't known, an answer or
-- a change.
abbrev pub Eval : Type 0 → Type 0
Eval R = (Ask → Option Fact) → R → Outcome

-- the request is one that some bytes are taken as
abbrev pub WasTaken : {R : Type 0} → (List ℕ → Option R) → R → Type 0
WasTaken takes q = (bytes : List ℕ) × (takes bytes ≡ Some q)

-- where each ask is looked up in the history
abbrev pub exec : {R : Type 0} → Eval R → History → R → Outcome
exec eval h q = eval (λ ask. Some (fact h ask)) q

-- an answer or a change
abbrev pub IsDecided : Outcome → Type 0
IsDecided (Outcome.Need ask) = ⊥
IsDecided (Outcome.Answer x) = Unit {0}
IsDecided (Outcome.Change x d) = Unit {0}

-- A fact that longer histories give too, as long as its object isn't written: neither the log nor an absent
-- transaction.
abbrev pub is_lasting : Fact → Bool
is_lasting (Fact.Object o v s) = true
is_lasting (Fact.Transaction t None) = false
is_lasting (Fact.Transaction t (Some ps)) = true
is_lasting (Fact.Log rows) = false

pub record IsLawful {R : Type 0} (eval : Eval R) : Type 0 where
  -- what is decided on true facts is decided so on the whole history
  pub whole : (facts : List Fact) (h : History) (q : R) → TrueOf facts h → IsDecided (eval (look facts) q) → exec eval h q ≡ eval (look facts) q
  -- a change rests on lasting facts alone
  pub lasting : (facts : List Fact) (q : R) (x : Reply) (d : Draft) → eval (look facts) q ≡ Outcome.Change x d → eval (look (filter is_lasting facts)) q ≡ Outcome.Change x d
  -- what is asked for isn't known
  pub unknown : (facts : List Fact) (q : R) (ask : Ask) → eval (look facts) q ≡ Outcome.Need ask → look facts ask ≡ None

-- each fact was asked for, given those before it
abbrev pub IsTrailFrom : (List Fact → Outcome) → List Fact → List Fact → Type 0
IsTrailFrom given known [] = Unit {0}
IsTrailFrom given known (f ∷ fs) = (given known ≡ Outcome.Need (ask_of f)) × IsTrailFrom given (known ++ f ∷ []) fs

abbrev pub IsTrail : (List Fact → Outcome) → List Fact → Type 0
IsTrail given facts = IsTrailFrom given [] facts

-- how many distinct asks an evaluation has at most
abbrev pub most_asks : ℕ
most_asks = 12000
