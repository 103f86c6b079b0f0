-- The limits of an evaluation hold on each way through it, and keep its laws.
use Rattle.std.proofs.Common.{ℕ, zero, suc, ◌+◌, ◌≡◌, refl, Bool, true, false, List, [], ◌∷◌, ◌++◌, Option, Some, None, if◌then◌else◌, nat_lt}
use Rattle.zbase.specs.Query.{Done, Stops, Asks, IsWithin}
use Rattle.evaluator.specs.declared.ask.Ask.{Ask}
use Rattle.evaluator.specs.declared.fact.Fact.{Fact}
use Rattle.evaluator.specs.declared.reply.Reply.{Reply}
use Rattle.evaluator.specs.Exec.{is_lasting}
use Rattle.evaluator.specs.FactLaws.{look_asked}
use Rattle.evaluator.specs.Facts.{ask_of, look}
use Rattle.evaluator.specs.Questions.{Evaluation, NeverChanges, IsCareful, met_or, counted, limited, size_of_fact}

-- what follows a fact that was asked for
abbrev Cut : Reply → ℕ → List Fact → ℕ → (Fact → Evaluation) → Bool → ℕ → Fact → Evaluation
Cut runaway limit met bytes go over left f = if over then Stops runaway else limited runaway limit (met ++ f ∷ []) left (bytes + size_of_fact f) (go f)

-- what follows an ask, where it was met and where it wasn't
abbrev Branch : Reply → ℕ → List Fact → ℕ → Ask → (Fact → Evaluation) → Option Fact → ℕ → Evaluation
Branch runaway limit met bytes ask go o left = met_or o (λ f. limited runaway limit met left bytes (go f)) (counted runaway left ask (λ left f. Cut runaway limit met bytes go (nat_lt limit (bytes + size_of_fact f)) left f))

-- no way has more asks than are left
pub limited_within : (runaway : Reply) (limit : ℕ) (met : List Fact) (left bytes : ℕ) (q : Evaluation) → IsWithin left (limited runaway limit met left bytes q)
limited_within runaway limit met left bytes (Done m) = tt
limited_within runaway limit met left bytes (Stops x) = tt
limited_within runaway limit met left bytes (Asks ask go) = at (λ f met left bytes. limited_within runaway limit met left bytes (go f)) (look met ask) left
  where
    Deeper : Type 0
    Deeper = (f : Fact) (met : List Fact) (left bytes : ℕ) → IsWithin left (limited runaway limit met left bytes (go f))

    cut : Deeper → (n : ℕ) (over : Bool) (f : Fact) → IsWithin n (Cut runaway limit met bytes go over n f)
    cut deeper n true f = tt
    cut deeper n false f = deeper f (met ++ f ∷ []) n (bytes + size_of_fact f)

    at : Deeper → (o : Option Fact) (left : ℕ) → IsWithin left (Branch runaway limit met bytes ask go o left)
    at deeper (Some f) left = deeper f met left bytes
    at deeper None zero = tt
    at deeper None (suc n) = λ f. cut deeper n (nat_lt limit (bytes + size_of_fact f)) f

never_careful : (q : Evaluation) → NeverChanges q → IsCareful q
never_careful (Done m) n = tt
never_careful (Stops x) n = tt
never_careful (Asks ask go) n = λ f is. (λ l. never_careful (go f) (n f), λ l. n f)

never_limited : (runaway : Reply) (limit : ℕ) (met : List Fact) (left bytes : ℕ) (q : Evaluation) → NeverChanges q → NeverChanges (limited runaway limit met left bytes q)
never_limited runaway limit met left bytes (Done m) n = n
never_limited runaway limit met left bytes (Stops x) n = tt
never_limited runaway limit met left bytes (Asks ask go) n = at (λ f met left bytes. never_limited runaway limit met left bytes (go f) (n f)) (look met ask) left
  where
    Deeper : Type 0
    Deeper = (f : Fact) (met : List Fact) (left bytes : ℕ) → NeverChanges (limited runaway limit met left bytes (go f))

    cut : Deeper → (n : ℕ) (over : Bool) (f : Fact) → NeverChanges (Cut runaway limit met bytes go over n f)
    cut deeper n true f = tt
    cut deeper n false f = deeper f (met ++ f ∷ []) n (bytes + size_of_fact f)

    at : Deeper → (o : Option Fact) (left : ℕ) → NeverChanges (Branch runaway limit met bytes ask go o left)
    at deeper (Some f) left = deeper f met left bytes
    at deeper None zero = tt
    at deeper None (suc n) = λ f. cut deeper n (nat_lt limit (bytes + size_of_fact f)) f

-- a change still asks for nothing that passes
pub careful_limited : (runaway : Reply) (limit : ℕ) (met : List Fact) (left bytes : ℕ) (q : Evaluation) → IsCareful q → IsCareful (limited runaway limit met left bytes q)
careful_limited runaway limit met left bytes (Done m) c = tt
careful_limited runaway limit met left bytes (Stops x) c = tt
careful_limited runaway limit met left bytes (Asks ask go) c =
    at (λ f is lasts met left bytes. careful_limited runaway limit met left bytes (go f) ((c f is).0 lasts)) (look met ask) refl left
  where
    Deeper : Type 0
    Deeper = (f : Fact) → ask_of f ≡ ask → is_lasting f ≡ true → (met : List Fact) (left bytes : ℕ) → IsCareful (limited runaway limit met left bytes (go f))

    cut : Deeper → (n : ℕ) (over : Bool) (f : Fact) → ask_of f ≡ ask → is_lasting f ≡ true → IsCareful (Cut runaway limit met bytes go over n f)
    cut deeper n true f is l = tt
    cut deeper n false f is l = deeper f is l (met ++ f ∷ []) n (bytes + size_of_fact f)

    cut_never : (n : ℕ) (over : Bool) (f : Fact) → NeverChanges (go f) → NeverChanges (Cut runaway limit met bytes go over n f)
    cut_never n true f no_change = tt
    cut_never n false f no_change = never_limited runaway limit (met ++ f ∷ []) n (bytes + size_of_fact f) (go f) no_change

    by_kind : Deeper → (f : Fact) → ask_of f ≡ ask → (lasts : Bool) → is_lasting f ≡ lasts → (n : ℕ) → IsCareful (limited runaway limit met n bytes (go f))
    by_kind deeper f is true l n = deeper f is l met n bytes
    by_kind deeper f is false l n = never_careful _ (never_limited runaway limit met n bytes (go f) ((c f is).1 l))

    at : Deeper → (o : Option Fact) → look met ask ≡ o → (n : ℕ) → IsCareful (Branch runaway limit met bytes ask go o n)
    at deeper (Some f) is n = by_kind deeper f (look_asked met ask f is) (is_lasting f) refl n
    at deeper None is zero = tt
    at deeper None is (suc n) = λ f asked. (λ l. cut deeper n (nat_lt limit (bytes + size_of_fact f)) f asked l, λ l. cut_never n (nat_lt limit (bytes + size_of_fact f)) f ((c f asked).1 l))
