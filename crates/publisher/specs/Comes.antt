-- What an evaluation comes to: over facts what its question does over the objects that they show, and within limits the
-- same, or the runaway reply.
use Rattle.std.proofs.Common.{ℕ, zero, suc, ◌+◌, ◌≡◌, ◌∙◌, ◌⊎◌, inl, inr, refl, sym, ap, subst, Bool, true, false, List, [], ◌∷◌, ◌++◌, Option, Some, None, Result, Ok, Err, if◌then◌else◌, nat_lt, cond}
use Rattle.std.specs.Option.{option_or}
use Rattle.zbase.specs.Query.{Query, Done, Stops, Asks, run, go_on, and_then, or_else, Halt, Need, Cause, Grows}
use Rattle.zbase.specs.QueryLaws.{run_then}
use Rattle.zbase.specs.History.{History}
use Rattle.evaluator.specs.declared.ask.Ask.{Ask}
use Rattle.evaluator.specs.declared.fact.Fact.{Fact}
use Rattle.evaluator.specs.declared.reply.Reply.{Reply}
use Rattle.evaluator.specs.Exec.{most_asks}
use Rattle.evaluator.specs.FactLaws.{fact_asked, look_asked, same_asks}
use Rattle.evaluator.specs.Facts.{ask_of, fact, look, same_ask}
use Rattle.evaluator.specs.QuestionLaws.{run_over}
use Rattle.evaluator.specs.Questions.{Evaluation, Made, as_ask, counted, limited, met_or, most_bytes, objects_of, over_facts, size_of_fact, within_limits}
use Rattle.http_in.specs.declared.message.Request.{Request}
use Rattle.publisher.specs.declared.answer.Answer.{Answer}
use Rattle.publisher.specs.Faults.{Fault}
use Rattle.publisher.specs.Site.{finished, over_history, refused_by, request, seen}

-- ---- causes in other words

abbrev pub reworded : {P E F A : Type 0} → (E → F) → Result A (Halt P E) → Result A (Halt P F)
reworded reword (Ok x) = Ok x
reworded reword (Err (Need ask)) = Err (Need ask)
reworded reword (Err (Cause e)) = Err (Cause (reword e))

go_on_same : {P R E A : Type 0} (ask : P) (go other : R → Result A (Halt P E)) → ((answer : R) → go answer ≡ other answer) → (o : Option R) → go_on ask go o ≡ go_on ask other o
go_on_same ask go other same None = refl
go_on_same ask go other same (Some answer) = same answer

reworded_at : {P R E F A : Type 0} (ask : P) (reword : E → F) (go : R → Result A (Halt P E)) (o : Option R) → go_on ask (λ answer. reworded reword (go answer)) o ≡ reworded reword (go_on ask go o)
reworded_at ask reword go None = refl
reworded_at ask reword go (Some answer) = refl

pub run_reworded : {P R E F A : Type 0} (known : P → Option R) (reword : E → F) (q : Query P R E A) → run known (or_else reword q) ≡ reworded reword (run known q)
run_reworded known reword (Done x) = refl
run_reworded known reword (Stops e) = refl
run_reworded known reword (Asks ask go) = go_on_same ask _ _ (λ answer. run_reworded known reword (go answer)) (known ask) ∙ reworded_at ask reword (λ answer. run known (go answer)) (known ask)

-- ---- over facts

-- what a request comes to over what is known, by what its question does over the objects
abbrev pub made_of : (Ask → Option Fact) → Request → Result Answer (Halt Ask Fault) → Result Made (Halt Ask Reply)
made_of known q (Ok x) = run known (finished q x)
made_of known q (Err (Need ask)) = Err (Need ask)
made_of known q (Err (Cause fault)) = Err (Cause (refused_by q.method fault))

made_so : (known : Ask → Option Fact) (q : Request) (r : Result Answer (Halt ℕ Fault)) → and_then (as_ask (reworded (refused_by q.method) r)) (λ x. run known (finished q x)) ≡ made_of known q (as_ask r)
made_so known q (Ok x) = refl
made_so known q (Err (Need o)) = refl
made_so known q (Err (Cause fault)) = refl

pub over_history_comes : (known : Ask → Option Fact) (q : Request) → run known (over_history q) ≡ made_of known q (as_ask (run (objects_of seen known) (request q)))
over_history_comes known q =
    let inner = or_else (refused_by q.method) (request q) in
    run_then known (over_facts seen inner) (finished q)
    ∙ ap (λ r. and_then r (λ x. run known (finished q x))) (run_over seen known inner ∙ ap as_ask (run_reworded (objects_of seen known) (refused_by q.method) (request q)))
    ∙ made_so known q (run (objects_of seen known) (request q))

-- ---- within limits

-- each fact that is known answers its ask
abbrev pub Tells : (Ask → Option Fact) → Type 0
Tells known = (ask : Ask) (f : Fact) → known ask ≡ Some f → ask_of f ≡ ask

pub facts_tell : (facts : List Fact) → Tells (look facts)
facts_tell facts = look_asked facts

some_is : (f g : Fact) → ◌≡◌ {A = Option Fact} (Some f) (Some g) → f ≡ g
some_is f g e = cc

pub history_tells : (h : History) → Tells (λ ask. Some (fact h ask))
history_tells h = λ ask f e. subst (λ g. ask_of g ≡ ask) (some_is (fact h ask) f e) (fact_asked h ask)

-- a fact more answers what wasn't known before
pub look_push : (met : List Fact) (f : Fact) (ask : Ask) → look (met ++ f ∷ []) ask ≡ option_or (look met ask) (if same_ask (ask_of f) ask then Some f else None)
look_push [] f ask = refl
look_push (m ∷ met) f ask = at (same_ask (ask_of m) ask) (look_push met f ask)
  where
    at : (same : Bool) → look (met ++ f ∷ []) ask ≡ option_or (look met ask) (if same_ask (ask_of f) ask then Some f else None) →
        cond same (Some m) (look (met ++ f ∷ []) ask) ≡ option_or (cond same (Some m) (look met ask)) (if same_ask (ask_of f) ask then Some f else None)
    at true deeper = refl
    at false deeper = deeper

-- what was met is known, also with a fact more that is
met_more : (known : Ask → Option Fact) (met : List Fact) (f : Fact) → Grows (look met) known → known (ask_of f) ≡ Some f → Grows (look (met ++ f ∷ [])) known
met_more known met f grows is = λ ask g e. at ask g (look met ask) refl (sym (look_push met f ask) ∙ e)
  where
    new : (ask : Ask) (g : Fact) (same : Bool) → same_ask (ask_of f) ask ≡ same → (if same then Some f else None) ≡ Some g → known ask ≡ Some g
    new ask g true same e = subst (λ a. known a ≡ Some f) (same_asks (ask_of f) ask same) is ∙ e
    new ask g false same e = absurd (let bad = e in cc)

    at : (ask : Ask) (g : Fact) (o : Option Fact) → look met ask ≡ o → option_or o (if same_ask (ask_of f) ask then Some f else None) ≡ Some g → known ask ≡ Some g
    at ask g (Some k) found e = grows ask k found ∙ e
    at ask g None none e = new ask g (same_ask (ask_of f) ask) refl e

-- it is runaway, or what the evaluation comes to without limits
abbrev IsLimited : Reply → (Ask → Option Fact) → Evaluation → Evaluation → Type 0
IsLimited runaway known q bound = (run known bound ≡ Err (Cause runaway)) ⊎ (run known bound ≡ run known q)

limited_so : (runaway : Reply) (limit : ℕ) (known : Ask → Option Fact) → Tells known → (met : List Fact) (left bytes : ℕ) (q : Evaluation) → Grows (look met) known → IsLimited runaway known q (limited runaway limit met left bytes q)
limited_so runaway limit known tells met left bytes (Done m) grows = inr refl
limited_so runaway limit known tells met left bytes (Stops x) grows = inr refl
limited_so runaway limit known tells met left bytes (Asks ask go) grows = at (λ f met left bytes grows. limited_so runaway limit known tells met left bytes (go f) grows) (look met ask) refl left
  where
    Deeper : Type 0
    Deeper = (f : Fact) (met : List Fact) (left bytes : ℕ) → Grows (look met) known → IsLimited runaway known (go f) (limited runaway limit met left bytes (go f))

    Cut : Bool → ℕ → Fact → Evaluation
    Cut over left f = if over then Stops runaway else limited runaway limit (met ++ f ∷ []) left (bytes + size_of_fact f) (go f)

    cut : Deeper → (over : Bool) (n : ℕ) (f : Fact) → known ask ≡ Some f → IsLimited runaway known (go f) (Cut over n f)
    cut deeper true n f e = inl refl
    cut deeper false n f e = deeper f (met ++ f ∷ []) n (bytes + size_of_fact f) (met_more known met f grows (ap known (tells ask f e) ∙ e))

    asked : Deeper → (n : ℕ) (o : Option Fact) → known ask ≡ o → IsLimited runaway known (Asks ask go) (Asks ask (λ f. Cut (nat_lt limit (bytes + size_of_fact f)) n f))
    asked deeper n None e = inr (ap (go_on ask (λ f. run known (Cut (nat_lt limit (bytes + size_of_fact f)) n f))) e ∙ sym (ap (go_on ask (λ f. run known (go f))) e))
    asked deeper n (Some f) e = elim (cut deeper (nat_lt limit (bytes + size_of_fact f)) n f e) [
      | inl runs ↦ inl (ap (go_on ask (λ f. run known (Cut (nat_lt limit (bytes + size_of_fact f)) n f))) e ∙ runs)
      | inr same ↦ inr (ap (go_on ask (λ f. run known (Cut (nat_lt limit (bytes + size_of_fact f)) n f))) e ∙ same ∙ sym (ap (go_on ask (λ f. run known (go f))) e))
    ]

    again : Deeper → (f : Fact) (n : ℕ) → known ask ≡ Some f → IsLimited runaway known (Asks ask go) (limited runaway limit met n bytes (go f))
    again deeper f n e = elim (deeper f met n bytes grows) [
      | inl runs ↦ inl runs
      | inr same ↦ inr (same ∙ sym (ap (go_on ask (λ f. run known (go f))) e))
    ]

    at : Deeper → (o : Option Fact) → look met ask ≡ o → (left : ℕ) →
        IsLimited runaway known (Asks ask go) (met_or o (λ f. limited runaway limit met left bytes (go f)) (counted runaway left ask (λ left f. Cut (nat_lt limit (bytes + size_of_fact f)) left f)))
    at deeper (Some f) found left = again deeper f left (grows ask f found)
    at deeper None none zero = inl refl
    at deeper None none (suc n) = asked deeper n (known ask) refl

none_met : (known : Ask → Option Fact) → Grows (look []) known
none_met known = λ ask f e. absurd (let bad = e in cc)

-- an evaluation within limits
pub within_or : (runaway : Reply) (known : Ask → Option Fact) (q : Evaluation) → Tells known → (run known (within_limits runaway q) ≡ Err (Cause runaway)) ⊎ (run known (within_limits runaway q) ≡ run known q)
within_or runaway known q tells = limited_so runaway most_bytes known tells [] most_asks 0 q (none_met known)
