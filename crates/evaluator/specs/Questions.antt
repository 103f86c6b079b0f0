-- Evaluations that are questions: an application's answer to a request as a tree over asks and facts, what it comes
-- to, and its limits.
use Rattle.std.specs.Prelude.{ℕ, zero, suc, ◌+◌, ◌≡◌, true, false, List, [], ◌∷◌, ◌++◌, length, sum_by, Option, Some, None, option_map, Result, Ok, Err, nat_lt, if◌then◌else◌}
use Rattle.zbase.specs.History.{Value}
use Rattle.zbase.specs.Query.{Query, Done, Stops, Asks, Halt, Need, Cause, run}
use Rattle.evaluator.specs.declared.ask.Ask.{Ask}
use Rattle.evaluator.specs.declared.draft.Draft.{Draft}
use Rattle.evaluator.specs.declared.fact.Fact.{Fact}
use Rattle.evaluator.specs.declared.fact.Part.{Part}
use Rattle.evaluator.specs.declared.outcome.Outcome.{Outcome}
use Rattle.evaluator.specs.declared.reply.Reply.{Reply}
use Rattle.evaluator.specs.Exec.{Eval, is_lasting, most_asks}
use Rattle.evaluator.specs.Facts.{ask_of, look}

-- what an evaluation makes: the reply to a reading request, or the reply to a writing request and its change
pub data Made : Type 0 where
  Reads : Reply → Made
  Changes : Reply → Draft → Made

-- A question over facts. What stops it is a reply too: a refusal.
abbrev pub Evaluation : Type 0
Evaluation = Query Ask Fact Reply Made

abbrev pub outcome : Result Made (Halt Ask Reply) → Outcome
outcome (Ok (Reads x)) = Outcome.Answer x
outcome (Ok (Changes x d)) = Outcome.Change x d
outcome (Err (Cause x)) = Outcome.Answer x
outcome (Err (Need ask)) = Outcome.Need ask

-- the meaning of an evaluator that evaluates each request so
abbrev pub meaning_of : {R : Type 0} → (R → Evaluation) → Eval R
meaning_of evaluation known q = outcome (run known (evaluation q))

-- ---- changes

-- no way through it ends in a change
abbrev pub NeverChanges : Evaluation → Type 0
NeverChanges (Done (Reads x)) = Unit {0}
NeverChanges (Done (Changes x d)) = ⊥
NeverChanges (Stops x) = Unit {0}
NeverChanges (Asks ask go) = (f : Fact) → NeverChanges (go f)

-- A change asks for nothing that passes: a way that met the log or an absent transaction ends in no change.
abbrev pub IsCareful : Evaluation → Type 0
IsCareful (Done m) = Unit {0}
IsCareful (Stops x) = Unit {0}
IsCareful (Asks ask go) = (f : Fact) → ask_of f ≡ ask → (is_lasting f ≡ true → IsCareful (go f)) × (is_lasting f ≡ false → NeverChanges (go f))

-- ---- questions over objects

-- a question over objects alone, put to facts; `seen` is what a fact shows of its object
abbrev pub over_facts : {R E A : Type 0} → (Fact → R) → Query ℕ R E A → Query Ask Fact E A
over_facts seen (Done x) = Done x
over_facts seen (Stops e) = Stops e
over_facts seen (Asks o go) = Asks (Ask.Object o) (λ f. over_facts seen (go (seen f)))

-- what is known of the objects
abbrev pub objects_of : {R : Type 0} → (Fact → R) → (Ask → Option Fact) → ℕ → Option R
objects_of seen known o = option_map seen (known (Ask.Object o))

-- an object that is needed, as an ask
abbrev pub as_ask : {E A : Type 0} → Result A (Halt ℕ E) → Result A (Halt Ask E)
as_ask (Ok x) = Ok x
as_ask (Err (Need o)) = Err (Need (Ask.Object o))
as_ask (Err (Cause e)) = Err (Cause e)

-- ---- limits

-- how many bytes of values an evaluation meets at most
abbrev pub most_bytes : ℕ
most_bytes = 67108864

abbrev pub size_of_value : Value → ℕ
size_of_value None = 0
size_of_value (Some bytes) = length bytes

abbrev pub size_of_part : Part → ℕ
size_of_part p = size_of_value p.after + size_of_value p.before

-- The bytes of a fact's values. A part counts before and after; the log has no values.
abbrev pub size_of_fact : Fact → ℕ
size_of_fact (Fact.Object o v s) = size_of_value v
size_of_fact (Fact.Transaction t None) = 0
size_of_fact (Fact.Transaction t (Some ps)) = sum_by size_of_part ps
size_of_fact (Fact.Log rows) = 0

-- an ask that was met is answered by what was met
abbrev pub met_or : Option Fact → (Fact → Evaluation) → Evaluation → Evaluation
met_or (Some f) again another = again f
met_or None again another = another

-- another one needs that one is left
abbrev pub counted : Reply → ℕ → Ask → (ℕ → Fact → Evaluation) → Evaluation
counted runaway zero ask go = Stops runaway
counted runaway (suc left) ask go = Asks ask (go left)

-- The same evaluation, over facts that were met and their bytes, with so many asks left: it stops with the runaway
-- reply at an ask more, and at a fact with which the bytes pass the limit.
abbrev pub limited : Reply → ℕ → List Fact → ℕ → ℕ → Evaluation → Evaluation
limited runaway limit met left bytes (Done m) = Done m
limited runaway limit met left bytes (Stops x) = Stops x
limited runaway limit met left bytes (Asks ask go) =
    met_or (look met ask) (λ f. limited runaway limit met left bytes (go f))
    (counted runaway left ask (λ left f. if nat_lt limit (bytes + size_of_fact f) then Stops runaway else limited runaway limit (met ++ f ∷ []) left (bytes + size_of_fact f) (go f)))

-- with at most 12,000 distinct asks, and 67,108,864 bytes of values
abbrev pub within_limits : Reply → Evaluation → Evaluation
within_limits runaway q = limited runaway most_bytes [] most_asks 0 q
