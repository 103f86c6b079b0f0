-- What a request prints that meets nothing, and in how many steps of its worker.
use Rattle.std.specs.Prelude.{ℕ, ◌≡◌, ◌==◌, Bool, true, false, List, [], ◌∷◌, ◌++◌, length, map, take, Some, if◌then◌else◌}
use Rattle.std.specs.List.{AllByRecursion}
use Rattle.zbase.specs.History.{History}
use Rattle.zbase.specs.Values.{upto}
use Rattle.evaluator.specs.declared.ask.Ask.{Ask}
use Rattle.evaluator.specs.declared.outcome.Outcome.{Outcome}
use Rattle.evaluator.specs.declared.reply.Mark.{Mark}
use Rattle.evaluator.specs.Exec.{exec}
use Rattle.schedule.specs.declared.item.Item2.{Item2}
use Rattle.schedule.specs.declared.line.Line.{Line}
use Rattle.schedule.specs.Asks.{asks_at}
use Rattle.schedule.specs.Causes.{denied_line, shown_lines}
use Rattle.schedule.specs.Courses.{Place, lines_of}
use Rattle.schedule.specs.Moments.{Terms}

-- The line says that the worker's request met something: a stop or a fault, want of memory, another's vote, a conflict, or
-- that something is spent.
abbrev pub hinders : ℕ → Line → Bool
hinders w Line.Stop = true
hinders w (Line.DiskFault v) = v == w
hinders w (Line.Unknown v t) = v == w
hinders w (Line.Memory v) = v == w
hinders w (Line.Busy v holder) = v == w
hinders w (Line.Conflict v c) = v == w
hinders w (Line.SpentTids v) = v == w
hinders w (Line.SpentOids v o n) = v == w
hinders w (Line.SpentFull v need limit) = v == w
hinders w _ = false

-- the worker's request met nothing in these lines
abbrev pub IsUnhindered : ℕ → List Line → Type 0
IsUnhindered w lines = AllByRecursion (λ line. hinders w line ≡ false) lines

abbrev pub is_step_of : ℕ → Item2 → Bool
is_step_of w (Item2.Step v) = v == w
is_step_of w _ = false

-- what each step of the worker printed, one by one
abbrev pub steps_of : {R : Type 0} → ℕ → List (Place R) → List (List Line)
steps_of w [] = []
steps_of w (p ∷ ps) = if is_step_of w p.item then p.lines ∷ steps_of w ps else steps_of w ps

-- a step for each ask
abbrev pub fetch_steps : ℕ → List Ask → List (List Line)
fetch_steps w asks = map (λ ask. Line.Fetch w ask ∷ []) asks

-- The last steps, by what the evaluation comes to: an answer is the reply; a change is computed, voted for with this id, and
-- committed, which is the reply.
abbrev pub last_steps : {R : Type 0} → Terms R → ℕ → ℕ → ℕ → Outcome → List (List Line)
last_steps terms w at tid (Outcome.Need ask) = []
last_steps terms w at tid (Outcome.Answer x) = (Line.ReplyRead w at (terms.answer x (Mark.Read at)) ∷ (shown_lines w x ++ denied_line w x.denied)) ∷ []
last_steps terms w at tid (Outcome.Change x d) = (Line.Computed w ∷ []) ∷ (Line.Vote w tid ∷ []) ∷ (Line.ReplyCommit w tid (terms.answer x (Mark.Commit tid)) ∷ shown_lines w x) ∷ []

-- All steps of a request that meets nothing, by the history of which it reads the part up to its snapshot: it begins, fetches
-- a fact for each ask of its evaluation there, in order, and comes to its reply.
abbrev pub whole_steps : {R : Type 0} → Terms R → History → ℕ → ℕ → ℕ → R → List (List Line)
whole_steps terms h w at tid q = (Line.Begin w at ∷ []) ∷ (fetch_steps w (asks_at terms.eval (upto h at) q) ++ last_steps terms w at tid (exec terms.eval (upto h at) q))

-- the lists are the same as far as the shorter one goes
abbrev pub GoTogether : {A : Type 0} → List A → List A → Type 0
GoTogether xs ys = take (length ys) xs ≡ take (length xs) ys

-- The worker was given the request in a run, and met nothing in the places that follow.
pub record GoesUnhindered {R : Type 0} (terms : Terms R) (trace : List (Place R)) (w : ℕ) (q : R) (during : List (Place R)) : Type 0 where
  pub before : List (Place R)
  pub place : Place R
  pub bytes : List ℕ
  pub after : List (Place R)
  pub all : trace ≡ before ++ place ∷ (during ++ after)
  pub given : place.item ≡ Item2.Request w bytes
  pub takes : terms.takes bytes ≡ Some q
  pub quiet : IsUnhindered w (lines_of during)
