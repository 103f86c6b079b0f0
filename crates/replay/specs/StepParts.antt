-- The lines of a step in two parts: what came of it, and the reply by which it ended its request.
use Rattle.std.specs.Prelude.{ℕ, List, [], ◌∷◌, ◌++◌, Option, None, Some}
use Rattle.schedule.specs.declared.line.Line.{Line}
use Rattle.schedule.specs.Causes.{denied_line, shown_lines}
use Rattle.txn_core.specs.declared.step_line.StepLine.{StepLine}
use Rattle.txn_core.specs.StepLines.{latest, spent_line}

-- the line that says what came of the step: how its request goes on, or why it ended; none of an answer of its evaluation
abbrev pub cause_line : ℕ → StepLine → Option Line
cause_line w StepLine.Idle = Some (Line.Idle w)
cause_line w (StepLine.Begun t) = Some (Line.Begin w t)
cause_line w (StepLine.Fetched ask) = Some (Line.Fetch w ask)
cause_line w StepLine.Computed = Some (Line.Computed w)
cause_line w (StepLine.Busy v) = Some (Line.Busy w v)
cause_line w (StepLine.Voted t) = Some (Line.Vote w t)
cause_line w (StepLine.Conflict c) = Some (Line.Conflict w c)
cause_line w (StepLine.GivenUp cs) = Some (Line.GivenUp w cs)
cause_line w (StepLine.Spent s) = Some (spent_line w s)
cause_line w StepLine.Memory = Some (Line.Memory w)
cause_line w StepLine.DiskFault = Some (Line.DiskFault w)
cause_line w (StepLine.Unknown t) = Some (Line.Unknown w t)
cause_line w (StepLine.Read x t) = None
cause_line w (StepLine.Commit x t) = None

-- before it the conflict at which a request is given up
abbrev pub last_conflict : ℕ → StepLine → List Line
last_conflict w (StepLine.GivenUp cs) = Line.Conflict w (latest cs) ∷ []
last_conflict w _ = []

abbrev pub line_or_none : Option Line → List Line
line_or_none None = []
line_or_none (Some line) = line ∷ []

abbrev pub cause_lines : ℕ → StepLine → List Line
cause_lines w line = last_conflict w line ++ line_or_none (cause_line w line)

-- the reply that has these bytes, with what it shows and was denied
abbrev pub reply_lines : ℕ → StepLine → List ℕ → List Line
reply_lines w (StepLine.Read x t) bytes = Line.ReplyRead w t bytes ∷ (shown_lines w x ++ denied_line w x.denied)
reply_lines w (StepLine.Commit x t) bytes = Line.ReplyCommit w t bytes ∷ shown_lines w x
reply_lines w _ bytes = Line.ReplyNone w bytes ∷ []
