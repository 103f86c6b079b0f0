-- The lines of a report that a step of a worker prints.
use Rattle.std.specs.Prelude.{ℕ, List, [], ◌∷◌, ◌++◌}
use Rattle.zbase.specs.declared.ids.Clash.{Clash}
use Rattle.evaluator.specs.declared.reply.Mark.{Mark}
use Rattle.evaluator.specs.declared.reply.Reply.{Reply}
use Rattle.evaluator.specs.Change.{IsReply}
use Rattle.schedule.specs.declared.line.Line.{Line}
use Rattle.schedule.specs.Causes.{conflict_reply, denied_line, fault_reply, full_reply, memory_reply, oids_reply, shown_lines, tids_reply, unknown_reply}
use Rattle.fs_store.specs.declared.refusal.Spent.{Spent}
use Rattle.txn_core.specs.declared.step_line.StepLine.{StepLine}

-- the last of some conflicts, or this one
abbrev pub latest_of : Clash → List Clash → Clash
latest_of d [] = d
latest_of d (c ∷ cs) = latest_of c cs

-- the last conflict
abbrev pub latest : List Clash → Clash
latest cs = latest_of (record { oid = 0; seen = 0; found = 0 }) cs

abbrev pub spent_line : ℕ → Spent → Line
spent_line w Spent.Tids = Line.SpentTids w
spent_line w (Spent.Oids greatest new) = Line.SpentOids w greatest new
spent_line w (Spent.Full need limit) = Line.SpentFull w need limit

abbrev pub spent_reply : Spent → Reply
spent_reply Spent.Tids = tids_reply
spent_reply (Spent.Oids greatest new) = oids_reply
spent_reply (Spent.Full need limit) = full_reply need limit

-- a reply of the application keeps the rules of a reply
abbrev pub IsAnswered : StepLine → Type 0
IsAnswered (StepLine.Read x t) = IsReply x
IsAnswered (StepLine.Commit x t) = IsReply x
IsAnswered _ = Unit {0}

-- lines, and the reply that goes with no transaction
abbrev pub none_lines : (Reply → Mark → List ℕ) → ℕ → List Line → Reply → List Line
none_lines answer w lines x = lines ++ Line.ReplyNone w (answer x Mark.Empty) ∷ []

abbrev pub step_lines : (Reply → Mark → List ℕ) → ℕ → StepLine → List Line
step_lines answer w StepLine.Idle = Line.Idle w ∷ []
step_lines answer w (StepLine.Begun t) = Line.Begin w t ∷ []
step_lines answer w (StepLine.Fetched ask) = Line.Fetch w ask ∷ []
step_lines answer w StepLine.Computed = Line.Computed w ∷ []
step_lines answer w (StepLine.Busy v) = Line.Busy w v ∷ []
step_lines answer w (StepLine.Voted t) = Line.Vote w t ∷ []
step_lines answer w (StepLine.Conflict c) = Line.Conflict w c ∷ []
step_lines answer w (StepLine.GivenUp cs) = none_lines answer w (Line.Conflict w (latest cs) ∷ Line.GivenUp w cs ∷ []) (conflict_reply (latest cs).oid)
step_lines answer w (StepLine.Spent s) = none_lines answer w (spent_line w s ∷ []) (spent_reply s)
step_lines answer w StepLine.Memory = none_lines answer w (Line.Memory w ∷ []) memory_reply
step_lines answer w StepLine.DiskFault = none_lines answer w (Line.DiskFault w ∷ []) fault_reply
step_lines answer w (StepLine.Unknown t) = none_lines answer w (Line.Unknown w t ∷ []) (unknown_reply t)
step_lines answer w (StepLine.Read x t) = Line.ReplyRead w t (answer x (Mark.Read t)) ∷ (shown_lines w x ++ denied_line w x.denied)
step_lines answer w (StepLine.Commit x t) = Line.ReplyCommit w t (answer x (Mark.Commit t)) ∷ shown_lines w x

-- the disk failed in the step
abbrev pub IsFaultLine : StepLine → Type 0
IsFaultLine StepLine.DiskFault = Unit {0}
IsFaultLine (StepLine.Unknown t) = Unit {0}
IsFaultLine _ = ⊥

-- the step voted, or committed
abbrev pub IsVoteLine : StepLine → Type 0
IsVoteLine (StepLine.Voted t) = Unit {0}
IsVoteLine (StepLine.Commit x t) = Unit {0}
IsVoteLine _ = ⊥

-- the step committed
abbrev pub IsCommitLine : StepLine → Type 0
IsCommitLine (StepLine.Commit x t) = Unit {0}
IsCommitLine _ = ⊥
