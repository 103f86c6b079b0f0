-- What came of a step, and its reply, are the lines of the step.
use Rattle.std.proofs.Common.{◌≡◌, ℕ, List, ◌++◌, None, Some, refl, ap}
use Rattle.http_out.specs.Replies.{answer}
use Rattle.txn_core.specs.declared.step_line.StepLine.{StepLine}
use Rattle.txn_core.specs.Replying.{final}
use Rattle.txn_core.specs.StepLines.{step_lines}
use Rattle.replay.specs.StepParts.{cause_lines, reply_lines}

-- a request that goes on has no reply
pub lines_going_on : (w : ℕ) (line : StepLine) → final line ≡ None → cause_lines w line ≡ step_lines answer w line
lines_going_on w StepLine.Idle none = refl
lines_going_on w (StepLine.Begun t) none = refl
lines_going_on w (StepLine.Fetched ask) none = refl
lines_going_on w StepLine.Computed none = refl
lines_going_on w (StepLine.Busy v) none = refl
lines_going_on w (StepLine.Voted t) none = refl
lines_going_on w (StepLine.Conflict c) none = refl
lines_going_on w (StepLine.GivenUp cs) none = absurd cc
lines_going_on w (StepLine.Spent s) none = absurd cc
lines_going_on w StepLine.Memory none = absurd cc
lines_going_on w StepLine.DiskFault none = absurd cc
lines_going_on w (StepLine.Unknown t) none = absurd cc
lines_going_on w (StepLine.Read x t) none = absurd cc
lines_going_on w (StepLine.Commit x t) none = absurd cc

same_bytes : (a b : List ℕ) → Some a ≡ Some b → b ≡ a
same_bytes a b e = cc

-- one that ended has the reply behind its cause
pub lines_ended : (w : ℕ) (line : StepLine) (bytes : List ℕ) → final line ≡ Some bytes → cause_lines w line ++ reply_lines w line bytes ≡ step_lines answer w line
lines_ended w StepLine.Idle bytes some = absurd cc
lines_ended w (StepLine.Begun t) bytes some = absurd cc
lines_ended w (StepLine.Fetched ask) bytes some = absurd cc
lines_ended w StepLine.Computed bytes some = absurd cc
lines_ended w (StepLine.Busy v) bytes some = absurd cc
lines_ended w (StepLine.Voted t) bytes some = absurd cc
lines_ended w (StepLine.Conflict c) bytes some = absurd cc
lines_ended w (StepLine.GivenUp cs) bytes some = ap (λ b. cause_lines w (StepLine.GivenUp cs) ++ reply_lines w (StepLine.GivenUp cs) b) (same_bytes _ bytes some)
lines_ended w (StepLine.Spent s) bytes some = ap (λ b. cause_lines w (StepLine.Spent s) ++ reply_lines w (StepLine.Spent s) b) (same_bytes _ bytes some)
lines_ended w StepLine.Memory bytes some = ap (λ b. cause_lines w StepLine.Memory ++ reply_lines w StepLine.Memory b) (same_bytes _ bytes some)
lines_ended w StepLine.DiskFault bytes some = ap (λ b. cause_lines w StepLine.DiskFault ++ reply_lines w StepLine.DiskFault b) (same_bytes _ bytes some)
lines_ended w (StepLine.Unknown t) bytes some = ap (λ b. cause_lines w (StepLine.Unknown t) ++ reply_lines w (StepLine.Unknown t) b) (same_bytes _ bytes some)
lines_ended w (StepLine.Read x t) bytes some = ap (λ b. reply_lines w (StepLine.Read x t) b) (same_bytes _ bytes some)
lines_ended w (StepLine.Commit x t) bytes some = ap (λ b. reply_lines w (StepLine.Commit x t) b) (same_bytes _ bytes some)
