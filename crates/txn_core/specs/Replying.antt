-- The reply by which a step ends its request, and what the reports of a core rest on.
use Rattle.std.specs.Prelude.{ℕ, List, Option, Some, None}
use Rattle.evaluator.specs.declared.reply.Mark.{Mark}
use Rattle.evaluator.specs.Exec.{Eval}
use Rattle.http_out.specs.Replies.{answer}
use Rattle.packing.specs.Reachable.{Linking}
use Rattle.schedule.specs.Causes.{conflict_reply, fault_reply, memory_reply, unknown_reply}
use Rattle.schedule.specs.Moments.{Terms}
use Rattle.txn_core.specs.declared.step_line.StepLine.{StepLine}
use Rattle.txn_core.specs.StepLines.{latest, spent_reply}

-- what the reports of an evaluator rest on, by what objects link to, over a file that ends there and may have so many bytes
abbrev pub terms_of : {R : Type 0} → (List ℕ → Option R) → Eval R → Linking → ℕ → ℕ → Terms R
terms_of takes eval links limit end = record { takes = takes; eval = eval; answer = answer; links = links; limit = limit; opened = end }

-- the bytes of the reply by which a step ends its request; none where the request goes on
abbrev pub final : StepLine → Option (List ℕ)
final StepLine.Idle = None
final (StepLine.Begun t) = None
final (StepLine.Fetched ask) = None
final StepLine.Computed = None
final (StepLine.Busy v) = None
final (StepLine.Voted t) = None
final (StepLine.Conflict c) = None
final (StepLine.GivenUp cs) = Some (answer (conflict_reply (latest cs).oid) Mark.Empty)
final (StepLine.Spent s) = Some (answer (spent_reply s) Mark.Empty)
final StepLine.Memory = Some (answer memory_reply Mark.Empty)
final StepLine.DiskFault = Some (answer fault_reply Mark.Empty)
final (StepLine.Unknown t) = Some (answer (unknown_reply t) Mark.Empty)
final (StepLine.Read x t) = Some (answer x (Mark.Read t))
final (StepLine.Commit x t) = Some (answer x (Mark.Commit t))
