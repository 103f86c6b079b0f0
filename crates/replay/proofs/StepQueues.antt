-- What the lines of a step make of the queue and of the entries that were hit, by what the step made of the disk.
use Rattle.std.proofs.Common.{◌≡◌, ℕ, ◌+◌, ◌≤◌, min, false, List, [], ◌∷◌, ◌++◌, map, Option, Some, None, refl, sym, ap, ◌∙◌, append-nil, subst, arith}
use Rattle.zbase.specs.Faults.{Counter, Counts, IsFaultless, IsWaiting, Twice}
use Rattle.zbase.specs.Limits.{greatest_number}
use Rattle.evaluator.specs.declared.reply.Denial.{Denial}
use Rattle.evaluator.specs.declared.reply.Mark.{Mark}
use Rattle.evaluator.specs.declared.reply.Reply.{Reply}
use Rattle.evaluator.specs.declared.reply.Shown.{Shown}
use Rattle.schedule.specs.declared.line.Line.{Line}
use Rattle.schedule.specs.Armed.{Queue, after_lines}
use Rattle.schedule.specs.Armed.{hit as licence_hit}
use Rattle.schedule.specs.Causes.{by_oid, denied_line, fault_reply, shown_lines, unknown_reply}
use Rattle.schedule.specs.Entries.{HitsMore, faults}
use Rattle.schedule.specs.EntryLaws.{hits_none, hits_one}
use Rattle.schedule.specs.Openings.{Leaves}
use Rattle.schedule.specs.Queues.{IsQueueOf, queue_called, queue_hit, queue_spends}
use Rattle.fs_store.specs.declared.refusal.Spent.{Spent}
use Rattle.txn_core.specs.declared.step_line.StepLine.{StepLine}
use Rattle.txn_core.specs.StepLines.{IsFaultLine, IsVoteLine, step_lines}

-- a fault hits an entry: without one the disk can't fail
pub fault_hits : (old new : Counter) (F : Type 0) → Counts old new F → (old.arms.queue ≡ [] → IsFaultless old) → F → old.arms.queue ≡ [] → ⊥
fault_hits old new F counts calm fault none =
    let faultless = calm none in
    let rose : min (old.count + 1) greatest_number ≤ new.count = counts.cause fault in
    omega (arith, rose, faultless.below, (counts.calm faultless).1)

shown_quiet : (k : Queue) (w : ℕ) (ss : List Shown) (rest : List Line) → after_lines (Some k) (map (λ s. Line.Shown w s.oid s.role) ss ++ rest) ≡ after_lines (Some k) rest
shown_quiet k w [] rest = refl
shown_quiet k w (s ∷ ss) rest = shown_quiet k w ss rest

denied_quiet : (k : Queue) (w : ℕ) (d : Option Denial) → after_lines (Some k) (denied_line w d) ≡ Some k
denied_quiet k w None = refl
denied_quiet k w (Some d) = refl

-- a step that prints neither a fault nor a vote or a commit
calm : (answer : Reply → Mark → List ℕ) (k : Queue) (old new : Counter) (w : ℕ) (line : StepLine) → IsQueueOf k old.arms → Counts old new (IsFaultLine line) → (IsFaultLine line → ⊥) → after_lines (Some k) (step_lines answer w line) ≡ Some k → Leaves k (step_lines answer w line) new.arms
calm answer k old new w line is h none e = (k, e, queue_spends k old.arms new.arms is (h.arms.spends none))

-- What a step leaves of the queue, where the disk isn't stopped behind it.
pub step_queued : (answer : Reply → Mark → List ℕ) (k : Queue) (old new : Counter) (w : ℕ) (line : StepLine) → IsQueueOf k old.arms → old.arms.stopped ≡ false → new.arms.stopped ≡ false → Counts old new (IsFaultLine line) → (IsFaultLine line → old.arms.queue ≡ [] → ⊥) → (IsVoteLine line → Twice old new) → IsWaiting new.arms
    → Leaves k (step_lines answer w line) new.arms
step_queued answer k old new w StepLine.Idle is runs goes h some twice waits = calm answer k old new w StepLine.Idle is h (λ f. f) refl
step_queued answer k old new w (StepLine.Begun t) is runs goes h some twice waits = calm answer k old new w (StepLine.Begun t) is h (λ f. f) refl
step_queued answer k old new w (StepLine.Fetched ask) is runs goes h some twice waits = calm answer k old new w (StepLine.Fetched ask) is h (λ f. f) refl
step_queued answer k old new w StepLine.Computed is runs goes h some twice waits = calm answer k old new w StepLine.Computed is h (λ f. f) refl
step_queued answer k old new w (StepLine.Busy v) is runs goes h some twice waits = calm answer k old new w (StepLine.Busy v) is h (λ f. f) refl
step_queued answer k old new w (StepLine.Conflict c) is runs goes h some twice waits = calm answer k old new w (StepLine.Conflict c) is h (λ f. f) refl
step_queued answer k old new w (StepLine.GivenUp cs) is runs goes h some twice waits = calm answer k old new w (StepLine.GivenUp cs) is h (λ f. f) refl
step_queued answer k old new w (StepLine.Spent Spent.Tids) is runs goes h some twice waits = calm answer k old new w (StepLine.Spent Spent.Tids) is h (λ f. f) refl
step_queued answer k old new w (StepLine.Spent (Spent.Oids o n)) is runs goes h some twice waits = calm answer k old new w (StepLine.Spent (Spent.Oids o n)) is h (λ f. f) refl
step_queued answer k old new w (StepLine.Spent (Spent.Full n l)) is runs goes h some twice waits = calm answer k old new w (StepLine.Spent (Spent.Full n l)) is h (λ f. f) refl
step_queued answer k old new w StepLine.Memory is runs goes h some twice waits = calm answer k old new w StepLine.Memory is h (λ f. f) refl
step_queued answer k old new w (StepLine.Read x t) is runs goes h some twice waits = calm answer k old new w (StepLine.Read x t) is h (λ f. f) (shown_quiet k w (by_oid x.shown) (denied_line w x.denied) ∙ denied_quiet k w x.denied)
step_queued answer k old new w (StepLine.Voted t) is runs goes h some twice waits =
    let c = queue_called k old new is (h.arms.spends (λ f. f)) (twice tt) goes waits in
    (c.0, ap (λ q. after_lines q []) c.1, c.2)
step_queued answer k old new w (StepLine.Commit x t) is runs goes h some twice waits =
    let c = queue_called k old new is (h.arms.spends (λ f. f)) (twice tt) goes waits in
    let shown : after_lines (Some c.0) (shown_lines w x) ≡ Some c.0 = ap (after_lines (Some c.0)) (sym (append-nil (shown_lines w x))) ∙ shown_quiet c.0 w (by_oid x.shown) [] in
    (c.0, ap (λ q. after_lines q (shown_lines w x)) c.1 ∙ shown, c.2)
step_queued answer k old new w StepLine.DiskFault is runs goes h some twice waits =
    let c = queue_hit k old.arms new.arms is runs (some tt) (h.arms.first tt) in
    let here : licence_hit false k.arms ≡ Some c.0 = subst (λ s. licence_hit s k.arms ≡ Some c.0) goes c.1 in
    (c.0, ap (λ q. after_lines q (Line.ReplyNone w (answer fault_reply Mark.Empty) ∷ [])) here, c.2)
step_queued answer k old new w (StepLine.Unknown t) is runs goes h some twice waits =
    let c = queue_hit k old.arms new.arms is runs (some tt) (h.arms.first tt) in
    let here : licence_hit false k.arms ≡ Some c.0 = subst (λ s. licence_hit s k.arms ≡ Some c.0) goes c.1 in
    (c.0, ap (λ q. after_lines q (Line.ReplyNone w (answer (unknown_reply t) Mark.Empty) ∷ [])) here, c.2)

shown_faultless : (w : ℕ) (ss : List Shown) (rest : List Line) → faults (map (λ s. Line.Shown w s.oid s.role) ss ++ rest) ≡ faults rest
shown_faultless w [] rest = refl
shown_faultless w (s ∷ ss) rest = (let more = shown_faultless w ss rest in omega (arith, more))

denied_faultless : (w : ℕ) (d : Option Denial) → faults (denied_line w d) ≡ 0
denied_faultless w None = refl
denied_faultless w (Some d) = refl

-- so many entries were hit as the step has lines of faults
abbrev pub HitsTold : (Reply → Mark → List ℕ) → Counter → Counter → ℕ → StepLine → Type 0
HitsTold answer old new w line = (n : ℕ) × HitsMore n old.arms new.arms × (faults (step_lines answer w line) ≡ n)

none_hit : (answer : Reply → Mark → List ℕ) (old new : Counter) (w : ℕ) (line : StepLine) → Counts old new (IsFaultLine line) → (IsFaultLine line → ⊥) → faults (step_lines answer w line) ≡ 0 → HitsTold answer old new w line
none_hit answer old new w line h none e = (0, hits_none old.arms new.arms (h.arms.spends none), e)

pub step_hits : (answer : Reply → Mark → List ℕ) (old new : Counter) (w : ℕ) (line : StepLine) → old.arms.stopped ≡ false → Counts old new (IsFaultLine line) → (IsFaultLine line → old.arms.queue ≡ [] → ⊥) → HitsTold answer old new w line
step_hits answer old new w StepLine.Idle runs h some = none_hit answer old new w StepLine.Idle h (λ f. f) refl
step_hits answer old new w (StepLine.Begun t) runs h some = none_hit answer old new w (StepLine.Begun t) h (λ f. f) refl
step_hits answer old new w (StepLine.Fetched ask) runs h some = none_hit answer old new w (StepLine.Fetched ask) h (λ f. f) refl
step_hits answer old new w StepLine.Computed runs h some = none_hit answer old new w StepLine.Computed h (λ f. f) refl
step_hits answer old new w (StepLine.Busy v) runs h some = none_hit answer old new w (StepLine.Busy v) h (λ f. f) refl
step_hits answer old new w (StepLine.Voted t) runs h some = none_hit answer old new w (StepLine.Voted t) h (λ f. f) refl
step_hits answer old new w (StepLine.Conflict c) runs h some = none_hit answer old new w (StepLine.Conflict c) h (λ f. f) refl
step_hits answer old new w (StepLine.GivenUp cs) runs h some = none_hit answer old new w (StepLine.GivenUp cs) h (λ f. f) refl
step_hits answer old new w (StepLine.Spent Spent.Tids) runs h some = none_hit answer old new w (StepLine.Spent Spent.Tids) h (λ f. f) refl
step_hits answer old new w (StepLine.Spent (Spent.Oids o n)) runs h some = none_hit answer old new w (StepLine.Spent (Spent.Oids o n)) h (λ f. f) refl
step_hits answer old new w (StepLine.Spent (Spent.Full n l)) runs h some = none_hit answer old new w (StepLine.Spent (Spent.Full n l)) h (λ f. f) refl
step_hits answer old new w StepLine.Memory runs h some = none_hit answer old new w StepLine.Memory h (λ f. f) refl
step_hits answer old new w (StepLine.Read x t) runs h some = none_hit answer old new w (StepLine.Read x t) h (λ f. f) (let none = shown_faultless w (by_oid x.shown) (denied_line w x.denied) ∙ denied_faultless w x.denied in omega (arith, none))
step_hits answer old new w (StepLine.Commit x t) runs h some = none_hit answer old new w (StepLine.Commit x t) h (λ f. f) (let none = ap faults (sym (append-nil (shown_lines w x))) ∙ shown_faultless w (by_oid x.shown) [] in omega (arith, none))
step_hits answer old new w StepLine.DiskFault runs h some = (1, hits_one old.arms new.arms runs (some tt) (h.arms.first tt), refl)
step_hits answer old new w (StepLine.Unknown t) runs h some = (1, hits_one old.arms new.arms runs (some tt) (h.arms.first tt), refl)
