-- What stands at a moment of a run: the history so far, and what each worker is doing.
use Rattle.std.specs.Prelude.{ℕ, ◌+◌, List, replicate, Option, Some, None, slice_get, slice_set}
use Rattle.std.specs.List.{enumerate_from, filter_map}
use Rattle.evaluator.specs.declared.fact.Fact.{Fact}
use Rattle.evaluator.specs.declared.reply.Reply.{Reply}
use Rattle.evaluator.specs.declared.reply.Mark.{Mark}
use Rattle.evaluator.specs.declared.draft.Draft.{Draft}
use Rattle.zbase.specs.History.{History, Transaction, added}
use Rattle.evaluator.specs.Exec.{Eval}
use Rattle.zbase.specs.declared.ids.Clash.{Clash}
use Rattle.packing.specs.Reachable.{Linking}
use Rattle.schedule.specs.declared.line.Line.{Line}

-- What a report rests on: what a request's bytes mean, what an evaluation makes of it, the bytes of a reply with
-- its mark, to which objects an object's bytes lead, how long the file may become, and how long it was when it was opened.
pub record Terms (R : Type 0) : Type 0 where
  pub takes : List ℕ → Option R
  pub eval : Eval R
  pub answer : Reply → Mark → List ℕ
  pub links : Linking
  pub limit : ℕ
  pub opened : ℕ

-- An attempt: its request and the clashes of the attempts before it, the last tid when it began, and the facts
-- of its fetch lines, in order.
pub record Attempt (R : Type 0) : Type 0 where
  pub request : R
  pub clashes : List Clash
  pub snapshot : ℕ
  pub facts : List Fact

pub data Doing (R : Type 0) : Type 0 where
  -- no request
  Free : Doing R
  -- a request, and no attempt under way
  Waiting : (request : R) → (clashes : List Clash) → Doing R
  -- an attempt, not computed yet
  Asking : (attempt : Attempt R) → Doing R
  -- an attempt whose change is ready; if it is the one that holds the vote, it has voted
  Computed : (attempt : Attempt R) → (reply : Reply) → (draft : Draft) → Doing R

-- a vote that is out: its worker, the reply that its commit will give, its transaction and that one's size
pub record Vote : Type 0 where
  pub holder : ℕ
  pub reply : Reply
  pub transaction : Transaction
  pub size : ℕ

pub record Moment (R : Type 0) : Type 0 where
  pub standing : History
  pub end : ℕ  -- the file's end, were it written by the sizes of the drafts
  pub clock : ℕ  -- the last clock stamp
  pub vote : Option Vote
  pub workers : List (Doing R)  -- sixteen

abbrev pub start : {R : Type 0} → Terms R → History → Moment R
start terms h = record { standing = h; end = terms.opened; clock = 0; vote = None; workers = replicate 16 Free }

abbrev pub doing : {R : Type 0} → Moment R → ℕ → Option (Doing R)
doing m w = slice_get m.workers w

-- the worker does that from now on
abbrev pub turned : {R : Type 0} → Moment R → ℕ → Doing R → Moment R
turned m w d = record { standing = m.standing; end = m.end; clock = m.clock; vote = m.vote; workers = slice_set m.workers w d }

-- the vote is out from now on
abbrev pub holding : {R : Type 0} → Moment R → Vote → Moment R
holding m v = record { standing = m.standing; end = m.end; clock = m.clock; vote = Some v; workers = m.workers }

-- the vote is settled, its transaction dropped or standing
abbrev pub dropped : {R : Type 0} → Moment R → Moment R
dropped m = record { standing = m.standing; end = m.end; clock = m.clock; vote = None; workers = m.workers }

abbrev pub stood : {R : Type 0} → Moment R → Vote → Moment R
stood m v = record { standing = added m.standing v.transaction; end = m.end + v.size; clock = m.clock; vote = None; workers = m.workers }

-- no worker has a request
abbrev pub emptied : {R : Type 0} → Moment R → Moment R
emptied m = record { standing = m.standing; end = m.end; clock = m.clock; vote = None; workers = replicate 16 Free }

abbrev pub clocked : {R : Type 0} → Moment R → ℕ → Moment R
clocked m t = record { standing = m.standing; end = m.end; clock = t; vote = m.vote; workers = m.workers }

abbrev pub lost_line : {R : Type 0} → ℕ × Doing R → Option Line
lost_line (w, Free) = None
lost_line (w, Waiting q cs) = Some (Line.Lost w)
lost_line (w, Asking a) = Some (Line.Lost w)
lost_line (w, Computed a x d) = Some (Line.Lost w)

-- a line for each worker that has a request, rising
abbrev pub lost_lines : {R : Type 0} → Moment R → List Line
lost_lines m = filter_map lost_line (enumerate_from 0 m.workers)
