-- What is right of a place by the history that the report prints last: Committed rightly, Read rightly, and how a
-- history may grow.
use Rattle.std.specs.Prelude.{ℕ, ◌≡◌, ◌⊎◌, Bool, true, false, List, [], ◌∷◌, ◌++◌, Option, Some, if◌then◌else◌}
use Rattle.zbase.specs.History.{History, Transaction, added, IsPrefixOf}
use Rattle.zbase.specs.Values.{upto, before, transaction}
use Rattle.evaluator.specs.declared.draft.Draft.{Draft}
use Rattle.evaluator.specs.declared.outcome.Outcome.{Outcome}
use Rattle.evaluator.specs.declared.reply.Mark.{Mark}
use Rattle.evaluator.specs.declared.reply.Reply.{Reply}
use Rattle.evaluator.specs.Exec.{exec}
use Rattle.evaluator.specs.Settle.{settle}
use Rattle.schedule.specs.declared.item.Item2.{Item2}
use Rattle.schedule.specs.declared.line.Line.{Line}
use Rattle.schedule.specs.Causes.{shown_lines, denied_line}
use Rattle.schedule.specs.Courses.{Place, worker_of, request_of}
use Rattle.schedule.specs.Moments.{Terms, Moment, doing}

-- Committed rightly: the transaction t of h is what the request makes of the part before t, and this is its reply
pub record IsCommitted {R : Type 0} (terms : Terms R) (h : History) (q : R) (t : ℕ) (x : Reply) : Type 0 where
  pub draft : Draft
  pub change : exec terms.eval (before h t) q ≡ Outcome.Change x draft
  pub stands : transaction h t ≡ Some (settle (before h t) draft t)

-- Read rightly: the reply is the answer at t
abbrev pub IsRead : {R : Type 0} → Terms R → History → R → ℕ → Reply → Type 0
IsRead terms h q t x = exec terms.eval (upto h t) q ≡ Outcome.Answer x

-- the reply that lines begin with is right by the history: bytes, mark, and the lines that follow it
abbrev pub RightReply : {R : Type 0} → Terms R → History → Option R → List Line → Type 0
RightReply {R = R} terms h of_worker (Line.ReplyRead w t bytes ∷ rest) =
    (q : R) × (of_worker ≡ Some q) × (x : Reply) × IsRead terms h q t x × (bytes ≡ terms.answer x (Mark.Read t)) × (rest ≡ shown_lines w x ++ denied_line w x.denied)
RightReply {R = R} terms h of_worker (Line.ReplyCommit w t bytes ∷ rest) =
    (q : R) × (of_worker ≡ Some q) × (x : Reply) × IsCommitted terms h q t x × (bytes ≡ terms.answer x (Mark.Commit t)) × (rest ≡ shown_lines w x)
RightReply _ _ _ _ = Unit {0}

-- a place makes the history longer by nothing, or by the transaction of its worker's request, committed rightly
abbrev pub RightGrowth : {R : Type 0} → Terms R → History → Option R → History → History → Type 0
RightGrowth {R = R} terms h of_worker old new =
    (new ≡ old) ⊎ ((q : R) × (of_worker ≡ Some q) × (x : Reply) × (t : Transaction) × IsCommitted terms h q t.tid x × (new ≡ added old t))

abbrev pub begins_history : List Line → Bool
begins_history (Line.History n ∷ rest) = true
begins_history _ = false

-- a section ends at a `pack` item that prints the history, so that it is done
abbrev pub ends_section : Item2 → List Line → Bool
ends_section (Item2.Pack t) lines = begins_history lines
ends_section _ lines = false

-- All that is right of a place: its reply, how the history grew, and that it stands. A pack that is done begins a section with
-- the history that it leaves.
pub record IsRight {R : Type 0} (terms : Terms R) (h : History) (p : Place R) : Type 0 where
  pub reply : RightReply terms h (request_of (doing p.before (worker_of p.item))) p.lines
  pub growth : ends_section p.item p.lines ≡ false → RightGrowth terms h (request_of (doing p.before (worker_of p.item))) p.before.standing p.after.standing
  pub grows : ends_section p.item p.lines ≡ false → IsPrefixOf p.before.standing p.after.standing
  pub stands : IsPrefixOf p.after.standing h

-- The history that ends the section which goes on with these places: that which the next pack prints, or else the report's
-- last one.
abbrev pub history_after : {R : Type 0} → List (Place R) → Moment R → History
history_after [] end = end.standing
history_after (p ∷ ps) end = if ends_section p.item p.lines then p.before.standing else history_after ps end

-- each place is right by the history that ends its section
abbrev pub AreRight : {R : Type 0} → Terms R → List (Place R) → Moment R → Type 0
AreRight terms [] end = Unit {0}
AreRight terms (p ∷ ps) end = IsRight terms (history_after ps end) p × AreRight terms ps end
