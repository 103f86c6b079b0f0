-- To whom a report shows what, and who may change what.
--
-- Zope Developer's Guide, "Security".
use Rattle.std.specs.Prelude.{ℕ, ◌≡◌, ◌⊎◌, false, List, [], ◌∷◌, ◌++◌, Some, None}
use Rattle.zbase.specs.History.{History, Transaction, added}
use Rattle.zbase.specs.Values.{before, transaction, upto}
use Rattle.evaluator.specs.declared.draft.Draft.{Draft}
use Rattle.evaluator.specs.declared.outcome.Outcome.{Outcome}
use Rattle.evaluator.specs.declared.reply.Denial.{Denial}
use Rattle.evaluator.specs.declared.reply.Mark.{Mark}
use Rattle.evaluator.specs.declared.reply.Reply.{Reply}
use Rattle.evaluator.specs.Exec.{exec}
use Rattle.evaluator.specs.Settle.{settle}
use Rattle.fs_undo.specs.Undone.{in_history}
use Rattle.http_in.specs.declared.message.Message.{Message}
use Rattle.http_in.specs.declared.message.Message.TheVariants.{Whole, Refused}
use Rattle.http_out.specs.Replies.{answer}
use Rattle.schedule.specs.declared.line.Line.{Line}
use Rattle.schedule.specs.Causes.{denied_line, shown_lines}
use Rattle.schedule.specs.Courses.{Place}
use Rattle.schedule.specs.Moments.{Moment}
use Rattle.schedule.specs.Right.{ends_section, history_after}
use Rattle.publisher.specs.Access.{DeniesRightly, IsGrantedChange, ListsRightly, ShowsRightly, objects_in}
use Rattle.publisher.specs.Site.{site}

-- What a reply over a history shows was granted to the user who looked, and all whose contents the page uses is shown; a 401
-- denies something, and what a reply denies isn't granted to the request's own user there. A refused message shows and denies
-- nothing.
abbrev pub AnswersRightly : History → Message → Reply → Type 0
AnswersRightly h (Whole q) x =
    (x.status ≡ 200 → ShowsRightly (objects_in h) q x ⊎ ListsRightly (in_history h) q x)
    × (x.status ≡ 401 → (d : Denial) × (x.denied ≡ Some d))
    × ((d : Denial) → x.denied ≡ Some d → DeniesRightly (objects_in h) q d)
AnswersRightly h (Refused cause) x = (x.shown ≡ []) × (x.denied ≡ None)

-- These bytes are the reply to a message over the history up to t, and these lines behind it tell what it shows and denies,
-- rightly.
pub record TellsRightly (h : History) (w t : ℕ) (bytes : List ℕ) (lines : List Line) : Type 0 where
  pub message : Message
  pub reply : Reply
  pub read : exec site (upto h t) message ≡ Outcome.Answer reply
  pub written : bytes ≡ answer reply (Mark.Read t)
  pub told : lines ≡ shown_lines w reply ++ denied_line w reply.denied
  pub rightly : AnswersRightly (upto h t) message reply

-- at a place of a run that prints a reading reply, that reply and the lines behind it are right
abbrev pub ShowsRightlyAt : History → Place Message → Type 0
ShowsRightlyAt h p = (w t : ℕ) (bytes : List ℕ) (lines : List Line) → p.lines ≡ Line.ReplyRead w t bytes ∷ lines → TellsRightly h w t bytes lines

-- ---- changes

-- the change of a message over a history was granted; a refused message has none
abbrev pub ChangesRightly : History → Message → Draft → Type 0
ChangesRightly h (Whole q) d = IsGrantedChange (in_history h) q d
ChangesRightly h (Refused cause) d = ⊥

-- the transaction is what a message makes of the part before it, by a change that was granted there
pub record IsGranted (h : History) (t : Transaction) : Type 0 where
  pub message : Message
  pub reply : Reply
  pub draft : Draft
  pub change : exec site (before h t.tid) message ≡ Outcome.Change reply draft
  pub stands : transaction h t.tid ≡ Some (settle (before h t.tid) draft t.tid)
  pub granted : ChangesRightly (before h t.tid) message draft

-- At a place of a run the history grows by nothing, or by a transaction whose change was granted. A pack that is done ends a section of
-- the report: the history that it leaves begins the next one.
abbrev pub GrowsRightlyAt : History → Place Message → Type 0
GrowsRightlyAt h p =
    ends_section p.item p.lines ≡ false
    → (p.after.standing ≡ p.before.standing) ⊎ ((t : Transaction) × (p.after.standing ≡ added p.before.standing t) × IsGranted h t)

-- ---- all places of a run, each by the history that its section ends with: that which the next pack prints, or else the report's last one

abbrev pub AllShowRightly : List (Place Message) → Moment Message → Type 0
AllShowRightly [] end = Unit {0}
AllShowRightly (p ∷ places) end = ShowsRightlyAt (history_after places end) p × AllShowRightly places end

abbrev pub AllGrowRightly : List (Place Message) → Moment Message → Type 0
AllGrowRightly [] end = Unit {0}
AllGrowRightly (p ∷ places) end = GrowsRightlyAt (history_after places end) p × AllGrowRightly places end
