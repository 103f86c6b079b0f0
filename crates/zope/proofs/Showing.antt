-- What the reading replies of a run show, and that its changes were granted.
use Rattle.std.proofs.Common.{ℕ, ◌≡◌, ◌⊎◌, inl, inr, List, [], ◌∷◌, Option, Some, refl, subst}
use Rattle.zbase.specs.History.{History, Transaction, added}
use Rattle.zbase.specs.Values.{before, upto}
use Rattle.evaluator.specs.declared.draft.Draft.{Draft}
use Rattle.evaluator.specs.declared.outcome.Outcome.{Outcome}
use Rattle.evaluator.specs.declared.reply.Reply.{Reply}
use Rattle.evaluator.specs.Exec.{exec}
use Rattle.evaluator.specs.Facts.{fact}
use Rattle.http_in.specs.declared.message.HttpRefusal.{HttpRefusal}
use Rattle.http_in.specs.declared.message.HttpRefusal.TheVariants as messages
use Rattle.http_in.specs.declared.message.Message.{Message}
use Rattle.http_in.specs.declared.message.Message.TheVariants.{Whole, Refused}
use Rattle.http_in.specs.Messages.{one_message}
use Rattle.schedule.specs.declared.line.Line.{Line}
use Rattle.schedule.specs.Courses.{Place, request_of, worker_of}
use Rattle.schedule.specs.Moments.{Moment, doing}
use Rattle.packing.specs.Reachable.{Linking}
use Rattle.schedule.specs.Right.{AreRight, RightGrowth, RightReply, history_after}
use Rattle.publisher.specs.Access.{ChangesAreGranted, PagesShowRightly, RefusalsAreDenied, RefusalsAreNamed}
use Rattle.publisher.specs.Comes.{history_tells}
use Rattle.publisher.specs.Replies.{message_reply}
use Rattle.publisher.specs.Site.{site}
use Rattle.replay.specs.Printed.{terms_of}
use Rattle.zope.specs.Access.{AllGrowRightly, AllShowRightly, AnswersRightly, ChangesRightly, IsGranted, TellsRightly}

-- a refused message shows and denies nothing
silent : (h : History) (cause : HttpRefusal) → AnswersRightly h (Refused cause) (message_reply cause)
silent h messages.HeadTooLarge = (refl, refl)
silent h messages.BadHead = (refl, refl)
silent h messages.Method = (refl, refl)
silent h messages.PathTooLong = (refl, refl)
silent h messages.Chunked = (refl, refl)
silent h messages.BodyTooLarge = (refl, refl)
silent h messages.Multipart = (refl, refl)

answer_is : (x y : Reply) → Outcome.Answer x ≡ Outcome.Answer y → x ≡ y
answer_is x y e = cc

module _ (shows : PagesShowRightly) (names : RefusalsAreNamed) (denies : RefusalsAreDenied) where
  rightly : (h : History) (message : Message) (x : Reply) → exec site h message ≡ Outcome.Answer x → AnswersRightly h message x
  rightly h (Whole q) x e = (
    shows (λ ask. Some (fact h ask)) q x (history_tells h) e,
    names (λ ask. Some (fact h ask)) q x (history_tells h) e,
    λ d denied. denies (λ ask. Some (fact h ask)) q x d (history_tells h) e denied,
  )
  rightly h (Refused cause) x e = subst (λ (y : Reply). AnswersRightly h (Refused cause) y) (answer_is (message_reply cause) x e) (silent h cause)

  at : (links : Linking) (limit end : ℕ) (h : History) (q : Option Message) (all : List Line) (w t : ℕ) (bytes : List ℕ) (lines : List Line) → RightReply (terms_of one_message site links limit end) h q all → all ≡ Line.ReplyRead w t bytes ∷ lines → TellsRightly h w t bytes lines
  at links limit end h q all w t bytes lines right e =
      let (message, of_worker, x, read, written, told) = subst (RightReply (terms_of one_message site links limit end) h q) e right in
      record { message = message; reply = x; read = read; written = written; told = told; rightly = rightly (upto h t) message x read }

  -- at every place
  pub all_rightly : (links : Linking) (limit end : ℕ) (places : List (Place Message)) (last : Moment Message) → AreRight (terms_of one_message site links limit end) places last → AllShowRightly places last
  all_rightly links limit end [] last right = tt
  all_rightly links limit end (p ∷ places) last right = (
    λ w t bytes lines e. at links limit end (history_after places last) (request_of (doing p.before (worker_of p.item))) p.lines w t bytes lines right.0.reply e,
    all_rightly links limit end places last right.1,
  )

module _ (grants : ChangesAreGranted) where
  changes_rightly : (h : History) (message : Message) (x : Reply) (d : Draft) → exec site h message ≡ Outcome.Change x d → ChangesRightly h message d
  changes_rightly h (Whole q) x d e = grants (λ ask. Some (fact h ask)) q x d (history_tells h) e
  changes_rightly h (Refused cause) x d e = absurd (let bad = e in cc)

  grows : (links : Linking) (limit end : ℕ) (h : History) (q : Option Message) (old new : History) → RightGrowth (terms_of one_message site links limit end) h q old new → (new ≡ old) ⊎ ((t : Transaction) × (new ≡ added old t) × IsGranted h t)
  grows links limit end h q old new (inl same) = inl same
  grows links limit end h q old new (inr (message, of_worker, x, t, made, grown)) = inr (
    t,
    grown,
    record { message = message; reply = x; draft = made.draft; change = made.change; stands = made.stands; granted = changes_rightly (before h t.tid) message x made.draft made.change },
  )

  pub all_grow : (links : Linking) (limit end : ℕ) (places : List (Place Message)) (last : Moment Message) → AreRight (terms_of one_message site links limit end) places last → AllGrowRightly places last
  all_grow links limit end [] last right = tt
  all_grow links limit end (p ∷ places) last right = (
    λ goes_on. grows links limit end (history_after places last) (request_of (doing p.before (worker_of p.item))) p.before.standing p.after.standing (right.0.growth goes_on),
    all_grow links limit end places last right.1,
  )
