-- How far an evaluation came, over the objects and then over the history.
use Rattle.std.proofs.Common.{ℕ, ◌≡◌, ◌++◌, refl, sym, ap, subst, List, Option, Ok}
use Rattle.zbase.specs.Query.{Grows, run}
use Rattle.zobject.specs.declared.object.Object.{Object}
use Rattle.zknown.specs.declared.kept.Kept.{Kept}
use Rattle.zknown.specs.Seen.{Seen, objects}
use Rattle.evaluator.specs.declared.ask.Ask.{Ask}
use Rattle.evaluator.specs.declared.fact.Fact.{Fact}
use Rattle.evaluator.specs.declared.outcome.Outcome.{Outcome}
use Rattle.evaluator.specs.FactLaws.{look_more}
use Rattle.evaluator.specs.Facts.{look}
use Rattle.evaluator.specs.Questions.{as_ask, outcome}
use Rattle.fs_undo.specs.Undo.{IsFar}
use Rattle.http_in.specs.declared.message.Message.{Message}
use Rattle.http_in.specs.declared.message.Message.TheVariants.{Whole, Refused}
use Rattle.http_in.specs.declared.message.Request.{Request}
use Rattle.publisher.specs.declared.answer.Answer.TheVariants as answer
use Rattle.publisher.specs.declared.stage.Progress.{Progress}
use Rattle.publisher.specs.declared.stage.Progress.TheVariants as progress
use Rattle.publisher.specs.declared.stage.Undoing.{Undoing}
use Rattle.publisher.specs.Comes.{made_of}
use Rattle.publisher.specs.Faults.{comes_to}
use Rattle.publisher.specs.Site.{request, undo_by}
use Rattle.publisher.specs.Underway.{IsProgress, IsProgressOf, IsUndoing}
use Rattle.publisher.proofs.Limiting.{undoes_to}
use Rattle.publisher.proofs.Stages.{comes_later, still_stage}

-- ---- an undo that begins

pub nothing_far : (asked : Ask → Option Fact) (t : ℕ) → IsFar t asked 0
nothing_far asked t = λ later u parts grows is. refl

pub undo_begins : (rows : List (ℕ × Kept)) (asked : Ask → Option Fact) (q : Request) (user : List ℕ) (t far : ℕ) → comes_to rows (request q) ≡ Ok (answer.Undo user t) → far ≡ 0 →
    IsUndoing (objects rows) asked (record { user = user; tid = t; far = far }) q
undo_begins rows asked q user t far e none = record {
  comes = comes_later rows (request q) (answer.Undo user t) e;
  far = subst (λ (n : ℕ). IsFar t asked n) (sym none) (nothing_far asked t);
}

-- ---- and goes on

pub undoing_on : (known : ℕ → Option (Seen Object)) (asked : Ask → Option Fact) (old new : Undoing) (q : Request) → IsUndoing known asked old q → new.user ≡ old.user → new.tid ≡ old.tid → IsFar new.tid asked new.far → IsUndoing known asked new q
undoing_on known asked old new q is user tid far = record { comes = λ later grows. rw (user, tid) (is.comes later grows); far = far }

pub undoing_comes : (rows : List (ℕ × Kept)) (known asked : Ask → Option Fact) (u : Undoing) (q : Request) (it : Outcome) → IsUndoing (objects rows) asked u q → it ≡ outcome (run known (undo_by q u.user u.tid)) →
    it ≡ outcome (made_of known q (comes_to rows (request q)))
undoing_comes rows known asked u q it is e = undoes_to known q (comes_to rows (request q)) u.user u.tid it (ap as_ask (is.comes (objects rows) (λ o seen same. same))) e

-- ---- more is known

still_far : (first later : Ask → Option Fact) (t n : ℕ) → Grows first later → IsFar t first n → IsFar t later n
still_far first later t n grows far = λ more u parts further is. far more u parts (λ ask answer e. further ask answer (grows ask answer e)) is

still_progress : (known more : ℕ → Option (Seen Object)) (first later : Ask → Option Fact) (so_far : Progress) (q : Request) → Grows known more → Grows first later → IsProgress known first so_far q → IsProgress more later so_far q
still_progress known more first later (progress.Answering stage) q grows further is = still_stage known more stage q grows is
still_progress known more first later (progress.Undoing u) q grows further is = record {
  comes = λ l l_grows. is.comes l (λ o seen e. l_grows o seen (grows o seen e));
  far = still_far first later u.tid u.far further is.far;
}

still_progress_of : (known more : ℕ → Option (Seen Object)) (first later : Ask → Option Fact) (so_far : Progress) (message : Message) → Grows known more → Grows first later → IsProgressOf known first so_far message → IsProgressOf more later so_far message
still_progress_of known more first later so_far (Whole q) grows further is = still_progress known more first later so_far q grows further is
still_progress_of known more first later so_far (Refused cause) grows further is = is

-- more of the objects
pub progress_grows : (known more : ℕ → Option (Seen Object)) (facts : List Fact) (so_far : Progress) (message : Message) → Grows known more → IsProgressOf known (look facts) so_far message → IsProgressOf more (look facts) so_far message
progress_grows known more facts so_far message grows is = still_progress_of known more (look facts) (look facts) so_far message grows (λ ask answer e. e) is

-- more facts
pub progress_further : (known : ℕ → Option (Seen Object)) (facts more : List Fact) (so_far : Progress) (message : Message) → IsProgressOf known (look facts) so_far message → IsProgressOf known (look (facts ++ more)) so_far message
progress_further known facts more so_far message is = still_progress_of known known (look facts) (look (facts ++ more)) so_far message (λ o seen e. e) (λ ask f e. look_more facts more ask f e) is
