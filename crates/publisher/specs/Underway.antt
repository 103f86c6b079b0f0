-- Pages and undos that are under way, and how far an evaluation came.
use Rattle.std.specs.Prelude.{ℕ, ◌≡◌, Bool, true, false, List, [], Option, Result, Ok, Err}
use Rattle.zbase.specs.Query.{◌>>=◌, Grows, Told, or_else, run}
use Rattle.zobject.specs.declared.object.Object.{Object}
use Rattle.zknown.specs.declared.kept.Kept.{Kept}
use Rattle.zknown.specs.Seen.{Seen, Objects, objects}
use Rattle.evaluator.specs.declared.ask.Ask.{Ask}
use Rattle.evaluator.specs.declared.fact.Fact.{Fact}
use Rattle.evaluator.specs.declared.reply.Shown.{Shown}
use Rattle.fs_undo.specs.Undo.{IsFar}
use Rattle.form_fields.specs.Fields.{fields_of}
use Rattle.http_in.specs.declared.message.Message.{Message}
use Rattle.http_in.specs.declared.message.Message.TheVariants.{Whole, Refused}
use Rattle.http_in.specs.declared.message.Request.{Request}
use Rattle.user_folder.specs.Credentials.{credentials_of}
use Rattle.namespace.specs.GoingOn.{GoesOn}
use Rattle.namespace.specs.Looks.{Looks, looked, taken, through}
use Rattle.namespace.specs.Names.{Space}
use Rattle.dtml_values.specs.Values.{Left}
use Rattle.dtml_values.specs.Told as pages
use Rattle.dtml_values.specs.declared.refusal.RenderRefusal.{RenderRefusal}
use Rattle.dtml_values.specs.declared.refusal.RenderRefusal.TheVariants as refusals
use Rattle.dtml_render.specs.declared.page.Page.{Page}
use Rattle.dtml_render.specs.Frames.{IsStanding, Place, place_of, rest_of}
use Rattle.publisher.specs.declared.answer.Answer.{Answer}
use Rattle.publisher.specs.declared.answer.Answer.TheVariants as answer
use Rattle.publisher.specs.declared.reading.Read.{Read}
use Rattle.publisher.specs.declared.refusal.SiteRefusal.{SiteRefusal}
use Rattle.publisher.specs.declared.stage.Met.{Met}
use Rattle.publisher.specs.declared.stage.Met.TheVariants as met
use Rattle.publisher.specs.declared.stage.Progress.{Progress}
use Rattle.publisher.specs.declared.stage.Progress.TheVariants as progress
use Rattle.publisher.specs.declared.stage.Stage.{Stage}
use Rattle.publisher.specs.declared.stage.Stage.TheVariants as stages
use Rattle.publisher.specs.declared.stage.Underway.{Underway}
use Rattle.publisher.specs.declared.stage.Undoing.{Undoing}
use Rattle.publisher.specs.Faults as faults
use Rattle.publisher.specs.Faults.{Fault, comes_to, told}
use Rattle.publisher.specs.Site.{authorization, request, shown_page}

-- ---- a page under way

-- the answer that a page is, behind the objects that were shown
unfoldable pub page_answer : List Shown → Looks (List ℕ × Left) → Objects Fault Answer
page_answer shown page = or_else faults.Page (through taken shown page) >>= shown_page

-- its place
abbrev pub place : Underway → Place
place u = place_of u.page (record { known = []; scope = u.resting.scope; shown = u.resting.shown })

-- the answer that is still to come
abbrev pub rest_answer : Underway → Objects Fault Answer
rest_answer u = page_answer (place u).shown (rest_of (place u))

-- what is still to come of a page is what a question comes to, wherever more is known
pub record IsUnderway (known : ℕ → Option (Seen Object)) (u : Underway) (q : Objects Fault Answer) : Type 0 where
  pub stands : IsStanding (place u)
  pub goes : (later : ℕ → Option (Seen Object)) → Grows known later → run later q ≡ run later (rest_answer u)

-- a page begins that goes on as these looks do, or they are refused
abbrev pub PageBegins : Space → Space → Result Page RenderRefusal → Looks (List ℕ × Left) → Type 0
PageBegins old new (Ok page) looks = IsStanding (place_of page new) × GoesOn (objects old.known) old.shown looks new.shown (rest_of (place_of page new))
PageBegins old new (Err e) looks = Told (pages.told e) (looked (objects old.known) old.shown looks)

abbrev pub is_need : RenderRefusal → Bool
is_need (refusals.Need o) = true
is_need e = false

-- and so as the answer to a question
abbrev pub Begins : List (ℕ × Kept) → Result Underway SiteRefusal → Objects Fault Answer → Type 0
Begins rows (Ok u) q = IsUnderway (objects rows) u q
Begins rows (Err e) q = Told (told e) (comes_to rows q)

-- a question is answered, or its page begins
abbrev pub Meets : List (ℕ × Kept) → Result Met SiteRefusal → Objects Fault Answer → Type 0
Meets rows (Ok (met.Answered x)) q = comes_to rows q ≡ Ok x
Meets rows (Ok (met.Begun u)) q = IsUnderway (objects rows) u q
Meets rows (Err e) q = Told (told e) (comes_to rows q)

-- ---- how far the answer to a request came

-- what was read of a request is its own
pub record IsRead (r : Read) (q : Request) : Type 0 where
  pub fields : fields_of q ≡ Ok r.fields
  pub credentials : credentials_of (authorization q) ≡ Ok r.credentials

abbrev pub IsStage : (ℕ → Option (Seen Object)) → Stage → Request → Type 0
IsStage known stages.Fresh q = Unit {0}
IsStage known (stages.Read r) q = IsRead r q
IsStage known (stages.Page u) q = IsUnderway known u (request q)

-- wherever more is known, a request comes to an undo, of which these parts are known
pub record IsUndoing (known : ℕ → Option (Seen Object)) (asked : Ask → Option Fact) (u : Undoing) (q : Request) : Type 0 where
  pub comes : (later : ℕ → Option (Seen Object)) → Grows known later → run later (request q) ≡ Ok (answer.Undo u.user u.tid)
  pub far : IsFar u.tid asked u.far

abbrev pub IsProgress : (ℕ → Option (Seen Object)) → (Ask → Option Fact) → Progress → Request → Type 0
IsProgress known asked (progress.Answering stage) q = IsStage known stage q
IsProgress known asked (progress.Undoing u) q = IsUndoing known asked u q

-- a refused message is answered at once
abbrev pub IsProgressOf : (ℕ → Option (Seen Object)) → (Ask → Option Fact) → Progress → Message → Type 0
IsProgressOf known asked so_far (Whole q) = IsProgress known asked so_far q
IsProgressOf known asked so_far (Refused cause) = so_far ≡ progress.Answering stages.Fresh
