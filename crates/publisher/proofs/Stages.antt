-- How far the answer to a request came.
use Rattle.std.proofs.Common.{ℕ, ◌≡◌, ◌∙◌, refl, sym, ap, subst, true, List, [], Option, Result, Ok, Err}
use Rattle.evaluator.specs.declared.ask.Ask.{Ask}
use Rattle.evaluator.specs.declared.reply.Shown.{Shown}
use Rattle.form_fields.specs.declared.field.Field.{Field}
use Rattle.form_fields.specs.Fields.{fields_of}
use Rattle.http_in.specs.declared.message.Request.{Request}
use Rattle.user_folder.specs.Credentials.{credentials_of}
use Rattle.zbase.specs.Query.{◌>>=◌, Answers, Grows, Halt, Need, Cause, IsDecided, Told, run}
use Rattle.zbase.specs.QueryLaws.{run_goes, run_more}
use Rattle.zobject.specs.declared.object.Object.{Object}
use Rattle.zknown.specs.declared.kept.Kept.{Kept}
use Rattle.zknown.specs.Seen.{Objects, Seen, objects}
use Rattle.evaluator.specs.Questions.{as_ask}
use Rattle.namespace.specs.Looks.{looked}
use Rattle.namespace.specs.Names.{Rested, Space}
use Rattle.dtml_values.specs.Values.{Left}
use Rattle.dtml_values.specs.Told as pages
use Rattle.namespace.specs.GoingOn.{GoesOn}
use Rattle.dtml_values.specs.declared.refusal.RenderRefusal.{RenderRefusal}
use Rattle.dtml_values.specs.declared.refusal.RenderRefusal.TheVariants as refusals
use Rattle.dtml_render.specs.declared.page.Page.{Page}
use Rattle.dtml_render.specs.Frames.{IsStanding, Leads, place_of, rest_of}
use Rattle.publisher.specs.declared.answer.Answer.{Answer}
use Rattle.publisher.specs.declared.answer.Answer.TheVariants as answer
use Rattle.publisher.specs.declared.reading.Read.{Read}
use Rattle.publisher.specs.declared.refusal.SiteRefusal.{SiteRefusal}
use Rattle.publisher.specs.declared.refusal.SiteRefusal.TheVariants as site
use Rattle.publisher.specs.declared.stage.Met.{Met}
use Rattle.publisher.specs.declared.stage.Met.TheVariants as met
use Rattle.publisher.specs.declared.stage.Stage.{Stage}
use Rattle.publisher.specs.declared.stage.Stage.TheVariants as stages
use Rattle.publisher.specs.declared.stage.Underway.{Underway}
use Rattle.publisher.specs.Faults as faults
use Rattle.publisher.specs.Faults.{Fault, comes_to, or_stops, told}
use Rattle.publisher.specs.Pages.{scope_page}
use Rattle.publisher.specs.Site.{authorization, bad_credentials, request, scope_answer, with_credentials, with_fields}
use Rattle.publisher.specs.Underway.{Begins, IsRead, IsStage, IsUnderway, Meets, is_need, place, rest_answer}
use Rattle.publisher.specs.Replies.{page_reply}
use Rattle.publisher.proofs.PageSteps.{answer_goes, page_done, page_halts, scope_is}
use Rattle.publisher.proofs.Steps.{goes, goes_told, passes}

-- ---- what is read

-- a value that is asked for nowhere
pub was_read : {E A : Type 0} (rows : List (ℕ × Kept)) (reword : E → Fault) (r : Result A E) (x : A) → comes_to rows (or_stops reword r) ≡ Ok x → r ≡ Ok x
was_read rows reword (Ok y) x e = cc
was_read rows reword (Err cause) x e = cc

pub fields_stop : (rows : List (ℕ × Kept)) (q : Request) (halt : Option (Halt Ask Fault)) → Told halt (comes_to rows (or_stops faults.NotANumber (fields_of q))) → Told halt (comes_to rows (request q))
unfolding request
fields_stop rows q halt t = passes rows (or_stops faults.NotANumber (fields_of q)) (with_fields q) halt t

pub credentials_stop : (rows : List (ℕ × Kept)) (q : Request) (fields : List Field) (halt : Option (Halt Ask Fault)) → fields_of q ≡ Ok fields → Told halt (comes_to rows (or_stops bad_credentials (credentials_of (authorization q)))) →
    Told halt (comes_to rows (request q))
unfolding request with_fields
credentials_stop rows q fields halt e t =
    goes_told rows (or_stops faults.NotANumber (fields_of q)) (with_fields q) halt fields (ap (λ f. comes_to rows (or_stops faults.NotANumber f)) e)
    (passes rows (or_stops bad_credentials (credentials_of (authorization q))) (with_credentials q fields) halt t)

-- ---- behind what was read

behind_read : (r : Read) (q : Request) → IsRead r q → request q ≡ with_credentials q r.fields r.credentials
unfolding request with_fields
behind_read r q is =
    ap (λ fields. or_stops faults.NotANumber fields >>= with_fields q) is.fields
    ∙ ap (λ credentials. or_stops bad_credentials credentials >>= with_credentials q r.fields) is.credentials

pub meets_behind : (rows : List (ℕ × Kept)) (r : Read) (q : Request) (result : Result Met SiteRefusal) → IsRead r q → Meets rows result (with_credentials q r.fields r.credentials) → Meets rows result (request q)
meets_behind rows r q result is m = subst (λ query. Meets rows result query) (sym (behind_read r q is)) m

-- ---- a page that begins

-- a value that was come to stays
asked_ok : {E A : Type 0} (r : Result A (Halt ℕ E)) (x : A) → as_ask r ≡ Ok x → r ≡ Ok x
asked_ok (Ok y) x e = cc
asked_ok (Err (Need o)) x e = cc
asked_ok (Err (Cause cause)) x e = cc

ok_decided : {E A : Type 0} (r : Result A (Halt ℕ E)) (x : A) → r ≡ Ok x → IsDecided r
ok_decided r x e = subst IsDecided (sym e) tt

-- and is come to wherever more is known
pub comes_later : {E A : Type 0} (rows : List (ℕ × Kept)) (q : Objects E A) (x : A) → comes_to rows q ≡ Ok x → (later : ℕ → Option (Seen Object)) → Grows (objects rows) later → run later q ≡ Ok x
comes_later rows q x e later grows =
    let was = asked_ok (run (objects rows) q) x e in
    run_more (objects rows) later q grows (ok_decided (run (objects rows) q) x was) ∙ was

later_goes : {E A B : Type 0} (rows : List (ℕ × Kept)) (q : Objects E A) (next : A → Objects E B) (x : A) → comes_to rows q ≡ Ok x → (later : ℕ → Option (Seen Object)) → Grows (objects rows) later → run later (q >>= next) ≡ run later (next x)
later_goes rows q next x e later grows = run_goes later q next x (comes_later rows q x e later grows)

-- behind what is come to
pub goes_under : {A : Type 0} (rows : List (ℕ × Kept)) (u : Underway) (q : Objects Fault A) (next : A → Objects Fault Answer) (x : A) → comes_to rows q ≡ Ok x → IsUnderway (objects rows) u (next x) → IsUnderway (objects rows) u (q >>= next)
goes_under rows u q next x e is = record { stands = is.stands; goes = λ later grows. later_goes rows q next x e later grows ∙ is.goes later grows }

pub goes_begins : {A : Type 0} (rows : List (ℕ × Kept)) (result : Result Underway SiteRefusal) (q : Objects Fault A) (next : A → Objects Fault Answer) (x : A) → comes_to rows q ≡ Ok x → Begins rows result (next x) → Begins rows result (q >>= next)
goes_begins rows (Ok u) q next x e is = goes_under rows u q next x e is
goes_begins rows (Err cause) q next x e t = goes_told rows q next (told cause) x e t

pub goes_meets : {A : Type 0} (rows : List (ℕ × Kept)) (result : Result Met SiteRefusal) (q : Objects Fault A) (next : A → Objects Fault Answer) (x : A) → comes_to rows q ≡ Ok x → Meets rows result (next x) → Meets rows result (q >>= next)
goes_meets rows (Ok (met.Answered a)) q next x e is = goes rows q next x e ∙ is
goes_meets rows (Ok (met.Begun u)) q next x e is = goes_under rows u q next x e is
goes_meets rows (Err cause) q next x e t = goes_told rows q next (told cause) x e t

-- a page that begins on a stack is under way with what rests of that
pub begins_in : (old new : Space) (o : ℕ) (page : Page) → old.shown ≡ [] → IsStanding (place_of page new) → GoesOn (objects old.known) old.shown (scope_page old.scope o) new.shown (rest_of (place_of page new)) →
    IsUnderway (objects old.known) (record { page = page; resting = record { scope = new.scope; shown = new.shown } }) (scope_answer old.scope o)
begins_in old new o page none stands goes_on = record {
  stands = stands;
  goes = λ later grows. ap (λ q. run later q) (sym (scope_is old.scope o old.shown none)) ∙ answer_goes later old.shown new.shown (scope_page old.scope o) (rest_of (place_of page new)) (goes_on later grows);
}

-- ---- a page that goes on

-- over what is known
pub answers_on : (rows : List (ℕ × Kept)) (u : Underway) (q : Objects Fault Answer) (result : Result Answer SiteRefusal) → IsUnderway (objects rows) u q → Answers told (λ a. a) result (comes_to rows (rest_answer u)) → Answers told (λ a. a) result (comes_to rows q)
answers_on rows u q result is a = subst (Answers told (λ a. a) result) (ap as_ask (sym (is.goes (objects rows) (λ o seen e. e)))) a

-- further on
pub under_on : (known : ℕ → Option (Seen Object)) (u further : Underway) (q : Objects Fault Answer) → IsUnderway known u q → IsStanding (place further) → Leads known (place u) (place further) → IsUnderway known further q
under_on known u further q is stands leads = record {
  stands = stands;
  goes = λ later grows. is.goes later grows ∙ answer_goes later (place u).shown (place further).shown (rest_of (place u)) (rest_of (place further)) (leads later grows);
}

pub need_is : (e : RenderRefusal) → is_need e ≡ true → (o : ℕ) × (e ≡ refusals.Need o)
need_is refusals.Memory e = absurd (let bad = e in cc)
need_is (refusals.Need o) e = (o, refl)
need_is (refusals.Broken o) e = absurd (let bad = e in cc)
need_is (refusals.Unauthorized o permission) e = absurd (let bad = e in cc)
need_is refusals.TooDeep e = absurd (let bad = e in cc)
need_is (refusals.NoName name) e = absurd (let bad = e in cc)
need_is (refusals.BadValue at) e = absurd (let bad = e in cc)
need_is (refusals.Runaway limit) e = absurd (let bad = e in cc)
need_is (refusals.BadSource o cause) e = absurd (let bad = e in cc)

-- over what is known now, on a stack of what rested
module _ (rows : List (ℕ × Kept)) (u : Underway) where
  pub on_done : (s : Space) (text : List ℕ) (left : Left) (shown : List Shown) → s ≡ record { known = rows; scope = u.resting.scope; shown = u.resting.shown } → looked (objects s.known) s.shown (rest_of (place_of u.page s)) ≡ Ok ((text, left), shown) →
      comes_to rows (rest_answer u) ≡ Ok (answer.Page (page_reply text shown))
  on_done s text left shown is e =
      page_done rows (rest_of (place u)) (place u).shown shown text left
      (subst (λ (t : Space). looked (objects t.known) t.shown (rest_of (place_of u.page t)) ≡ Ok ((text, left), shown)) is e)

  pub on_halts : (s : Space) (e : RenderRefusal) → s ≡ record { known = rows; scope = u.resting.scope; shown = u.resting.shown } → Told (pages.told e) (looked (objects s.known) s.shown (rest_of (place_of u.page s))) →
      Told (told (site.Page e)) (comes_to rows (rest_answer u))
  on_halts s e is t =
      page_halts rows (rest_of (place u)) (place u).shown e
      (subst (λ (t : Space). Told (pages.told e) (looked (objects t.known) t.shown (rest_of (place_of u.page t)))) is t)

  pub on_needs : (q : Objects Fault Answer) (s new : Space) (page : Page) (e : RenderRefusal) (resting : Rested) → s ≡ record { known = rows; scope = u.resting.scope; shown = u.resting.shown } → IsUnderway (objects rows) u q → is_need e ≡ true →
      ((o : ℕ) → e ≡ refusals.Need o → Leads (objects s.known) (place_of u.page s) (place_of page new)) → ((o : ℕ) → e ≡ refusals.Need o → IsStanding (place_of page new)) →
      resting ≡ record { scope = new.scope; shown = new.shown } → IsUnderway (objects rows) (record { page = page; resting = resting }) q
  on_needs q s new page e resting is under need leads stands rests =
      let o = (need_is e need).0 in
      let e_is = (need_is e need).1 in
      subst (λ (r : Rested). IsUnderway (objects rows) (record { page = page; resting = r }) q) (sym rests)
      (under_on (objects rows) u (record { page = page; resting = record { scope = new.scope; shown = new.shown } }) q under (stands o e_is)
      (subst (λ (t : Space). Leads (objects t.known) (place_of u.page t) (place_of page new)) is (leads o e_is)))

-- ---- more is known

still_under : (known more : ℕ → Option (Seen Object)) (u : Underway) (q : Objects Fault Answer) → Grows known more → IsUnderway known u q → IsUnderway more u q
still_under known more u q grows is = record { stands = is.stands; goes = λ later later_grows. is.goes later (λ o seen e. later_grows o seen (grows o seen e)) }

pub still_stage : (known more : ℕ → Option (Seen Object)) (stage : Stage) (q : Request) → Grows known more → IsStage known stage q → IsStage more stage q
still_stage known more stages.Fresh q grows is = tt
still_stage known more (stages.Read r) q grows is = is
still_stage known more (stages.Page u) q grows is = still_under known more u (request q) grows is
