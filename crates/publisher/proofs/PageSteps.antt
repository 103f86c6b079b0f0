-- The steps of a page: its published object, its template, how it begins, and how it goes on.
use Rattle.std.proofs.Common.{ℕ, suc, ◌≡◌, ◌≤◌, ◌∙◌, refl, sym, ap, subst, arith, List, [], ◌∷◌, length, Option, Result, Ok, Err}
use Rattle.zbase.specs.Query.{◌>>=◌ as ◌>>>◌, and_then, Halt, Told, or_else, run}
use Rattle.zbase.specs.QueryLaws.{run_then}
use Rattle.zobject.specs.declared.object.Object.{Object}
use Rattle.zobject.specs.Shapes.{shape_of}
use Rattle.zknown.specs.declared.kept.Kept.{Kept}
use Rattle.zknown.specs.Seen.{Seen, objects}
use Rattle.evaluator.specs.declared.reply.Shown.{Shown}
use Rattle.permissions.specs.Verdicts.{proxy_user}
use Rattle.dtml_parse.specs.TreeReading.{template}
use Rattle.dtml_parse.specs.Trees.{Items}
use Rattle.dtml_values.specs.declared.budget.Budget.{Budget}
use Rattle.dtml_values.specs.Values.{Left}
use Rattle.dtml_render.specs.declared.page.Page.{Page}
use Rattle.dtml_render.specs.Frames.{IsStanding, Place, place, place_of, rest_of}
use Rattle.dtml_render.specs.Rendering.{or_bad, source_of, source_text, state, tree_text, whole_text}
use Rattle.dtml_render.specs.Resuming.{Rest}
use Rattle.dtml_render.specs.ResumeLaws.{begins}
use Rattle.dtml_values.specs.StepLaws.{stops}
use Rattle.dtml_values.specs.Told as values
use Rattle.dtml_values.specs.Told.{left_of}
use Rattle.dtml_values.specs.declared.refusal.RenderRefusal.{RenderRefusal}
use Rattle.namespace.specs.GoingOn.{GoesOn, goes_further, goes_to}
use Rattle.namespace.specs.LookLaws.{looked_goes}
use Rattle.namespace.specs.Looks.{◌>>=◌, Fault, Looks, looked, taken, through}
use Rattle.namespace.specs.Names.{Scope, Space, act, viewing, whose}
use Rattle.publisher.specs.declared.answer.Answer.TheVariants as answer
use Rattle.publisher.specs.declared.refusal.SiteRefusal.TheVariants as refusals
use Rattle.publisher.specs.Comes.{reworded, run_reworded}
use Rattle.publisher.specs.Faults as faults
use Rattle.publisher.specs.Faults.{comes_to, told}
use Rattle.publisher.specs.Pages.{scope_page, source_page, whole_budget}
use Rattle.publisher.specs.Replies.{page_reply}
use Rattle.publisher.specs.Site.{scope_answer, shown_page}
use Rattle.publisher.specs.Underway.{PageBegins, page_answer}
use Rattle.publisher.proofs.Steps.{goes, pages_are, pages_stop, passes}

-- ---- the source of an object

-- a template that was read is rendered
source_is : (k : ℕ → Option (Seen Object)) (shown : List Shown) (renders : ℕ) (scope : Scope) (o : ℕ) (source : List ℕ) (left : Left) (tree : Items) → template source ≡ Ok tree →
    looked k shown (source_text (suc renders) scope o source left) ≡ looked k shown (tree_text renders scope tree left)
unfolding source_text tree_text
source_is k shown renders scope o source left tree e = ap (λ r. looked k shown (or_bad o (λ tree. whole_text (source_text renders) scope tree left) r)) e

-- the scope of an object's source
abbrev pub acted : Scope → Object → Scope
acted scope object = act (proxy_user (shape_of object)) scope

-- the place where a page begins
abbrev first : Items → ℕ → Left → Space → Place
first tree renders left s = record { frames = Rest (length s.scope.layers) tree ∷ []; renders = renders; scope = s.scope; shown = s.shown; state = state [] left }

source_goes : (k : ℕ → Option (Seen Object)) (s : Space) (o : ℕ) (object : Object) (tree : Items) → template (source_of object.part) ≡ Ok tree →
    GoesOn k s.shown (source_page s.scope o object) s.shown (rest_of (first tree 31 whole_budget (record s { scope = acted s.scope object })))
source_goes k s o object tree reads = λ later grows.
    source_is later s.shown 31 (acted s.scope object) o (source_of object.part) whole_budget tree reads ∙ begins k 31 (acted s.scope object) tree whole_budget s.shown later grows

stands_at : (depth high : ℕ) → depth ≡ high → (depth ≤ high) × (0 ≤ depth)
stands_at depth high e = (omega (arith, e), omega arith)

pub source_begins : (old new : Space) (o : ℕ) (object : Object) (page : Page) (budget : Budget) (tree : Items) → template (source_of object.part) ≡ Ok tree → new ≡ record old { scope = acted old.scope object } →
    budget.renders ≡ 31 → left_of budget ≡ whole_budget → place_of page new ≡ place (Rest (length new.scope.layers) tree ∷ []) budget [] new → PageBegins old new (Ok page) (source_page old.scope o object)
source_begins old new o object page budget tree reads new_is renders left is =
    let there : Space = record old { scope = acted old.scope object } in
    let same : place_of page new ≡ first tree 31 whole_budget there =
    is ∙ ap (λ (s : Space). first tree budget.renders (left_of budget) s) new_is ∙ ap (λ (n : ℕ). first tree n (left_of budget) there) renders ∙ ap (λ (l : Left). first tree 31 l there) left in
    subst (λ (p : Place). IsStanding p × GoesOn (objects old.known) old.shown (source_page old.scope o object) p.shown (rest_of p)) (sym same)
    (stands_at (length old.scope.layers) (length old.scope.layers) refl, source_goes (objects old.known) old o object tree reads)

-- ---- the page of an object in a scope

module _ (before after : Space) (o : ℕ) (object : Object) (made : looked (objects before.known) before.shown (viewing (whose before.scope) o) ≡ Ok (object, after.shown)) (same_known : after.known ≡ before.known) (same_scope : after.scope ≡ before.scope) where
  -- what comes of the page is what comes of the source behind the look at its object
  behind : looked (objects after.known) after.shown (source_page after.scope o object) ≡ looked (objects before.known) before.shown (scope_page before.scope o)
  unfolding scope_page
  behind =
      ap (λ (s : Scope). looked (objects after.known) after.shown (source_page s o object)) same_scope
      ∙ ap (λ (rows : List (ℕ × Kept)). looked (objects rows) after.shown (source_page before.scope o object)) same_known
      ∙ sym (looked_goes (objects before.known) before.shown (viewing (whose before.scope) o) (source_page before.scope o) (object, after.shown) made)

  -- and it goes on as that
  goes_behind : (shown : List Shown) (rest : Looks (List ℕ × Left)) → GoesOn (objects after.known) after.shown (source_page after.scope o object) shown rest → GoesOn (objects before.known) before.shown (scope_page before.scope o) shown rest
  unfolding scope_page
  goes_behind shown rest goes_on =
      goes_further (objects before.known) before.shown after.shown shown (viewing (whose before.scope) o >>= source_page before.scope o) (source_page before.scope o object) rest
      (goes_to (objects before.known) before.shown (viewing (whose before.scope) o) (source_page before.scope o) object after.shown made)
      (subst (λ (s : Scope). GoesOn (objects before.known) after.shown (source_page s o object) shown rest) same_scope
      (subst (λ (rows : List (ℕ × Kept)). GoesOn (objects rows) after.shown (source_page after.scope o object) shown rest) same_known goes_on))

  pub page_begins : (new : Space) (r : Result Page RenderRefusal) → PageBegins after new r (source_page after.scope o object) → PageBegins before new r (scope_page before.scope o)
  page_begins new (Ok page) (stands, goes_on) = (stands, goes_behind new.shown (rest_of (place_of page new)) goes_on)
  page_begins new (Err e) t = subst (Told (values.told e)) behind t

pub page_stops : (k : ℕ → Option (Seen Object)) (shown : List Shown) (scope : Scope) (o : ℕ) (halt : Option (Halt ℕ Fault)) → Told halt (looked k shown (viewing (whose scope) o)) → Told halt (looked k shown (scope_page scope o))
unfolding scope_page
page_stops k shown scope o halt t = stops k shown (viewing (whose scope) o) (source_page scope o) halt t

-- ---- its answer

pub answer_goes : (later : ℕ → Option (Seen Object)) (shown present : List Shown) (p q : Looks (List ℕ × Left)) → looked later shown p ≡ looked later present q → run later (page_answer shown p) ≡ run later (page_answer present q)
unfolding page_answer
answer_goes later shown present p q e =
    run_then later (or_else faults.Page (through taken shown p)) shown_page
    ∙ ap (λ r. and_then r (λ x. run later (shown_page x)))
    (run_reworded later faults.Page (through taken shown p) ∙ ap (reworded faults.Page) e ∙ sym (run_reworded later faults.Page (through taken present q)))
    ∙ sym (run_then later (or_else faults.Page (through taken present q)) shown_page)

pub page_done : (rows : List (ℕ × Kept)) (page : Looks (List ℕ × Left)) (before shown : List Shown) (text : List ℕ) (left : Left) → looked (objects rows) before page ≡ Ok ((text, left), shown) →
    comes_to rows (page_answer before page) ≡ Ok (answer.Page (page_reply text shown))
unfolding page_answer
page_done rows page before shown text left e =
    goes rows (or_else faults.Page (through taken before page)) shown_page ((text, left), shown) (pages_are rows faults.Page (through taken before page) ((text, left), shown) e)

pub page_halts : (rows : List (ℕ × Kept)) (page : Looks (List ℕ × Left)) (before : List Shown) (e : RenderRefusal) → Told (values.told e) (looked (objects rows) before page) → Told (told (refusals.Page e)) (comes_to rows (page_answer before page))
unfolding page_answer
page_halts rows page before e t =
    passes rows (or_else faults.Page (through taken before page)) shown_page (told (refusals.Page e))
    (pages_stop rows faults.Page (through taken before page) (values.told e) t)

-- nothing is shown at first
pub scope_is : (scope : Scope) (o : ℕ) (before : List Shown) → before ≡ [] → page_answer before (scope_page scope o) ≡ scope_answer scope o
unfolding page_answer scope_answer
scope_is scope o before none = ap (λ (s : List Shown). or_else faults.Page (through taken s (scope_page scope o)) >>> shown_page) none
