-- What a core went by from its start on is explained.
use Rattle.std.proofs.Common.{◌≡◌, ℕ, List, [], ◌∷◌, map, replicate, Option, None, refl, sym, ap, ◌∙◌, subst, inl, inr}
use Rattle.zbase.specs.History.{History, IsHistory}
use Rattle.evaluator.specs.Exec.{Eval, IsLawful}
use Rattle.packing.specs.Reachable.{Linking}
use Rattle.schedule.specs.declared.item.Item2.{Item2}
use Rattle.schedule.specs.declared.line.Line.{Line}
use Rattle.schedule.specs.Counted.{AreCounted, ExplainedByCount}
use Rattle.schedule.specs.Counted.{printed as printed_at}
use Rattle.schedule.specs.Courses.{Course, Place, items_of}
use Rattle.schedule.specs.Explained.{Explained, report}
use Rattle.schedule.specs.Moments.{Doing, Free, Moment, Terms, Vote, clocked, start}
use Rattle.schedule.specs.Untroubled.{Untroubled}
use Rattle.fs_store.specs.Stores.{IsTold, Out, StoreView}
use Rattle.txn_core.specs.Cores.{CoreView, IsAtRest}
use Rattle.txn_core.specs.Slots.{Possible, doing_of, moment_of, vote_of}
use Rattle.zserve.specs.Going.{Goes, RanTo}
use Rattle.zserve.specs.Happened.{Happening, Ran, happening, items, printed}
use Rattle.txn_core.specs.Replying.{terms_of}
use Rattle.zserve.specs.Reports.{Reports}

-- where nothing is undecided, no other store may stand behind this one
only : (s may : StoreView) → s.undecided ≡ None → Possible s may → may ≡ s
only s may none (inl e) = e
only s may none (inr (o, u, e)) = absurd cc

-- at the start nothing has happened
pub ran_none : {E R S : Type 0} (eval : Eval R) (terms : Terms R) (core : CoreView E R S) → IsAtRest eval core → core.store.undecided ≡ None → terms.opened ≡ core.store.end → RanTo eval terms (start terms core.store.history) [] core 0
ran_none {E} {R} {S} eval terms core rest decided opened = λ m may.
    (let st : may.0 ≡ core.store = only core.store may.0 decided may.1 in
    let at : m ≡ moment_of eval core.store core.slots = may.2 ∙ ap (λ s. moment_of eval s core.slots) st in
    let made : Option Vote → ℕ → List (Doing R) → Moment R = (λ v e ws. record { standing = core.store.history; end = e; clock = 0; vote = v; workers = ws }) in
    let starts : start terms core.store.history ≡ clocked m 0 = sym (ap (λ k. clocked k 0) at ∙ ap (λ (out : Option Out). made (vote_of core.slots out) core.store.end (map (doing_of eval) core.slots)) rest.0 ∙ ap (made None core.store.end) rest.1 ∙ ap (λ e. made None e (replicate 16 Free)) (sym opened)) in
    record { trace = []; is = refl; course = starts })

items_same : {R : Type 0} (trace : List (Place R)) → items_of trace ≡ items (map happening trace)
items_same [] = refl
items_same (p ∷ ps) = ap (λ xs. p.item ∷ xs) (items_same ps)

printed_same : {R : Type 0} (trace : List (Place R)) → printed_at trace ≡ printed (map happening trace)
printed_same [] = refl
printed_same (p ∷ ps) = ap (λ xs. p.lines ∷ xs) (printed_same ps)

-- what the run law says
abbrev pub RunLaw : Type 0 → Type 0
RunLaw R = (terms : Terms R) (h0 : History) (old new : ℕ) (trace : List (Place R)) (end : Moment R) → IsLawful terms.eval → IsHistory h0 → Course terms (start terms h0) trace end → AreCounted old (printed_at trace) new
    → (e : ExplainedByCount terms old new h0 (items_of trace) (report h0 trace end)) × (e.trace ≡ trace) × (e.end ≡ end)

-- what the law of replays says
abbrev pub ReplayLaw : Type 0 → Type 0
ReplayLaw R = (terms : Terms R) (h0 : History) (s : List Item2) (r q : List Line) (old new : ℕ) (served : ExplainedByCount terms old new h0 s r) (replayed : Explained terms h0 s q) → Untroubled served.trace → Untroubled replayed.trace → q ≡ r

pub reports : {E R S : Type 0} (takes : List ℕ → Option R) (eval : Eval R) (old new : CoreView E R S) (now : ℕ) (all : List Happening) → RunLaw R → ReplayLaw R → IsLawful eval → IsTold old.store → IsHistory old.store.history → IsAtRest eval old → old.store.undecided ≡ None
    → Goes takes eval old 0 all new now → (links : Linking) (may : StoreView) → Possible new.store may → Reports (terms_of takes eval links old.store.limit old.store.end) old.store.disk.counter.count new.store.disk.counter.count old.store.history all may
reports {E} {R} {S} takes eval old new now all law again lawful told is rest decided goes links may possible =
    let terms : Terms R = terms_of takes eval links old.store.limit old.store.end in
    let m : Moment R = moment_of eval may new.slots in
    let ran : Ran terms (start terms old.store.history) all (clocked m now) = goes.ran told links old.store.end (start terms old.store.history) [] (ran_none eval terms old rest decided refl) m (may, possible, refl) in
    let counted : AreCounted old.store.disk.counter.count (printed_at ran.trace) new.store.disk.counter.count = subst (λ ls. AreCounted old.store.disk.counter.count ls new.store.disk.counter.count) (sym (printed_same ran.trace ∙ ap printed ran.is)) goes.counted in
    let e = law terms old.store.history old.store.disk.counter.count new.store.disk.counter.count ran.trace (clocked m now) lawful is ran.course counted in
    let same : items_of ran.trace ≡ items all = items_same ran.trace ∙ ap items ran.is in
    moved terms old.store.disk.counter.count new.store.disk.counter.count old.store.history (items_of ran.trace) (items all) (report old.store.history ran.trace (clocked m now)) all may same e.0 (ap (λ ps. map happening ps) e.1 ∙ ran.is) (ap (λ (k : Moment R). k.standing) e.2) refl
  where
    moved : (terms : Terms R) (a b : ℕ) (h0 : History) (xs ys : List Item2) (r : List Line) (all : List Happening) (may : StoreView) → xs ≡ ys → (e : ExplainedByCount terms a b h0 xs r) → map happening e.trace ≡ all → e.end.standing ≡ may.history → ys ≡ items all → Reports terms a b h0 all may
    moved terms a b h0 xs ys r all may same e is_all ends last =
        let served : ExplainedByCount terms a b h0 (items all) r = record { trace = e.trace; end = e.end; items = e.items ∙ same ∙ last; lines = e.lines; course = e.course; first = e.first; right = e.right; faults = e.faults } in
        record {
          report = r;
          explained = served;
          is = is_all;
          ends = ends;
          replays = λ other replayed calm quiet. again terms h0 (items all) r other a b served replayed calm quiet;
        }
