-- Every evaluation that is a question keeps the laws of an evaluator.
use Rattle.std.proofs.Common.{ℕ, zero, suc, ◌≤◌, ◌≡◌, ◌∙◌, refl, sym, ap, subst, arith, Bool, true, false, List, [], ◌∷◌, ◌++◌, length, filter, Option, Some, None, Result, Ok, Err, option_map}
use Rattle.zbase.specs.History.{History}
use Rattle.zbase.specs.Query as query
use Rattle.zbase.specs.Query.{Query, Done, Stops, Asks, Halt, Need, Cause, ◌>>=◌, run, go_on, Grows, IsWithin}
use Rattle.zbase.specs.QueryLaws.{run_more, run_needs}
use Rattle.evaluator.specs.declared.ask.Ask.{Ask}
use Rattle.evaluator.specs.declared.draft.Draft.{Draft}
use Rattle.evaluator.specs.declared.fact.Fact.{Fact}
use Rattle.evaluator.specs.declared.outcome.Outcome.{Outcome}
use Rattle.evaluator.specs.declared.reply.Reply.{Reply}
use Rattle.evaluator.specs.Exec.{is_lasting, IsDecided, IsLawful, IsTrailFrom}
use Rattle.evaluator.specs.FactLaws.{look_asked, look_true, look_lasting, look_more, look_new}
use Rattle.evaluator.specs.Facts.{fact, ask_of, look, TrueOf}
use Rattle.evaluator.specs.Questions.{Made, Reads, Changes, Evaluation, outcome, meaning_of, NeverChanges, IsCareful, over_facts, as_ask, objects_of}

-- ---- what is decided on true facts is decided so on the whole

decided : (r : Result Made (Halt Ask Reply)) → IsDecided (outcome r) → query.IsDecided r
decided (Ok (Reads x)) d = tt
decided (Ok (Changes x c)) d = tt
decided (Err (Cause x)) d = tt
decided (Err (Need ask)) d = d

grows : (facts : List Fact) (h : History) → TrueOf facts h → Grows (look facts) (λ ask. Some (fact h ask))
grows facts h all ask f e = ap Some (sym (look_true facts h ask f all e))

-- ---- a change rests on lasting facts alone

never : (known : Ask → Option Fact) (q : Evaluation) (x : Reply) (d : Draft) → NeverChanges q → outcome (run known q) ≡ Outcome.Change x d → ⊥
never known (Done (Reads y)) x d n e = cc
never known (Done (Changes y c)) x d n e = n
never known (Stops y) x d n e = cc
never known (Asks ask go) x d n e = at (λ f e'. never known (go f) x d (n f) e') (known ask) e
  where
    at : ((f : Fact) → outcome (run known (go f)) ≡ Outcome.Change x d → ⊥) → (o : Option Fact) → outcome (go_on ask (λ f. run known (go f)) o) ≡ Outcome.Change x d → ⊥
    at deeper None e' = cc
    at deeper (Some f) e' = deeper f e'

pub change_lasts : (facts : List Fact) (q : Evaluation) (x : Reply) (d : Draft) → IsCareful q → outcome (run (look facts) q) ≡ Outcome.Change x d → outcome (run (look (filter is_lasting facts)) q) ≡ Outcome.Change x d
change_lasts facts (Done m) x d c e = e
change_lasts facts (Stops y) x d c e = e
change_lasts facts (Asks ask go) x d c e = at (λ f c' e'. change_lasts facts (go f) x d c' e') (look facts ask) refl e
  where
    Deeper : Type 0
    Deeper = (f : Fact) → IsCareful (go f) → outcome (run (look facts) (go f)) ≡ Outcome.Change x d → outcome (run (look (filter is_lasting facts)) (go f)) ≡ Outcome.Change x d

    at : Deeper → (o : Option Fact) → look facts ask ≡ o → outcome (go_on ask (λ f. run (look facts) (go f)) o) ≡ Outcome.Change x d → outcome (run (look (filter is_lasting facts)) (Asks ask go)) ≡ Outcome.Change x d
    at deeper None is e' = cc
    at deeper (Some f) is e' = by_kind (is_lasting f) refl
      where
        by_kind : (l : Bool) → is_lasting f ≡ l → outcome (run (look (filter is_lasting facts)) (Asks ask go)) ≡ Outcome.Change x d
        by_kind true l = rw (look_lasting facts ask f is l) (deeper f ((c f (look_asked facts ask f is)).0 l) e')
        by_kind false l = absurd (never (look facts) (go f) x d ((c f (look_asked facts ask f is)).1 l) e')

-- ---- what is asked for isn't known

pub outcome_needs : (r : Result Made (Halt Ask Reply)) (ask : Ask) → outcome r ≡ Outcome.Need ask → r ≡ Err (Need ask)
outcome_needs (Ok (Reads x)) ask e = cc
outcome_needs (Ok (Changes x c)) ask e = cc
outcome_needs (Err (Cause x)) ask e = cc
outcome_needs (Err (Need other)) ask e = cc

pub lawful : {R : Type 0} (evaluation : R → Evaluation) → ((q : R) → IsCareful (evaluation q)) → IsLawful (meaning_of evaluation)
lawful evaluation careful = record {
  whole = λ facts h q all d. ap outcome (run_more (look facts) (λ ask. Some (fact h ask)) (evaluation q) (grows facts h all) (decided _ d));
  lasting = λ facts q x d e. change_lasts facts (evaluation q) x d (careful q) e;
  unknown = λ facts q ask e. run_needs (look facts) (evaluation q) ask (outcome_needs _ ask e);
}

-- ---- a trail is no longer than the ways through the question

-- behind an ask that is known the trail is one of the rest
pub trail_goes : (known fs : List Fact) (ask : Ask) (go : Fact → Evaluation) (g : Fact) → look known ask ≡ Some g → IsTrailFrom (λ facts. outcome (run (look facts) (Asks ask go))) known fs → IsTrailFrom (λ facts. outcome (run (look facts) (go g))) known fs
trail_goes known [] ask go g is t = tt
trail_goes known (f ∷ fs) ask go g is t = (
  sym (ap (λ o. outcome (go_on ask (λ f. run (look known) (go f)) o)) is) ∙ t.0,
  trail_goes (known ++ f ∷ []) fs ask go g (look_more known (f ∷ []) ask g is) t.1,
)

pub trail_short : (n : ℕ) (q : Evaluation) → IsWithin n q → (known fs : List Fact) → IsTrailFrom (λ facts. outcome (run (look facts) q)) known fs → length fs ≤ n
trail_short n (Done m) w known [] t = omega arith
trail_short n (Done (Reads x)) w known (f ∷ fs) t = absurd (let e = t.0 in cc)
trail_short n (Done (Changes x c)) w known (f ∷ fs) t = absurd (let e = t.0 in cc)
trail_short n (Stops x) w known [] t = omega arith
trail_short n (Stops x) w known (f ∷ fs) t = absurd (let e = t.0 in cc)
trail_short zero (Asks ask go) w known fs t = absurd w
trail_short (suc n) (Asks ask go) w known fs t = at (λ f. trail_short n (go f) (w f)) (look known ask) refl fs t
  where
    Deeper : Type 0
    Deeper = (f : Fact) → (known fs : List Fact) → IsTrailFrom (λ facts. outcome (run (look facts) (go f))) known fs → length fs ≤ n

    at : Deeper → (o : Option Fact) → look known ask ≡ o → (fs : List Fact) → IsTrailFrom (λ facts. outcome (run (look facts) (Asks ask go))) known fs → length fs ≤ suc n
    at deeper (Some g) is fs t = (let short = deeper g known fs (trail_goes known fs ask go g is t) in omega (arith, short))
    at deeper None is [] t = omega arith
    at deeper None is (f ∷ fs) t =
        let need : Outcome.Need ask ≡ Outcome.Need (ask_of f) = sym (ap (λ o. outcome (go_on ask (λ f. run (look known) (go f)) o)) is) ∙ t.0 in
        let same : ask ≡ ask_of f = cc in
        let found : look (known ++ f ∷ []) ask ≡ Some f = subst (λ a. look (known ++ f ∷ []) a ≡ Some f) (sym same) (look_new known f (subst (λ a. look known a ≡ None) same is)) in
        let short = deeper f (known ++ f ∷ []) fs (trail_goes (known ++ f ∷ []) fs ask go f found t.1) in
        omega (arith, short)

-- ---- questions over objects

over_at : {R E A : Type 0} (seen : Fact → R) (o : ℕ) (go : Fact → Result A (Halt Ask E)) (other : R → Result A (Halt ℕ E)) → ((f : Fact) → go f ≡ as_ask (other (seen f))) → (found : Option Fact) → go_on (Ask.Object o) go found ≡ as_ask (go_on o other (option_map seen found))
over_at seen o go other same None = refl
over_at seen o go other same (Some f) = same f

-- over facts a question comes to what it comes to over the objects that they show
pub run_over : {R E A : Type 0} (seen : Fact → R) (known : Ask → Option Fact) (q : Query ℕ R E A) → run known (over_facts seen q) ≡ as_ask (run (objects_of seen known) q)
run_over seen known (Done x) = refl
run_over seen known (Stops e) = refl
run_over seen known (Asks o go) = over_at seen o _ _ (λ f. run_over seen known (go (seen f))) (known (Ask.Object o))

pub object_lasts : (o : ℕ) (f : Fact) → ask_of f ≡ Ask.Object o → is_lasting f ≡ true
object_lasts o (Fact.Object p v s) is = refl
object_lasts o (Fact.Transaction t ps) is = cc
object_lasts o (Fact.Log rows) is = cc

-- over objects alone each question is careful, as far as what follows it is
pub careful_over : {R A : Type 0} (seen : Fact → R) (q : Query ℕ R Reply A) (next : A → Evaluation) → ((x : A) → IsCareful (next x)) → IsCareful (over_facts seen q >>= next)
careful_over seen (Done x) next c = c x
careful_over seen (Stops e) next c = tt
careful_over seen (Asks o go) next c = λ f is. (λ l. careful_over seen (go (seen f)) next c, λ l. absurd (let lasts = object_lasts o f is in cc))
