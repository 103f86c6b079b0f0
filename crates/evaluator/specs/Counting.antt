-- Over a trail of facts the limits are counts of the facts: nothing needs to be kept of what was met.
use Rattle.std.proofs.Common.{ℕ, zero, suc, ◌+◌, ◌≤◌, ◌≡◌, ◌==◌, ◌∙◌, refl, sym, ap, subst, arith, lit≤, Bool, true, false, List, [], ◌∷◌, ◌++◌, length, fold, sum_by, Option, Some, None, Result, Ok, Err, if◌then◌else◌, nat_lt, append_assoc, append-nil}
use Rattle.std.proofs.lemmas.Bool.Decides.{nat_tests}
use Rattle.zbase.specs.Query.{Done, Stops, Asks, Halt, Need, Cause, run, go_on}
use Rattle.evaluator.specs.declared.ask.Ask.{Ask}
use Rattle.evaluator.specs.declared.fact.Fact.{Fact}
use Rattle.evaluator.specs.declared.outcome.Outcome.{Outcome}
use Rattle.evaluator.specs.declared.reply.Reply.{Reply}
use Rattle.evaluator.specs.Exec.{IsTrailFrom, IsTrail, most_asks}
use Rattle.evaluator.specs.FactLaws.{look_more, look_new}
use Rattle.evaluator.specs.Facts.{ask_of, look}
use Rattle.evaluator.specs.Questions.{Made, Reads, Changes, Evaluation, outcome, met_or, counted, limited, within_limits, most_bytes, size_of_fact}
use Rattle.evaluator.specs.LimitLaws.{limited_within}
use Rattle.evaluator.specs.QuestionLaws.{trail_goes, trail_short}

-- one ask more is needed behind so many
abbrev pub asks_more : ℕ → ℕ → Result Made (Halt Ask Reply) → Bool
asks_more most asks (Err (Need ask)) = asks == most
asks_more most asks (Err (Cause x)) = false
asks_more most asks (Ok m) = false

-- What an evaluation comes to under its limits, from the facts that it met and from what it comes to without: the
-- runaway reply where their bytes pass the limit, and where one more is needed behind 12,000.
abbrev pub judged : Reply → List Fact → Result Made (Halt Ask Reply) → Result Made (Halt Ask Reply)
judged runaway facts r = if nat_lt most_bytes (sum_by size_of_fact facts) then Err (Cause runaway) else if asks_more most_asks (length facts) r then Err (Cause runaway) else r

-- ---- the same, fact by fact

-- the bytes of facts, behind so many
abbrev weighed : ℕ → List Fact → ℕ
weighed bytes facts = fold (λ sum f. sum + size_of_fact f) bytes facts

-- one ask more than may be left
abbrev stinted : Reply → ℕ → List Fact → Result Made (Halt Ask Reply) → Result Made (Halt Ask Reply)
stinted runaway zero [] (Err (Need ask)) = Err (Cause runaway)
stinted runaway (suc left) (f ∷ fs) r = stinted runaway left fs r
stinted runaway _ _ r = r

abbrev judged_from : Reply → ℕ → ℕ → ℕ → List Fact → Result Made (Halt Ask Reply) → Result Made (Halt Ask Reply)
judged_from runaway limit left bytes more r = if nat_lt limit (weighed bytes more) then Err (Cause runaway) else stinted runaway left more r

not_over : (limit n : ℕ) → n ≤ limit → nat_lt limit n ≡ false
not_over limit n h = grind (arith, nat_tests)

under : (limit n : ℕ) → nat_lt limit n ≡ false → n ≤ limit
under limit n e = grind (arith, nat_tests)

keeps : (runaway : Reply) (limit left bytes : ℕ) (r : Result Made (Halt Ask Reply)) → bytes ≤ limit → ((ask : Ask) → r ≡ Err (Need ask) → ⊥) → r ≡ judged_from runaway limit left bytes [] r
keeps runaway limit zero bytes (Ok m) h n = rw (not_over limit bytes h) refl
keeps runaway limit zero bytes (Err (Cause x)) h n = rw (not_over limit bytes h) refl
keeps runaway limit zero bytes (Err (Need ask)) h n = absurd (n ask refl)
keeps runaway limit (suc left) bytes r h n = rw (not_over limit bytes h) refl

counts : (runaway : Reply) (limit : ℕ) (met : List Fact) (left bytes : ℕ) (q : Evaluation) (more : List Fact) → bytes ≤ limit →
    IsTrailFrom (λ facts. outcome (run (look facts) (limited runaway limit met left bytes q))) met more →
    run (look (met ++ more)) (limited runaway limit met left bytes q) ≡ judged_from runaway limit left bytes more (run (look (met ++ more)) q)
counts runaway limit met left bytes (Done m) [] h t = keeps runaway limit left bytes (Ok m) h (λ ask e. cc)
counts runaway limit met left bytes (Stops x) [] h t = keeps runaway limit left bytes (Err (Cause x)) h (λ ask e. cc)
counts runaway limit met left bytes (Done (Reads x)) (f ∷ fs) h t = absurd (let e = t.0 in cc)
counts runaway limit met left bytes (Done (Changes x d)) (f ∷ fs) h t = absurd (let e = t.0 in cc)
counts runaway limit met left bytes (Stops x) (f ∷ fs) h t = absurd (let e = t.0 in cc)
counts runaway limit met left bytes (Asks ask go) more h t = at (look met ask) refl left more h t (λ f met left bytes more h t. counts runaway limit met left bytes (go f) more h t)
  where
    Next : ℕ → Fact → Evaluation
    Next left f = if nat_lt limit (bytes + size_of_fact f) then Stops runaway else limited runaway limit (met ++ f ∷ []) left (bytes + size_of_fact f) (go f)

    Tree : Option Fact → ℕ → Evaluation
    Tree o left = met_or o (λ f. limited runaway limit met left bytes (go f)) (counted runaway left ask Next)

    Deeper : Type 0
    Deeper = (f : Fact) (met : List Fact) (left bytes : ℕ) (more : List Fact) → bytes ≤ limit → IsTrailFrom (λ facts. outcome (run (look facts) (limited runaway limit met left bytes (go f)))) met more → run (look (met ++ more)) (limited runaway limit met left bytes (go f)) ≡ judged_from runaway limit left bytes more (run (look (met ++ more)) (go f))

    Cut : Bool → ℕ → Fact → Evaluation
    Cut b n f = if b then Stops runaway else limited runaway limit (met ++ f ∷ []) n (bytes + size_of_fact f) (go f)

    cut : (n : ℕ) (f : Fact) (fs : List Fact) → Deeper → (b : Bool) → nat_lt limit (bytes + size_of_fact f) ≡ b → IsTrailFrom (λ facts. outcome (run (look facts) (Cut b n f))) (met ++ f ∷ []) fs → run (look ((met ++ f ∷ []) ++ fs)) (Cut b n f) ≡ judged_from runaway limit (suc n) bytes (f ∷ fs) (run (look ((met ++ f ∷ []) ++ fs)) (go f))
    cut n f [] deeper true e t = rw e refl
    cut n f (g ∷ gs) deeper true e t = absurd (let bad = t.0 in cc)
    cut n f fs deeper false e t = deeper f (met ++ f ∷ []) n (bytes + size_of_fact f) fs (under limit (bytes + size_of_fact f) e) t

    below : (n : ℕ) (f : Fact) (fs : List Fact) → IsTrailFrom (λ facts. outcome (run (look facts) (Next n f))) (met ++ f ∷ []) fs → Deeper → run (look ((met ++ f ∷ []) ++ fs)) (Next n f) ≡ judged_from runaway limit (suc n) bytes (f ∷ fs) (run (look ((met ++ f ∷ []) ++ fs)) (go f))
    below n f fs trail deeper = cut n f fs deeper (nat_lt limit (bytes + size_of_fact f)) refl trail

    at : (o : Option Fact) → look met ask ≡ o → (left : ℕ) (more : List Fact) → bytes ≤ limit → IsTrailFrom (λ facts. outcome (run (look facts) (Tree o left))) met more → Deeper → run (look (met ++ more)) (Tree o left) ≡ judged_from runaway limit left bytes more (run (look (met ++ more)) (Asks ask go))
    at (Some f) is left more h t deeper = deeper f met left bytes more h t ∙ ap (λ o. judged_from runaway limit left bytes more (go_on ask (λ f. run (look (met ++ more)) (go f)) o)) (sym (look_more met more ask f is))
    at None is zero [] h t deeper = rw (append-nil met, is, not_over limit bytes h) refl
    at None is zero (f ∷ fs) h t deeper = absurd (let e = t.0 in cc)
    at None is (suc n) [] h t deeper = rw (append-nil met, is, not_over limit bytes h) refl
    at None is (suc n) (f ∷ fs) h t deeper =
        let need : Outcome.Need ask ≡ Outcome.Need (ask_of f) = sym (ap (λ o. outcome (go_on ask (λ f. run (look met) (Next n f)) o)) is) ∙ t.0 in
        let same : ask ≡ ask_of f = cc in
        let found : look (met ++ f ∷ []) ask ≡ Some f = subst (λ a. look (met ++ f ∷ []) a ≡ Some f) (sym same) (look_new met f (subst (λ a. look met a ≡ None) same is)) in
        let whole : (met ++ f ∷ []) ++ fs ≡ met ++ f ∷ fs = append_assoc met (f ∷ []) fs in
        let known : look (met ++ f ∷ fs) ask ≡ Some f = subst (λ k. look k ask ≡ Some f) whole (look_more (met ++ f ∷ []) fs ask f found) in
        let trail : IsTrailFrom (λ facts. outcome (run (look facts) (Next n f))) (met ++ f ∷ []) fs = trail_goes (met ++ f ∷ []) fs ask (Next n) f found t.1 in
        let inner : run (look (met ++ f ∷ fs)) (Next n f) ≡ judged_from runaway limit (suc n) bytes (f ∷ fs) (run (look (met ++ f ∷ fs)) (go f)) = subst (λ k. run (look k) (Next n f) ≡ judged_from runaway limit (suc n) bytes (f ∷ fs) (run (look k) (go f))) whole (below n f fs trail deeper) in
        ap (go_on ask (λ g. run (look (met ++ f ∷ fs)) (Next n g))) known ∙ inner ∙ ap (λ o. judged_from runaway limit (suc n) bytes (f ∷ fs) (go_on ask (λ g. run (look (met ++ f ∷ fs)) (go g)) o)) (sym known)

-- ---- in one count

step_more : (left : ℕ) (f : Fact) (fs : List Fact) (r : Result Made (Halt Ask Reply)) → asks_more left (length fs) r ≡ asks_more (suc left) (length (f ∷ fs)) r
step_more left f fs (Ok m) = refl
step_more left f fs (Err (Cause x)) = refl
step_more left f fs (Err (Need ask)) = grind (arith, nat_tests)

none_met : (left : ℕ) (r : Result Made (Halt Ask Reply)) → asks_more (suc left) 0 r ≡ false
none_met left (Ok m) = refl
none_met left (Err (Cause x)) = refl
none_met left (Err (Need ask)) = grind (arith, nat_tests)

stint_counts : (runaway : Reply) (left : ℕ) (more : List Fact) (r : Result Made (Halt Ask Reply)) → length more ≤ left → stinted runaway left more r ≡ (if asks_more left (length more) r then Err (Cause runaway) else r)
stint_counts runaway zero [] (Ok m) h = refl
stint_counts runaway zero [] (Err (Cause x)) h = refl
stint_counts runaway zero [] (Err (Need ask)) h = refl
stint_counts runaway zero (f ∷ fs) r h = absurd (omega arith)
stint_counts runaway (suc left) [] r h = rw (none_met left r) refl
stint_counts runaway (suc left) (f ∷ fs) r h = stint_counts runaway left fs r (omega arith) ∙ ap (λ b. if b then Err (Cause runaway) else r) (step_more left f fs r)

-- over a trail
pub limits_count : (runaway : Reply) (q : Evaluation) (facts : List Fact) → IsTrail (λ known. outcome (run (look known) (within_limits runaway q))) facts → run (look facts) (within_limits runaway q) ≡ judged runaway facts (run (look facts) q)
limits_count runaway q facts trail =
    let short : length facts ≤ most_asks = trail_short most_asks (within_limits runaway q) (limited_within runaway most_bytes [] most_asks 0 q) [] facts trail in
    counts runaway most_bytes [] most_asks 0 q facts (lit≤ tt) trail
    ∙ ap (λ r. if nat_lt most_bytes (sum_by size_of_fact facts) then Err (Cause runaway) else r) (stint_counts runaway most_asks facts (run (look facts) q) short)
