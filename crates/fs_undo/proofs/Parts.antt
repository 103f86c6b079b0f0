-- How many of a transaction's parts have objects that are known.
use Rattle.std.proofs.Common.{ℕ, zero, suc, ◌≡◌, ◌≤◌, ◌<◌, ◌+◌, ◌∙◌, ◌∷◌, refl, sym, ap, subst, Bool, true, false, cond, List, [], length, take, drop, get_or, Option, Some, None, arith}
use Rattle.std.specs.Prelude.{is_some}
use Rattle.std.specs.Option.{option_and_then}
use Rattle.std.proofs.lemmas.List.{drop_more}
use Rattle.zbase.specs.Query.{Grows}
use Rattle.evaluator.specs.declared.ask.Ask.{Ask}
use Rattle.evaluator.specs.declared.fact.Fact.{Fact}
use Rattle.evaluator.specs.declared.fact.Part.{Part}
use Rattle.fs_undo.specs.Undo.{IsFar, first_unknown, object_value, value_known}

-- ---- the first that isn't known is among those that are left

behind_known : (known : Ask → Option Fact) (ps : List Part) (n : ℕ) → first_unknown known (take n ps) ≡ None → first_unknown known ps ≡ first_unknown known (drop n ps)
behind_known known ps zero e = refl
behind_known known [] (suc n) e = refl
behind_known known (p ∷ ps) (suc n) e = at (is_some (value_known known p.oid)) e (behind_known known ps n)
  where
    at : (b : Bool) → cond b (first_unknown known (take n ps)) (Some p.oid) ≡ None → (first_unknown known (take n ps) ≡ None → first_unknown known ps ≡ first_unknown known (drop n ps)) →
        cond b (first_unknown known ps) (Some p.oid) ≡ first_unknown known (drop n ps)
    at true e' deeper = deeper e'
    at false e' deeper = absurd (let bad = e' in cc)

there : (known : Ask → Option Fact) (ps : List Part) (n : ℕ) (p : Part) → n < length ps → p ≡ get_or ps n p → first_unknown known (take n ps) ≡ None →
    first_unknown known ps ≡ cond (is_some (value_known known p.oid)) (first_unknown known (drop (n + 1) ps)) (Some p.oid)
there known ps n p below is e = behind_known known ps n e ∙ ap (first_unknown known) (drop_more ps n p below ∙ ap (λ (q : Part). q ∷ drop (n + 1) ps) (sym is))

pub unknown_there : (known : Ask → Option Fact) (ps : List Part) (n : ℕ) (p : Part) → n < length ps → p ≡ get_or ps n p → first_unknown known (take n ps) ≡ None → is_some (value_known known p.oid) ≡ false →
    Some p.oid ≡ first_unknown known ps
unknown_there known ps n p below is e not = sym (there known ps n p below is e ∙ ap (λ b. cond b (first_unknown known (drop (n + 1) ps)) (Some p.oid)) not)

known_next : (known : Ask → Option Fact) (ps : List Part) (n : ℕ) (p : Part) → n < length ps → p ≡ get_or ps n p → first_unknown known (take n ps) ≡ None → is_some (value_known known p.oid) ≡ true →
    first_unknown known (take (suc n) ps) ≡ None
known_next known [] n p below is e own = absurd (omega (arith, below))
known_next known (q ∷ qs) zero p below is e own = ap (λ b. cond b None (Some q.oid)) (ap (λ (r : Part). is_some (value_known known r.oid)) (sym is) ∙ own)
known_next known (q ∷ qs) (suc n) p below is e own = at (is_some (value_known known q.oid)) e (λ e'. known_next known qs n p (omega (arith, below)) is e' own)
  where
    at : (b : Bool) → cond b (first_unknown known (take n qs)) (Some q.oid) ≡ None → (first_unknown known (take n qs) ≡ None → first_unknown known (take (suc n) qs) ≡ None) →
        cond b (first_unknown known (take (suc n) qs)) (Some q.oid) ≡ None
    at true e' deeper = deeper e'
    at false e' deeper = absurd (let bad = e' in cc)

-- the next one is known too
pub known_further : (known : Ask → Option Fact) (ps : List Part) (n : ℕ) (p : Part) → n < length ps → p ≡ get_or ps n p → first_unknown known (take n ps) ≡ None → is_some (value_known known p.oid) ≡ true →
    first_unknown known (take (n + 1) ps) ≡ None
known_further known ps n p below is e own =
    let more : suc n ≡ n + 1 = omega arith in
    subst (λ (m : ℕ). first_unknown known (take m ps) ≡ None) more (known_next known ps n p below is e own)

pub all_are_known : (known : Ask → Option Fact) (ps : List Part) (n : ℕ) → length ps ≤ n → first_unknown known (take n ps) ≡ None → None ≡ first_unknown known ps
all_are_known known [] n more e = refl
all_are_known known (p ∷ ps) zero more e = absurd (omega (arith, more))
all_are_known known (p ∷ ps) (suc n) more e = at (is_some (value_known known p.oid)) e (all_are_known known ps n (omega (arith, more)))
  where
    at : (b : Bool) → cond b (first_unknown known (take n ps)) (Some p.oid) ≡ None → (first_unknown known (take n ps) ≡ None → None ≡ first_unknown known ps) → None ≡ cond b (first_unknown known ps) (Some p.oid)
    at true e' deeper = deeper e'
    at false e' deeper = absurd (let bad = e' in cc)

-- ---- wherever more is known

some_still : (first later : Ask → Option Fact) (o : ℕ) → Grows first later → is_some (value_known first o) ≡ true → is_some (value_known later o) ≡ true
some_still first later o grows e = at (first (Ask.Object o)) refl e
  where
    at : (k : Option Fact) → first (Ask.Object o) ≡ k → is_some (option_and_then object_value k) ≡ true → is_some (value_known later o) ≡ true
    at None is e' = absurd (let bad = e' in cc)
    at (Some f) is e' = ap (λ k. is_some (option_and_then object_value k)) (grows (Ask.Object o) f is) ∙ e'

known_still : (first later : Ask → Option Fact) (ps : List Part) → Grows first later → first_unknown first ps ≡ None → first_unknown later ps ≡ None
known_still first later [] grows e = refl
known_still first later (p ∷ ps) grows e = at (is_some (value_known first p.oid)) refl e (known_still first later ps grows)
  where
    at : (b : Bool) → is_some (value_known first p.oid) ≡ b → cond b (first_unknown first ps) (Some p.oid) ≡ None → (first_unknown first ps ≡ None → first_unknown later ps ≡ None) → first_unknown later (p ∷ ps) ≡ None
    at true is e' deeper = ap (λ b. cond b (first_unknown later ps) (Some p.oid)) (some_still first later p.oid grows is) ∙ deeper e'
    at false is e' deeper = absurd (let bad = e' in cc)

-- over what is known
pub far_here : (known : Ask → Option Fact) (t u n : ℕ) (ps : List Part) → IsFar t known n → Some (Fact.Transaction u (Some ps)) ≡ known (Ask.Transaction t) → first_unknown known (take n ps) ≡ None
far_here known t u n ps far e = far known u ps (λ ask answer is. is) (sym e)

pub far_there : (known : Ask → Option Fact) (t u n : ℕ) (ps : List Part) → Some (Fact.Transaction u (Some ps)) ≡ known (Ask.Transaction t) → first_unknown known (take n ps) ≡ None → IsFar t known n
far_there known t u n ps e all = λ later v qs grows is. known_of later v qs grows (sym is ∙ grows (Ask.Transaction t) (Fact.Transaction u (Some ps)) (sym e))
  where
    known_of : (later : Ask → Option Fact) (v : ℕ) (qs : List Part) → Grows known later → Some (Fact.Transaction v (Some qs)) ≡ Some (Fact.Transaction u (Some ps)) → first_unknown later (take n qs) ≡ None
    known_of later v qs grows same = (let own : ps ≡ qs = cc in ap (λ (rs : List Part). first_unknown later (take n rs)) (sym own) ∙ known_still known later (take n ps) grows all)

pub far_begins : (known : Ask → Option Fact) (t : ℕ) → IsFar t known 0
far_begins known t = λ later u parts grows is. refl
