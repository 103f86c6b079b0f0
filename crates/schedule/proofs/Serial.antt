-- A change whose fetched objects have no later serial is what the request makes of the history as it is now:
-- the heart of serializability.
use Rattle.std.proofs.Common.{◌≡◌, ℕ, ◌≤◌, Bool, true, false, cond, List, [], ◌∷◌, Option, Some, None, refl, sym, ap, ◌∙◌, subst, arith, map, filter, nat_lt}
use Rattle.std.proofs.lemmas.Bool.Decides.{nat_tests}
use Rattle.evaluator.specs.declared.ask.Ask.{Ask}
use Rattle.evaluator.specs.declared.fact.Fact.{Fact}
use Rattle.evaluator.specs.declared.fact.Part.{Part}
use Rattle.evaluator.specs.declared.outcome.Outcome.{Outcome}
use Rattle.evaluator.specs.declared.reply.Reply.{Reply}
use Rattle.evaluator.specs.declared.draft.Draft.{Draft}
use Rattle.std.specs.Option.{option_map}
use Rattle.zbase.specs.History.{Value, Transaction, History, IsHistory, IsPrefixOf}
use Rattle.zbase.specs.Values.{revisions, newest, value_of, serial_of, serial, last, transaction}
use Rattle.evaluator.specs.Facts.{last_records, part_of, parts_of, fact, ask_of, look, TrueOf}
use Rattle.evaluator.specs.Exec.{is_lasting, Eval, exec, IsDecided, IsLawful}
use Rattle.zbase.specs.declared.ids.Clash.{Clash}
use Rattle.schedule.specs.Stepping.{clash_of, sooner, first_clash}
use Rattle.zbase.specs.HistoryLaws.{prefix_history, found_within, transaction_stays, before_stays, object_stays}

-- no clash: the serial isn't later
no_later : (s n : ℕ) (c : Clash) → cond (nat_lt s n) (Some c) None ≡ None → n ≤ s
no_later s n c e = grind (arith, nat_tests, e)

object_same : (p h : History) (o s : ℕ) (v : Value) → IsPrefixOf p h → IsHistory h → Fact.Object o v s ≡ fact p (Ask.Object o) → serial h o ≤ s → Fact.Object o v s ≡ fact h (Ask.Object o)
object_same p h o s v is good e le =
    let seen : s ≡ serial p o = cc in
    let same : newest (revisions h) o ≡ newest (revisions p) o = object_stays o is good (subst (λ n. serial h o ≤ n) seen le) in
    e ∙ ap (λ r. Fact.Object o (value_of r) (serial_of r)) (sym same)

parts_same : (p h : History) (t : ℕ) (ps : List Part) → IsPrefixOf p h → IsHistory h → Fact.Transaction t (Some ps) ≡ fact p (Ask.Transaction t) → Fact.Transaction t (Some ps) ≡ fact h (Ask.Transaction t)
parts_same p h t ps is good e = above (nat_lt p.floor t) refl
  where
    same : (x : Transaction) → transaction p t ≡ Some x → parts_of h x ≡ parts_of p x
    same x found =
        let within = found_within t 0 p.transactions x (prefix_history is good) found in
        ap (λ past. map (part_of past) (last_records x.records)) (before_stays x.tid is good (subst (λ n. n ≤ last p) (sym within.0) within.1))

    -- what a history tells of a transaction that is above its floor, and of one that isn't
    told : (b : Bool) (g : History) → nat_lt g.floor t ≡ b → fact g (Ask.Transaction t) ≡ Fact.Transaction t (option_map (parts_of g) (cond b (transaction g t) None))
    told b g lt = ap (λ c. Fact.Transaction t (option_map (parts_of g) (cond c (transaction g t) None))) lt

    go : (o : Option Transaction) → nat_lt p.floor t ≡ true → transaction p t ≡ o → Fact.Transaction t (Some ps) ≡ fact h (Ask.Transaction t)
    go None lt found = (let bad : Fact.Transaction t (Some ps) ≡ Fact.Transaction t None = e ∙ told true p lt ∙ ap (λ o. Fact.Transaction t (option_map (parts_of p) o)) found in cc)
    go (Some x) lt found =
        let seen : Fact.Transaction t (Some ps) ≡ Fact.Transaction t (Some (parts_of p x)) = e ∙ told true p lt ∙ ap (λ o. Fact.Transaction t (option_map (parts_of p) o)) found in
        let there : fact h (Ask.Transaction t) ≡ Fact.Transaction t (Some (parts_of h x)) = told true h (ap (λ n. nat_lt n t) (sym is.floor) ∙ lt) ∙ ap (λ o. Fact.Transaction t (option_map (parts_of h) o)) (transaction_stays t x is found) in
        seen ∙ ap (λ qs. Fact.Transaction t (Some qs)) (sym (same x found)) ∙ sym there

    above : (b : Bool) → nat_lt p.floor t ≡ b → Fact.Transaction t (Some ps) ≡ fact h (Ask.Transaction t)
    above false lt = (let bad : Fact.Transaction t (Some ps) ≡ Fact.Transaction t None = e ∙ told false p lt in cc)
    above true lt = go (transaction p t) lt refl

pub fact_stays : (p h : History) (f : Fact) → IsPrefixOf p h → IsHistory h → f ≡ fact p (ask_of f) → is_lasting f ≡ true → clash_of h f ≡ None → f ≡ fact h (ask_of f)
fact_stays p h (Fact.Object o v s) is good e lasts none = object_same p h o s v is good e (no_later s (serial h o) (record { oid = o; seen = s; found = serial h o }) none)
fact_stays p h (Fact.Transaction t None) is good e lasts none = cc
fact_stays p h (Fact.Transaction t (Some ps)) is good e lasts none = parts_same p h t ps is good e
fact_stays p h (Fact.Log rs) is good e lasts none = cc

first_none : (a b : Option Clash) → sooner a b ≡ None → (a ≡ None) × (b ≡ None)
first_none None b e = (refl, e)
first_none (Some c) b e = cc

pub facts_stay : (p h : History) (facts : List Fact) → IsPrefixOf p h → IsHistory h → TrueOf facts p → first_clash h facts ≡ None → TrueOf (filter is_lasting facts) h
facts_stay p h [] is good true_of none = tt
facts_stay p h (f ∷ fs) is good true_of none = go (is_lasting f) refl (facts_stay p h fs is good true_of.1 parts.1)
  where
    parts : (clash_of h f ≡ None) × (first_clash h fs ≡ None)
    parts = first_none (clash_of h f) (first_clash h fs) none

    go : (b : Bool) → is_lasting f ≡ b → TrueOf (filter is_lasting fs) h → TrueOf (filter is_lasting (f ∷ fs)) h
    go true lasts rest = rw lasts (fact_stays p h f is good true_of.0 lasts parts.0, rest)
    go false fades rest = rw fades rest

-- The heart of it: validated, a change is the one that the request makes of the history now.
pub change_stands : {R : Type 0} (eval : Eval R) (p h : History) (facts : List Fact) (q : R) (x : Reply) (d : Draft) → IsLawful eval → IsPrefixOf p h → IsHistory h → TrueOf facts p → eval (look facts) q ≡ Outcome.Change x d → first_clash h facts ≡ None → exec eval h q ≡ Outcome.Change x d
change_stands eval p h facts q x d lawful is good true_of e none =
    let kept = lawful.lasting facts q x d e in
    let decided : IsDecided (eval (look (filter is_lasting facts)) q) = subst IsDecided (sym kept) tt in
    lawful.whole (filter is_lasting facts) h q (facts_stay p h facts is good true_of none) decided ∙ kept
