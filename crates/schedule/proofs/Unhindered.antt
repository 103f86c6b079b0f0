-- A request that meets nothing goes on by its own steps alone, whatever the steps of others are, and these steps are those of
-- its evaluation at its snapshot.
use Rattle.std.proofs.Common.{◌≡◌, ◌≢◌, ℕ, zero, suc, ◌+◌, ◌≤◌, ◌==◌, ◌&&◌, ◌⊎◌, Bool, true, false, cond, List, [], ◌∷◌, ◌++◌, Option, Some, None, refl, sym, ap, ◌∙◌, subst, arith, inl, inr, length, map, take, nat_lt, eqb-true, slice_get, slice_set, length-append}
use Rattle.std.proofs.lemmas.Bool.Decides.{nat_tests}
use Rattle.std.specs.List.{AllByRecursion}
use Rattle.zbase.specs.Limits.{greatest_number}
use Rattle.zbase.specs.History.{History, IsHistory, IsPrefixOf}
use Rattle.zbase.specs.HistoryLaws.{prefix_refl, prefix_trans, upto_stays}
use Rattle.zbase.specs.Values.{last, next, upto}
use Rattle.zbase.specs.declared.ids.Clash.{Clash}
use Rattle.evaluator.specs.declared.ask.Ask.{Ask}
use Rattle.evaluator.specs.declared.draft.Draft.{Draft}
use Rattle.evaluator.specs.declared.fact.Fact.{Fact}
use Rattle.evaluator.specs.declared.outcome.Outcome.{Outcome}
use Rattle.evaluator.specs.declared.reply.Mark.{Mark}
use Rattle.evaluator.specs.declared.reply.Reply.{Reply}
use Rattle.evaluator.specs.Change.{made}
use Rattle.evaluator.specs.Exec.{Eval, IsDecided, IsLawful, IsTrail, exec, most_asks}
use Rattle.evaluator.specs.FactLaws.{fact_asked, trail_push}
use Rattle.evaluator.specs.Facts.{TrueOf, ask_of, fact, look}
use Rattle.evaluator.specs.Settle.{settle, size}
use Rattle.schedule.specs.declared.item.Item2.{Item2}
use Rattle.schedule.specs.declared.line.Line.{Line}
use Rattle.schedule.specs.Asks.{asked_from, asks_at, then_asked}
use Rattle.schedule.specs.Causes.{denied_line, fault_reply, memory_reply, shown_lines, unknown_reply}
use Rattle.schedule.specs.Courses.{Happens, Place, Course, lines_of}
use Rattle.schedule.specs.Moments.{Terms, Attempt, Doing, Free, Waiting, Asking, Computed, Vote, Moment, doing, turned, dropped, stood, start}
use Rattle.schedule.specs.Packing.{PacksAt}
use Rattle.schedule.specs.Right.{begins_history, ends_section, history_after}
use Rattle.schedule.specs.Stepping.{Told, told, Trouble, Wants_memory, Disk_fails, Is_unknown, Is_stopped, Steps, conflicts, ended, fails, first_clash, from_asking, from_computed, from_doing, has_request, held_by, need, troubled, validated, vote_tid, votes}
use Rattle.schedule.specs.Unhindered.{GoTogether, GoesUnhindered, IsUnhindered, fetch_steps, hinders, is_step_of, last_steps, steps_of, whole_steps}
use Rattle.schedule.proofs.Good.{Good, NotHolder, Rooted, Sound, good_start, no_vote, not_holder, set_other}
use Rattle.schedule.proofs.Proper.{happens_rightly, held, none_has}
use Rattle.schedule.proofs.Running.{course_is_right}

-- ---- lists

take_none : {A : Type 0} (n : ℕ) → take n (let none : List A = [] in none) ≡ []
take_none zero = refl
take_none (suc n) = refl

none_yet : {A : Type 0} (xs : List A) → GoTogether xs []
none_yet xs = sym (take_none (length xs))

none_left : {A : Type 0} (ys : List A) → GoTogether [] ys
none_left ys = take_none (length ys)

one_more : {A : Type 0} (x : A) (xs ys : List A) → GoTogether xs ys → GoTogether (x ∷ xs) (x ∷ ys)
one_more x xs ys same = ap (λ zs. x ∷ zs) same

all_front : {A : Type 0} (P : A → Type 0) (xs ys : List A) → AllByRecursion P (xs ++ ys) → AllByRecursion P xs × AllByRecursion P ys
all_front P [] ys all = (tt, all)
all_front P (x ∷ xs) ys all = (let rest = all_front P xs ys all.1 in ((all.0, rest.0), rest.1))

same_number : (w : ℕ) → (w == w) ≡ true
same_number w = grind (arith, nat_tests)

-- no line of its own says that the worker met something
met : (w : ℕ) → (w == w) ≡ false → ⊥
met w none = (let bad : true ≡ false = sym (same_number w) ∙ none in cc)

stopped : true ≡ false → ⊥
stopped bad = cc

-- ---- a step of the worker

-- where it meets nothing it is one of the table
no_trouble : {R : Type 0} (terms : Terms R) (m : Moment R) (w : ℕ) (trouble : Trouble) (lines : List Line) (new : Moment R) → troubled terms m w trouble ≡ Some (lines, new) → IsUnhindered w lines → ⊥
no_trouble {R} terms m w trouble lines new e quiet = outer (has_request (doing m w)) e
  where
    so : (s : Told R) → (IsUnhindered w s.0 → ⊥) → Some s ≡ (let r : Option (Told R) = Some (lines, new) in r) → ⊥
    so s bad same = (let one : s ≡ (lines, new) = cc in bad (subst (λ (k : Told R). IsUnhindered w k.0) (sym one) quiet))

    inner : (o : Option Vote) (t : Trouble) → fails terms m w o t ≡ Some (lines, new) → ⊥
    inner None Wants_memory same = so _ (λ all. met w all.0) same
    inner None Disk_fails same = so _ (λ all. met w all.0) same
    inner (Some v) (Is_unknown stands) same = so _ (λ all. met w all.0) same
    inner None (Is_stopped stands openings) same = so _ (λ all. stopped all.0) same
    inner (Some v) (Is_stopped stands openings) same = so _ (λ all. stopped all.0) same
    inner (Some v) Wants_memory same = absurd cc
    inner (Some v) Disk_fails same = absurd cc
    inner None (Is_unknown stands) same = absurd cc

    outer : (b : Bool) → cond b (fails terms m w (held_by w m.vote) trouble) None ≡ Some (lines, new) → ⊥
    outer true same = inner (held_by w m.vote) trouble same
    outer false same = absurd cc

own_step : {R : Type 0} (terms : Terms R) (m new : Moment R) (w : ℕ) (lines : List Line) → Steps terms m w lines new → IsUnhindered w lines → told terms m w ≡ (lines, new)
own_step terms m new w lines (inl table) quiet = table
own_step terms m new w lines (inr (trouble, e)) quiet = absurd (no_trouble terms m w trouble lines new e quiet)

-- ---- steps of others

-- what the worker is doing stays, and its vote, if it has one
record Spares {R : Type 0} (w : ℕ) (old new : Moment R) : Type 0 where
  doing_is : doing new w ≡ doing old w
  held_is : (v : Vote) → old.vote ≡ Some v → v.holder ≡ w → new.vote ≡ Some v
  free : NotHolder old w → NotHolder new w

spares_same : {R : Type 0} (w : ℕ) (m : Moment R) → Spares w m m
spares_same w m = record { doing_is = refl; held_is = λ v e same. e; free = λ not. not }

-- another worker turns to something else
spares_turned : {R : Type 0} (w u : ℕ) (m : Moment R) (d : Doing R) → w ≢ u → Spares w m (turned m u d)
spares_turned w u m d other = record { doing_is = set_other d m.workers u w other; held_is = λ v e same. e; free = λ not. not }

-- another worker's vote is settled
spares_settled : {R : Type 0} (w u : ℕ) (m n : Moment R) (d : Doing R) (v : Vote) → w ≢ u → m.vote ≡ Some v → v.holder ≡ u → n.workers ≡ m.workers → n.vote ≡ None → Spares w m (turned n u d)
spares_settled w u m n d v other out holder workers none = record {
  doing_is = set_other d n.workers u w other ∙ ap (λ ws. slice_get ws w) workers;
  held_is = λ x e same. absurd (let both : Some v ≡ Some x = sym out ∙ e in let one : v ≡ x = cc in other (sym same ∙ ap (λ (k : Vote). k.holder) (sym one) ∙ holder));
  free = λ not. no_vote (turned n u d) w none;
}

abbrev SparesTold : {R : Type 0} → ℕ → Moment R → Told R → Type 0
SparesTold w m t = Spares w m t.1

either : {R : Type 0} (w : ℕ) (m : Moment R) (b : Bool) (r s : Told R) → SparesTold w m r → SparesTold w m s → SparesTold w m (cond b r s)
either w m true r s p q = p
either w m false r s p q = q

spares_votes : {R : Type 0} (terms : Terms R) (m : Moment R) (w u : ℕ) (x : Reply) (d : Draft) → w ≢ u → m.vote ≡ None → SparesTold w m (votes terms m u x d)
spares_votes terms m w u x d other none =
    either w m (last m.standing == greatest_number) _ _ (spares_turned w u m Free other)
    (either w m (nat_lt 0 (made d) && nat_lt greatest_number (next m.standing + made d)) _ _ (spares_turned w u m Free other)
    (either w m (nat_lt terms.limit (need m d)) _ _ (spares_turned w u m Free other)
    (record {
      doing_is = refl;
      held_is = λ v e same. absurd (let bad : Some v ≡ None = sym e ∙ none in cc);
      free = λ not v e same. other (let one : record { holder = u; reply = x; transaction = settle m.standing d (vote_tid m); size = size d } ≡ v = cc in sym same ∙ ap (λ (k : Vote). k.holder) (sym one));
    })))

spares_conflicts : {R : Type 0} (terms : Terms R) (m : Moment R) (w u : ℕ) (a : Attempt R) (c : Clash) → w ≢ u → SparesTold w m (conflicts terms m u a c)
spares_conflicts terms m w u a c other = either w m (nat_lt (length a.clashes) 3) _ _ (spares_turned w u m (Waiting a.request (a.clashes ++ c ∷ [])) other) (spares_turned w u m Free other)

spares_validated : {R : Type 0} (terms : Terms R) (m : Moment R) (w u : ℕ) (a : Attempt R) (x : Reply) (d : Draft) (c : Option Clash) → w ≢ u → m.vote ≡ None → SparesTold w m (validated terms m u a x d c)
spares_validated terms m w u a x d (Some c) other none = spares_conflicts terms m w u a c other
spares_validated terms m w u a x d None other none = spares_votes terms m w u x d other none

spares_computed : {R : Type 0} (terms : Terms R) (m : Moment R) (w u : ℕ) (a : Attempt R) (x : Reply) (d : Draft) (o : Option Vote) → w ≢ u → m.vote ≡ o → SparesTold w m (from_computed terms m u a x d o)
spares_computed {R} terms m w u a x d (Some v) other e = go (v.holder == u) refl
  where
    go : (b : Bool) → (v.holder == u) ≡ b → SparesTold w m (cond b (let t : Told R = (Line.ReplyCommit u v.transaction.tid (terms.answer v.reply (Mark.Commit v.transaction.tid)) ∷ shown_lines u v.reply, turned (stood m v) u Free) in t) (Line.Busy u v.holder ∷ [], m))
    go true same = spares_settled w u m (stood m v) Free v other e (eqb-true v.holder u same) refl refl
    go false differs = spares_same w m
spares_computed terms m w u a x d None other e = spares_validated terms m w u a x d (first_clash m.standing a.facts) other e

spares_asking : {R : Type 0} (terms : Terms R) (m : Moment R) (w u : ℕ) (a : Attempt R) (o : Outcome) → w ≢ u → SparesTold w m (from_asking terms m u a o)
spares_asking terms m w u a (Outcome.Need ask) other = spares_turned w u m _ other
spares_asking terms m w u a (Outcome.Answer x) other = spares_turned w u m Free other
spares_asking terms m w u a (Outcome.Change x d) other = spares_turned w u m (Computed a x d) other

spares_doing : {R : Type 0} (terms : Terms R) (m : Moment R) (w u : ℕ) (d : Option (Doing R)) → w ≢ u → SparesTold w m (from_doing terms m u d)
spares_doing terms m w u None other = spares_same w m
spares_doing terms m w u (Some Free) other = spares_same w m
spares_doing terms m w u (Some (Waiting q cs)) other = spares_turned w u m _ other
spares_doing terms m w u (Some (Asking a)) other = spares_asking terms m w u a (terms.eval (look a.facts) a.request) other
spares_doing terms m w u (Some (Computed a x d)) other = spares_computed terms m w u a x d m.vote other refl

stops : {R : Type 0} (w : ℕ) (s r : Told R) → Some s ≡ Some r → (IsUnhindered w s.0 → ⊥) → IsUnhindered w r.0 → ⊥
stops {R} w s r same bad quiet = (let one : s ≡ r = cc in bad (subst (λ (k : Told R). IsUnhindered w k.0) (sym one) quiet))

-- a fault of another's step ends that one's request alone
spares_fails : {R : Type 0} (terms : Terms R) (m : Moment R) (w u : ℕ) (o : Option Vote) (trouble : Trouble) (r : Told R) → w ≢ u → held_by u m.vote ≡ o → fails terms m u o trouble ≡ Some r → IsUnhindered w r.0 → SparesTold w m r
spares_fails {R} terms m w u None Wants_memory r other h e quiet = (let same : ended terms m u (Line.Memory u ∷ []) memory_reply ≡ r = cc in subst (SparesTold w m) same (spares_turned w u m Free other))
spares_fails {R} terms m w u None Disk_fails r other h e quiet = (let same : ended terms m u (Line.DiskFault u ∷ []) fault_reply ≡ r = cc in subst (SparesTold w m) same (spares_turned w u m Free other))
spares_fails {R} terms m w u (Some v) (Is_unknown true) r other h e quiet =
    let own = held u m.vote v h in
    let same : ended terms (stood m v) u (Line.Unknown u v.transaction.tid ∷ []) (unknown_reply v.transaction.tid) ≡ r = cc in
    subst (SparesTold w m) same (spares_settled w u m (stood m v) Free v other own.0 own.1 refl refl)
spares_fails {R} terms m w u (Some v) (Is_unknown false) r other h e quiet =
    let own = held u m.vote v h in
    let same : ended terms (dropped m) u (Line.Unknown u v.transaction.tid ∷ []) (unknown_reply v.transaction.tid) ≡ r = cc in
    subst (SparesTold w m) same (spares_settled w u m (dropped m) Free v other own.0 own.1 refl refl)
spares_fails {R} terms m w u None (Is_stopped stands openings) r other h e quiet = absurd (stops w _ r e (λ all. stopped all.0) quiet)
spares_fails {R} terms m w u (Some v) (Is_stopped stands openings) r other h e quiet = absurd (stops w _ r e (λ all. stopped all.0) quiet)
spares_fails terms m w u (Some v) Wants_memory r other h e quiet = absurd cc
spares_fails terms m w u (Some v) Disk_fails r other h e quiet = absurd cc
spares_fails terms m w u None (Is_unknown b) r other h e quiet = absurd cc

spares_troubled : {R : Type 0} (terms : Terms R) (m : Moment R) (w u : ℕ) (trouble : Trouble) (r : Told R) → w ≢ u → troubled terms m u trouble ≡ Some r → IsUnhindered w r.0 → SparesTold w m r
spares_troubled {R} terms m w u trouble r other e quiet = go (has_request (doing m u)) e
  where
    go : (b : Bool) → cond b (fails terms m u (held_by u m.vote) trouble) None ≡ Some r → SparesTold w m r
    go true same = spares_fails terms m w u (held_by u m.vote) trouble r other refl same quiet
    go false same = absurd cc

spares_steps : {R : Type 0} (terms : Terms R) (m new : Moment R) (w u : ℕ) (lines : List Line) → w ≢ u → Steps terms m u lines new → IsUnhindered w lines → Spares w m new
spares_steps {R} terms m new w u lines other (inl table) quiet = subst (SparesTold w m) table (spares_doing terms m w u (doing m u) other)
spares_steps terms m new w u lines other (inr (trouble, e)) quiet = spares_troubled terms m w u trouble (lines, new) other e quiet

apart : (w v : ℕ) → (v == w) ≡ false → w ≢ v
apart w v differs = λ same. grind (arith, nat_tests, differs, same)

-- while a worker has a request, a pack leaves all as it was, and doesn't end the section
pack_waits : {R : Type 0} (terms : Terms R) (m new : Moment R) (w t : ℕ) (lines : List Line) → PacksAt terms m t lines new → has_request (doing m w) ≡ true → (new ≡ m) × (begins_history lines ≡ false)
pack_waits {R} terms m new w t lines (inl (busy, e)) has = (sym (ap (λ (r : Told R). r.1) e), subst (λ (r : Told R). begins_history r.0 ≡ false) e refl)
pack_waits terms m new w t lines (inr (none, did)) has = absurd (let bad : true ≡ false = sym has ∙ none_has m.workers w none in cc)

pack_spares : {R : Type 0} (terms : Terms R) (m new : Moment R) (w t : ℕ) (lines : List Line) → PacksAt terms m t lines new → has_request (doing m w) ≡ true → Spares w m new
pack_spares {R} terms m new w t lines h has = subst (λ (k : Moment R). Spares w m k) (sym (pack_waits terms m new w t lines h has).0) (spares_same w m)

-- so no section ends while a worker has a request
section_stays : {R : Type 0} (terms : Terms R) (m new : Moment R) (w : ℕ) (item : Item2) (lines : List Line) → Happens terms m item lines new → has_request (doing m w) ≡ true → ends_section item lines ≡ false
section_stays terms m new w (Item2.Request v bytes) lines h has = refl
section_stays terms m new w (Item2.Step v) lines h has = refl
section_stays terms m new w (Item2.Clock t) lines h has = refl
section_stays terms m new w (Item2.Stop n seed) lines h has = refl
section_stays terms m new w (Item2.Fail n seed) lines h has = refl
section_stays terms m new w (Item2.Pack t) lines h has = (pack_waits terms m new w t lines h has).1
section_stays terms m new w Item2.End lines h has = absurd h

-- an item that is no step of the worker leaves it alone, while it has a request
spares_item : {R : Type 0} (terms : Terms R) (m new : Moment R) (w : ℕ) (item : Item2) (lines : List Line) → Happens terms m item lines new → is_step_of w item ≡ false → IsUnhindered w lines → has_request (doing m w) ≡ true → Spares w m new
spares_item {R} terms m new w (Item2.Request v bytes) lines h other quiet busy = go (v == w) refl
  where
    go : (b : Bool) → (v == w) ≡ b → Spares w m new
    go true same =
        absurd (
        let idle : doing m w ≡ Some Free = subst (λ k. doing m k ≡ Some Free) (eqb-true v w same) h.2 in
        let bad : false ≡ true = sym (ap has_request idle) ∙ busy in
        cc)
    go false differs = subst (λ (k : Moment R). Spares w m k) (sym h.4) (spares_turned w v m (Waiting h.0 []) (apart w v differs))
spares_item terms m new w (Item2.Step v) lines h other quiet busy = spares_steps terms m new w v lines (apart w v other) h quiet
spares_item {R} terms m new w (Item2.Clock t) lines h other quiet busy = subst (λ (k : Moment R). Spares w m k) (sym h.1) (record { doing_is = refl; held_is = λ v e same. e; free = λ not. not })
spares_item {R} terms m new w (Item2.Stop n seed) lines h other quiet busy = subst (λ (k : Moment R). Spares w m k) (sym h.1) (spares_same w m)
spares_item {R} terms m new w (Item2.Fail n seed) lines h other quiet busy = subst (λ (k : Moment R). Spares w m k) (sym h.1) (spares_same w m)
spares_item terms m new w (Item2.Pack t) lines h other quiet busy = pack_spares terms m new w t lines h busy
spares_item terms m new w Item2.End lines h other quiet busy = absurd h

step_is : (w : ℕ) (item : Item2) → is_step_of w item ≡ true → item ≡ Item2.Step w
step_is w (Item2.Step v) is = ap Item2.Step (eqb-true v w is)
step_is w (Item2.Request v bytes) is = absurd cc
step_is w (Item2.Clock t) is = absurd cc
step_is w (Item2.Stop n seed) is = absurd cc
step_is w (Item2.Fail n seed) is = absurd cc
step_is w (Item2.Pack t) is = absurd cc
step_is w Item2.End is = absurd cc

-- ---- place by place

-- from this moment on these places follow, by a part of the history, and the worker meets nothing in them
record Onward {R : Type 0} (terms : Terms R) (h : History) (w : ℕ) (m : Moment R) (ps : List (Place R)) : Type 0 where
  good : Good terms m
  end : Moment R
  course : Course terms m ps end
  grows : IsPrefixOf (history_after ps end) h
  quiet : IsUnhindered w (lines_of ps)

-- a part of the history stands by then
stands_in : {R : Type 0} (terms : Terms R) (h : History) (w : ℕ) (m : Moment R) (ps : List (Place R)) → IsLawful terms.eval → Onward terms h w m ps → IsPrefixOf m.standing h
stands_in terms h w m ps lawful on = prefix_trans (course_is_right terms m ps on.end lawful on.good on.course).grows on.grows

-- the next place is a step of the worker by the table, or leaves it alone
record Next {R : Type 0} (terms : Terms R) (h : History) (w : ℕ) (m : Moment R) (p : Place R) (ps : List (Place R)) : Type 0 where
  rest : Onward terms h w p.after ps
  quiet : IsUnhindered w p.lines
  either : ((told terms m w ≡ (p.lines, p.after)) × (steps_of w (p ∷ ps) ≡ p.lines ∷ steps_of w ps)) ⊎ (Spares w m p.after × (steps_of w (p ∷ ps) ≡ steps_of w ps))

next_place : {R : Type 0} (terms : Terms R) (h : History) (w : ℕ) (m : Moment R) (p : Place R) (ps : List (Place R)) → IsLawful terms.eval → Onward terms h w m (p ∷ ps) → has_request (doing m w) ≡ true → Next terms h w m p ps
next_place {R} terms h w m p ps lawful on busy = record {
  rest = record { good = (happens_rightly terms p.before p.item p.lines p.after lawful (subst (Good terms) on.course.0 on.good) on.course.1).good; end = on.end; course = on.course.2; grows = subst (λ b. IsPrefixOf (cond b p.before.standing (history_after ps on.end)) h) (section_stays terms m p.after w p.item p.lines here busy) on.grows; quiet = parts.1 };
  quiet = parts.0;
  either = go (is_step_of w p.item) refl;
}
  where
    parts : IsUnhindered w p.lines × IsUnhindered w (lines_of ps)
    parts = all_front (λ line. hinders w line ≡ false) p.lines (lines_of ps) on.quiet

    here : Happens terms m p.item p.lines p.after
    here = subst (λ (k : Moment R). Happens terms k p.item p.lines p.after) (sym on.course.0) on.course.1

    go : (b : Bool) → is_step_of w p.item ≡ b → ((told terms m w ≡ (p.lines, p.after)) × (steps_of w (p ∷ ps) ≡ p.lines ∷ steps_of w ps)) ⊎ (Spares w m p.after × (steps_of w (p ∷ ps) ≡ steps_of w ps))
    go true e = inl (own_step terms m p.after w p.lines (subst (λ (i : Item2). Happens terms m i p.lines p.after) (step_is w p.item e) here) parts.0, rw e refl)
    go false e = inr (spares_item terms m p.after w p.item p.lines here e parts.0 busy, rw e refl)

-- the worker itself does what it turned to
set_here : {X : Type 0} (d x : X) (xs : List X) (w : ℕ) → slice_get xs w ≡ Some x → slice_get (slice_set xs w d) w ≡ Some d
set_here d x [] w e = absurd cc
set_here d x (y ∷ xs) zero e = refl
set_here d x (y ∷ xs) (suc w) e = set_here d x xs w e

-- ---- the steps of a request, from the last one on

abbrev commit_step : {R : Type 0} → Terms R → ℕ → ℕ → Reply → List Line
commit_step terms w tid x = Line.ReplyCommit w tid (terms.answer x (Mark.Commit tid)) ∷ shown_lines w x

lines_are : {R : Type 0} (s t : Told R) → s ≡ t → s.0 ≡ t.0
lines_are {R} s t e = ap (λ (k : Told R). k.0) e

after_is : {R : Type 0} (s t : Told R) → s ≡ t → s.1 ≡ t.1
after_is {R} s t e = ap (λ (k : Told R). k.1) e

-- a step that is one of the list, and what follows it
goes_on : (line : List Line) (left steps now rest : List (List Line)) (lines : List Line) → line ≡ lines → steps ≡ lines ∷ rest → now ≡ line ∷ left → GoTogether left rest → GoTogether now steps
goes_on line left steps now rest lines e f g together = rw (f, g) (subst (λ (k : List Line). GoTogether (line ∷ left) (k ∷ rest)) e (one_more line left rest together))

voted : {R : Type 0} (terms : Terms R) (h : History) (w : ℕ) (a : Attempt R) (x : Reply) (d : Draft) (v : Vote) → IsLawful terms.eval → v.holder ≡ w
    → (ps : List (Place R)) (m : Moment R) → Onward terms h w m ps → doing m w ≡ Some (Computed a x d) → m.vote ≡ Some v → GoTogether (commit_step terms w v.transaction.tid v.reply ∷ []) (steps_of w ps)
voted terms h w a x d v lawful holds [] m on does out = none_yet (commit_step terms w v.transaction.tid v.reply ∷ [])
voted {R} terms h w a x d v lawful holds (p ∷ ps) m on does out =
    let n = next_place terms h w m p ps lawful on (ap has_request does) in
    let step : List Line = commit_step terms w v.transaction.tid v.reply in
    elim n.either [
      | inl own ↦
          let chosen : from_computed terms m w a x d (Some v) ≡ (step, turned (stood m v) w Free) = rw (ap (λ k. k == w) holds ∙ same_number w) refl in
          let is : told terms m w ≡ (step, turned (stood m v) w Free) = ap (from_doing terms m w) does ∙ ap (from_computed terms m w a x d) out ∙ chosen in
          goes_on step [] (steps_of w (p ∷ ps)) (step ∷ []) (steps_of w ps) p.lines (lines_are (step, turned (stood m v) w Free) (p.lines, p.after) (sym is ∙ own.0)) own.1 refl (none_left (steps_of w ps))
      | inr other ↦ subst (GoTogether (step ∷ [])) (sym other.1) (voted terms h w a x d v lawful holds ps p.after n.rest (other.0.doing_is ∙ does) (other.0.held_is v out holds))
    ]

-- a change that is ready, and meets nothing, votes
abbrev vote_of : {R : Type 0} → Moment R → ℕ → Reply → Draft → Vote
vote_of m w x d = record { holder = w; reply = x; transaction = settle m.standing d (vote_tid m); size = size d }

abbrev Voting : {R : Type 0} → Moment R → ℕ → Reply → Draft → Told R → Type 0
Voting m w x d t = IsUnhindered w t.0 → t ≡ (Line.Vote w (vote_tid m) ∷ [], record { standing = m.standing; end = m.end; clock = m.clock; vote = Some (vote_of m w x d); workers = m.workers })

voting_either : {R : Type 0} (m : Moment R) (w : ℕ) (x : Reply) (d : Draft) (b : Bool) (r s : Told R) → Voting m w x d r → Voting m w x d s → Voting m w x d (cond b r s)
voting_either m w x d true r s p q = p
voting_either m w x d false r s p q = q

voting_votes : {R : Type 0} (terms : Terms R) (m : Moment R) (w : ℕ) (x : Reply) (d : Draft) → Voting m w x d (votes terms m w x d)
voting_votes terms m w x d =
    voting_either m w x d (last m.standing == greatest_number) _ _ (λ all. absurd (met w all.0))
    (voting_either m w x d (nat_lt 0 (made d) && nat_lt greatest_number (next m.standing + made d)) _ _ (λ all. absurd (met w all.0))
    (voting_either m w x d (nat_lt terms.limit (need m d)) _ _ (λ all. absurd (met w all.0)) (λ all. refl)))

voting_validated : {R : Type 0} (terms : Terms R) (m : Moment R) (w : ℕ) (a : Attempt R) (x : Reply) (d : Draft) (c : Option Clash) → Voting m w x d (validated terms m w a x d c)
voting_validated terms m w a x d (Some c) = voting_either m w x d (nat_lt (length a.clashes) 3) _ _ (λ all. absurd (met w all.0)) (λ all. absurd (met w all.0))
voting_validated terms m w a x d None = voting_votes terms m w x d

voting_computed : {R : Type 0} (terms : Terms R) (m : Moment R) (w : ℕ) (a : Attempt R) (x : Reply) (d : Draft) (o : Option Vote) → m.vote ≡ o → NotHolder m w → Voting m w x d (from_computed terms m w a x d o)
voting_computed {R} terms m w a x d (Some v) e not = go (v.holder == w) refl
  where
    go : (b : Bool) → (v.holder == w) ≡ b → Voting m w x d (cond b (let t : Told R = (commit_step terms w v.transaction.tid v.reply, turned (stood m v) w Free) in t) (Line.Busy w v.holder ∷ [], m))
    go true same = λ all. absurd (not v e (eqb-true v.holder w same))
    go false differs = λ all. absurd (met w all.0)
voting_computed terms m w a x d None e not = voting_validated terms m w a x d (first_clash m.standing a.facts)

ready : {R : Type 0} (terms : Terms R) (h : History) (w : ℕ) (a : Attempt R) (x : Reply) (d : Draft) → IsLawful terms.eval
    → (ps : List (Place R)) (m : Moment R) → Onward terms h w m ps → doing m w ≡ Some (Computed a x d) → NotHolder m w → (tid : ℕ) × GoTogether ((Line.Vote w tid ∷ []) ∷ commit_step terms w tid x ∷ []) (steps_of w ps)
ready terms h w a x d lawful [] m on does not = (0, none_yet ((Line.Vote w 0 ∷ []) ∷ commit_step terms w 0 x ∷ []))
ready {R} terms h w a x d lawful (p ∷ ps) m on does not =
    let n = next_place terms h w m p ps lawful on (ap has_request does) in
    elim n.either [
      | inl own ↦
          let v : Vote = vote_of m w x d in
          let to : Moment R = record { standing = m.standing; end = m.end; clock = m.clock; vote = Some v; workers = m.workers } in
          let first : told terms m w ≡ from_computed terms m w a x d m.vote = ap (from_doing terms m w) does in
          let quiet : IsUnhindered w (from_computed terms m w a x d m.vote).0 = subst (λ (t : Told R). IsUnhindered w t.0) (sym own.0 ∙ first) n.quiet in
          let is : (Line.Vote w (vote_tid m) ∷ [], to) ≡ (p.lines, p.after) = sym (voting_computed terms m w a x d m.vote refl not quiet) ∙ sym first ∙ own.0 in
          let behind : to ≡ p.after = after_is (Line.Vote w (vote_tid m) ∷ [], to) (p.lines, p.after) is in
          let rest = voted terms h w a x d v lawful refl ps p.after n.rest (ap (λ (k : Moment R). doing k w) (sym behind) ∙ does) (ap (λ (k : Moment R). k.vote) (sym behind)) in (
            vote_tid m,
            goes_on (Line.Vote w (vote_tid m) ∷ []) (commit_step terms w (vote_tid m) x ∷ []) (steps_of w (p ∷ ps)) ((Line.Vote w (vote_tid m) ∷ []) ∷ commit_step terms w (vote_tid m) x ∷ []) (steps_of w ps) p.lines (lines_are (Line.Vote w (vote_tid m) ∷ [], to) (p.lines, p.after) is) own.1 refl rest,
          )
      | inr other ↦
          let rest = ready terms h w a x d lawful ps p.after n.rest (other.0.doing_is ∙ does) (other.0.free not) in
          (rest.0, subst (GoTogether ((Line.Vote w rest.0 ∷ []) ∷ commit_step terms w rest.0 x ∷ [])) (sym other.1) rest.1)
    ]

-- ---- an attempt under way

nothing_asked : (o : Outcome) (behind : Ask → List Ask) → IsDecided o → then_asked o behind ≡ []
nothing_asked (Outcome.Need ask) behind decided = absurd decided
nothing_asked (Outcome.Answer x) behind decided = refl
nothing_asked (Outcome.Change x d) behind decided = refl

none_from : {R : Type 0} (n : ℕ) (eval : Eval R) (h : History) (q : R) (known : List Fact) → IsDecided (eval (look known) q) → asked_from n eval h q known ≡ []
none_from zero eval h q known decided = refl
none_from (suc n) eval h q known decided = nothing_asked (eval (look known) q) (λ ask. asked_from n eval h q (known ++ fact h ask ∷ [])) decided

-- an evaluation asks for no more facts than it may
abbrev pub AsksFew : {R : Type 0} → Eval R → Type 0
AsksFew {R = R} eval = (facts : List Fact) (q : R) → IsTrail (λ known. eval (look known) q) facts → length facts ≤ most_asks

-- what is left of a request's steps from these facts on
abbrev left_from : {R : Type 0} → Terms R → History → ℕ → ℕ → ℕ → Attempt R → List (List Line)
left_from terms h w n tid a = fetch_steps w (asked_from n terms.eval (upto h a.snapshot) a.request a.facts) ++ last_steps terms w a.snapshot tid (exec terms.eval (upto h a.snapshot) a.request)

-- the attempt with one fact more
abbrev learned : {R : Type 0} → Attempt R → Fact → Attempt R
learned a f = record { request = a.request; clashes = a.clashes; snapshot = a.snapshot; facts = a.facts ++ f ∷ [] }

left_asks : {R : Type 0} (terms : Terms R) (h : History) (w n tid : ℕ) (a : Attempt R) (ask : Ask) → terms.eval (look a.facts) a.request ≡ Outcome.Need ask → left_from terms h w (suc n) tid a ≡ (Line.Fetch w ask ∷ []) ∷ left_from terms h w n tid (learned a (fact (upto h a.snapshot) ask))
left_asks terms h w n tid a ask e =
    let behind : Ask → List Ask = (λ k. asked_from n terms.eval (upto h a.snapshot) a.request (a.facts ++ fact (upto h a.snapshot) k ∷ [])) in
    ap (λ o. fetch_steps w (then_asked o behind) ++ last_steps terms w a.snapshot tid (exec terms.eval (upto h a.snapshot) a.request)) e

left_decided : {R : Type 0} (terms : Terms R) (h : History) (w n tid : ℕ) (a : Attempt R) (o : Outcome) → IsLawful terms.eval → TrueOf a.facts (upto h a.snapshot) → terms.eval (look a.facts) a.request ≡ o → IsDecided o → left_from terms h w n tid a ≡ last_steps terms w a.snapshot tid o
left_decided terms h w n tid a o lawful known e decided =
    let here : IsDecided (terms.eval (look a.facts) a.request) = subst IsDecided (sym e) decided in
    ap (λ asks. fetch_steps w asks ++ last_steps terms w a.snapshot tid (exec terms.eval (upto h a.snapshot) a.request)) (none_from n terms.eval (upto h a.snapshot) a.request a.facts here)
    ∙ ap (last_steps terms w a.snapshot tid) (lawful.whole a.facts (upto h a.snapshot) a.request known here ∙ e)

-- what is known of the history up to the snapshot
rooted_in : {R : Type 0} (terms : Terms R) (h : History) (w : ℕ) (m : Moment R) (ps : List (Place R)) (a : Attempt R) → IsLawful terms.eval → IsHistory h → Onward terms h w m ps → doing m w ≡ Some (Asking a) → (upto h a.snapshot ≡ upto m.standing a.snapshot) × TrueOf a.facts (upto h a.snapshot)
rooted_in terms h w m ps a lawful good on does =
    let root : Rooted m.standing a = subst (Sound terms m.standing) does (on.good.workers w) in
    let same : upto h a.snapshot ≡ upto m.standing a.snapshot = upto_stays a.snapshot (stands_in terms h w m ps lawful on) good root.below in
    (same, subst (TrueOf a.facts) (sym same) root.facts)

-- an attempt that is under way there goes on so
abbrev GoesOn : {R : Type 0} → Terms R → History → ℕ → Moment R → List (Place R) → Type 0
GoesOn {R = R} terms h w m ps = (a : Attempt R) (n : ℕ) → Onward terms h w m ps → doing m w ≡ Some (Asking a) → IsTrail (λ known. terms.eval (look known) a.request) a.facts → length a.facts + n ≡ most_asks → (tid : ℕ) × GoTogether (left_from terms h w n tid a) (steps_of w ps)

asking_on : {R : Type 0} (terms : Terms R) (h : History) (w : ℕ) → IsLawful terms.eval → AsksFew terms.eval → IsHistory h → (p : Place R) (ps : List (Place R)) (m : Moment R) → GoesOn terms h w p.after ps → GoesOn terms h w m (p ∷ ps)
asking_on {R} terms h w lawful few good p ps m again a n on does trail count = elim next.either [ inl own ↦ by_outcome (terms.eval (look a.facts) a.request) refl own.0 own.1 | inr other ↦ apart_from other.0 other.1 ]
  where
    next : Next terms h w m p ps
    next = next_place terms h w m p ps lawful on (ap has_request does)

    root : (upto h a.snapshot ≡ upto m.standing a.snapshot) × TrueOf a.facts (upto h a.snapshot)
    root = rooted_in terms h w m (p ∷ ps) a lawful good on does

    apart_from : Spares w m p.after → steps_of w (p ∷ ps) ≡ steps_of w ps → (tid : ℕ) × GoTogether (left_from terms h w n tid a) (steps_of w (p ∷ ps))
    apart_from spares same = (let rest = again a n next.rest (spares.doing_is ∙ does) trail count in (rest.0, subst (GoTogether (left_from terms h w n rest.0 a)) (sym same) rest.1))

    by_asks : (ask : Ask) (k : ℕ) → n ≡ k → terms.eval (look a.facts) a.request ≡ Outcome.Need ask → from_asking terms m w a (Outcome.Need ask) ≡ (p.lines, p.after) → steps_of w (p ∷ ps) ≡ p.lines ∷ steps_of w ps → (tid : ℕ) × GoTogether (left_from terms h w k tid a) (steps_of w (p ∷ ps))
    by_asks ask zero e needs step steps =
        let f : Fact = fact (upto h a.snapshot) ask in
        let more : IsTrail (λ known. terms.eval (look known) a.request) (a.facts ++ f ∷ []) = trail_push (λ known. terms.eval (look known) a.request) a.facts f trail (needs ∙ ap Outcome.Need (sym (fact_asked (upto h a.snapshot) ask))) in
        let most : length (a.facts ++ f ∷ []) ≤ most_asks = few (a.facts ++ f ∷ []) a.request more in
        absurd (omega (arith, most, count, e, length-append a.facts (f ∷ [])))
    by_asks ask (suc k) e needs step steps =
        let f : Fact = fact (upto h a.snapshot) ask in
        let found : f ≡ fact (upto m.standing a.snapshot) ask = ap (λ g. fact g ask) root.0 in
        let to : Moment R = turned m w (Asking (learned a f)) in
        let is : (Line.Fetch w ask ∷ [], to) ≡ (p.lines, p.after) = ap (λ (g : Fact). (let t : Told R = (Line.Fetch w ask ∷ [], turned m w (Asking (learned a g))) in t)) found ∙ step in
        let behind : to ≡ p.after = after_is (Line.Fetch w ask ∷ [], to) (p.lines, p.after) is in
        let more : IsTrail (λ known. terms.eval (look known) a.request) (a.facts ++ f ∷ []) = trail_push (λ known. terms.eval (look known) a.request) a.facts f trail (needs ∙ ap Outcome.Need (sym (fact_asked (upto h a.snapshot) ask))) in
        let rest = again (learned a f) k next.rest (ap (λ (j : Moment R). doing j w) (sym behind) ∙ set_here (Asking (learned a f)) (Asking a) m.workers w does) more (omega (arith, count, e, length-append a.facts (f ∷ []))) in
        (rest.0, goes_on (Line.Fetch w ask ∷ []) (left_from terms h w k rest.0 (learned a f)) (steps_of w (p ∷ ps)) (left_from terms h w (suc k) rest.0 a) (steps_of w ps) p.lines (lines_are (Line.Fetch w ask ∷ [], to) (p.lines, p.after) is) steps (left_asks terms h w k rest.0 a ask needs) rest.1)

    by_outcome : (o : Outcome) → terms.eval (look a.facts) a.request ≡ o → told terms m w ≡ (p.lines, p.after) → steps_of w (p ∷ ps) ≡ p.lines ∷ steps_of w ps → (tid : ℕ) × GoTogether (left_from terms h w n tid a) (steps_of w (p ∷ ps))
    by_outcome (Outcome.Need ask) e table steps = by_asks ask n refl e (sym (ap (from_doing terms m w) does ∙ ap (from_asking terms m w a) e) ∙ table) steps
    by_outcome (Outcome.Answer x) e table steps =
        let step : List Line = Line.ReplyRead w a.snapshot (terms.answer x (Mark.Read a.snapshot)) ∷ (shown_lines w x ++ denied_line w x.denied) in
        let is : (step, turned m w Free) ≡ (p.lines, p.after) = sym (ap (from_doing terms m w) does ∙ ap (from_asking terms m w a) e) ∙ table in
        (0, goes_on step [] (steps_of w (p ∷ ps)) (left_from terms h w n 0 a) (steps_of w ps) p.lines (lines_are (step, turned m w Free) (p.lines, p.after) is) steps (left_decided terms h w n 0 a (Outcome.Answer x) lawful root.1 e tt) (none_left (steps_of w ps)))
    by_outcome (Outcome.Change x d) e table steps =
        let to : Moment R = turned m w (Computed a x d) in
        let is : (Line.Computed w ∷ [], to) ≡ (p.lines, p.after) = sym (ap (from_doing terms m w) does ∙ ap (from_asking terms m w a) e) ∙ table in
        let behind : to ≡ p.after = after_is (Line.Computed w ∷ [], to) (p.lines, p.after) is in
        let free : NotHolder m w = not_holder terms m w (Some (Asking a)) on.good does (λ k. k) in
        let rest = ready terms h w a x d lawful ps p.after next.rest (ap (λ (j : Moment R). doing j w) (sym behind) ∙ set_here (Computed a x d) (Asking a) m.workers w does) (subst (λ (j : Moment R). NotHolder j w) behind free) in
        (rest.0, goes_on (Line.Computed w ∷ []) ((Line.Vote w rest.0 ∷ []) ∷ commit_step terms w rest.0 x ∷ []) (steps_of w (p ∷ ps)) (left_from terms h w n rest.0 a) (steps_of w ps) p.lines (lines_are (Line.Computed w ∷ [], to) (p.lines, p.after) is) steps (left_decided terms h w n rest.0 a (Outcome.Change x d) lawful root.1 e tt) rest.1)

asking : {R : Type 0} (terms : Terms R) (h : History) (w : ℕ) → IsLawful terms.eval → AsksFew terms.eval → IsHistory h → (ps : List (Place R)) (m : Moment R) → GoesOn terms h w m ps
asking terms h w lawful few good [] m = λ a n on does trail count. (0, none_yet (left_from terms h w n 0 a))
asking terms h w lawful few good (p ∷ ps) m = asking_on terms h w lawful few good p ps m (asking terms h w lawful few good ps p.after)

-- ---- a request, from where it was given on

whole_is : {R : Type 0} (terms : Terms R) (h : History) (w at tid : ℕ) (q : R) → whole_steps terms h w at tid q ≡ (Line.Begin w at ∷ []) ∷ left_from terms h w most_asks tid (record { request = q; clashes = []; snapshot = at; facts = [] })
unfolding asks_at
whole_is terms h w at tid q = refl

-- a request that waits there comes to its reply so
abbrev ComesThrough : {R : Type 0} → Terms R → History → ℕ → R → Moment R → List (Place R) → Type 0
ComesThrough terms h w q m ps = Onward terms h w m ps → doing m w ≡ Some (Waiting q []) → (at tid : ℕ) × GoTogether (whole_steps terms h w at tid q) (steps_of w ps)

waiting_on : {R : Type 0} (terms : Terms R) (h : History) (w : ℕ) (q : R) → IsLawful terms.eval → AsksFew terms.eval → IsHistory h → (p : Place R) (ps : List (Place R)) (m : Moment R) → ComesThrough terms h w q p.after ps → ComesThrough terms h w q m (p ∷ ps)
waiting_on {R} terms h w q lawful few good p ps m again on does = elim next.either [ inl own ↦ begins own.0 own.1 | inr other ↦ apart_from other.0 other.1 ]
  where
    next : Next terms h w m p ps
    next = next_place terms h w m p ps lawful on (ap has_request does)

    apart_from : Spares w m p.after → steps_of w (p ∷ ps) ≡ steps_of w ps → (at tid : ℕ) × GoTogether (whole_steps terms h w at tid q) (steps_of w (p ∷ ps))
    apart_from spares same = (let rest = again next.rest (spares.doing_is ∙ does) in (rest.0, rest.1, subst (GoTogether (whole_steps terms h w rest.0 rest.1 q)) (sym same) rest.2))

    begins : told terms m w ≡ (p.lines, p.after) → steps_of w (p ∷ ps) ≡ p.lines ∷ steps_of w ps → (at tid : ℕ) × GoTogether (whole_steps terms h w at tid q) (steps_of w (p ∷ ps))
    begins table steps =
        let at : ℕ = last m.standing in
        let a : Attempt R = record { request = q; clashes = []; snapshot = at; facts = [] } in
        let to : Moment R = turned m w (Asking a) in
        let is : (Line.Begin w at ∷ [], to) ≡ (p.lines, p.after) = sym (ap (from_doing terms m w) does) ∙ table in
        let behind : to ≡ p.after = after_is (Line.Begin w at ∷ [], to) (p.lines, p.after) is in
        let rest = asking terms h w lawful few good ps p.after a most_asks next.rest (ap (λ (j : Moment R). doing j w) (sym behind) ∙ set_here (Asking a) (Waiting q []) m.workers w does) tt refl in
        (at, rest.0, goes_on (Line.Begin w at ∷ []) (left_from terms h w most_asks rest.0 a) (steps_of w (p ∷ ps)) (whole_steps terms h w at rest.0 q) (steps_of w ps) p.lines (lines_are (Line.Begin w at ∷ [], to) (p.lines, p.after) is) steps (whole_is terms h w at rest.0 q) rest.1)

waiting : {R : Type 0} (terms : Terms R) (h : History) (w : ℕ) (q : R) → IsLawful terms.eval → AsksFew terms.eval → IsHistory h → (ps : List (Place R)) (m : Moment R) → ComesThrough terms h w q m ps
waiting terms h w q lawful few good [] m = λ on does. (0, 0, none_yet (whole_steps terms h w 0 0 q))
waiting terms h w q lawful few good (p ∷ ps) m = waiting_on terms h w q lawful few good p ps m (waiting terms h w q lawful few good ps p.after)

course_split : {R : Type 0} (terms : Terms R) (first : Moment R) (xs ys : List (Place R)) (end : Moment R) → Course terms first (xs ++ ys) end → (mid : Moment R) × Course terms first xs mid × Course terms mid ys end
course_split terms first [] ys end c = (first, refl, c)
course_split terms first (x ∷ xs) ys end c = (let rest = course_split terms x.after xs ys end c.2 in (rest.0, (c.0, c.1, rest.1), rest.2))

-- what ends the section after some places ends that which goes on behind them, where none of them ends it
ends_behind : {R : Type 0} (xs ys : List (Place R)) (mid end : Moment R) → IsPrefixOf mid.standing (history_after ys end) → IsPrefixOf (history_after xs mid) (history_after (xs ++ ys) end)
ends_behind [] ys mid end grows = grows
ends_behind {R} (x ∷ xs) ys mid end grows = go (ends_section x.item x.lines) (ends_behind xs ys mid end grows)
  where
    go : (b : Bool) → IsPrefixOf (history_after xs mid) (history_after (xs ++ ys) end) → IsPrefixOf (cond b x.before.standing (history_after xs mid)) (cond b x.before.standing (history_after (xs ++ ys) end))
    go true rest = prefix_refl x.before.standing
    go false rest = rest

-- The steps of a request that meets nothing are those of its evaluation at its snapshot, as far as both go.
pub keeps_pace : {R : Type 0} (terms : Terms R) (h0 : History) (trace : List (Place R)) (end : Moment R) → IsLawful terms.eval → AsksFew terms.eval → IsHistory h0 → Course terms (start terms h0) trace end
    → (w : ℕ) (q : R) (during : List (Place R)) (u : GoesUnhindered terms trace w q during) → (at tid : ℕ) × GoTogether (whole_steps terms (history_after (during ++ u.after) end) w at tid q) (steps_of w during)
keeps_pace {R} terms h0 trace end lawful few is course w q during u =
    let whole : Course terms (start terms h0) (u.before ++ u.place ∷ (during ++ u.after)) end = subst (λ (ps : List (Place R)). Course terms (start terms h0) ps end) u.all course in
    let front = course_split terms (start terms h0) u.before (u.place ∷ (during ++ u.after)) end whole in
    let back = course_split terms u.place.after during u.after end front.2.2 in
    let before = course_is_right terms (start terms h0) u.before front.0 lawful (good_start terms h0 is) front.1 in
    let good : Good terms u.place.before = subst (Good terms) front.2.0 before.good in
    let given : Happens terms u.place.before (Item2.Request w u.bytes) u.place.lines u.place.after = subst (λ (i : Item2). Happens terms u.place.before i u.place.lines u.place.after) u.given front.2.1 in
    let after_good : Good terms u.place.after = (happens_rightly terms u.place.before (Item2.Request w u.bytes) u.place.lines u.place.after lawful good given).good in
    let same : given.0 ≡ q = (let both : Some given.0 ≡ Some q = sym given.1 ∙ u.takes in cc) in
    let does : doing u.place.after w ≡ Some (Waiting q []) = ap (λ (m : Moment R). doing m w) given.4 ∙ set_here (Waiting given.0 []) Free u.place.before.workers w given.2 ∙ ap (λ k. Some (Waiting k [])) same in
    let middle = course_is_right terms u.place.after during back.0 lawful after_good back.1 in
    let rest = course_is_right terms back.0 u.after end lawful middle.good back.2 in
    let section = course_is_right terms u.place.after (during ++ u.after) end lawful after_good front.2.2 in
    waiting terms (history_after (during ++ u.after) end) w q lawful few section.whole during u.place.after (record { good = after_good; end = back.0; course = back.1; grows = ends_behind during u.after back.0 end rest.grows; quiet = u.quiet }) does

-- ---- how many steps these are

true_more : (facts : List Fact) (f : Fact) (h : History) → TrueOf facts h → f ≡ fact h (ask_of f) → TrueOf (facts ++ f ∷ []) h
true_more [] f h all is = (is, tt)
true_more (g ∷ facts) f h all is = (all.0, true_more facts f h all.1 is)

-- an evaluation over a history ends: it asks for so many facts at most
decided_from : {R : Type 0} (eval : Eval R) (h : History) (q : R) → IsLawful eval → AsksFew eval → (n : ℕ) (known : List Fact) → IsTrail (λ facts. eval (look facts) q) known → TrueOf known h → length known + n ≡ most_asks → (o : Outcome) → eval (look known) q ≡ o → IsDecided (exec eval h q)
decided_from eval h q lawful few n known trail truly count (Outcome.Answer x) e = (let here : IsDecided (eval (look known) q) = subst IsDecided (sym e) tt in subst IsDecided (sym (lawful.whole known h q truly here)) here)
decided_from eval h q lawful few n known trail truly count (Outcome.Change x d) e = (let here : IsDecided (eval (look known) q) = subst IsDecided (sym e) tt in subst IsDecided (sym (lawful.whole known h q truly here)) here)
decided_from eval h q lawful few zero known trail truly count (Outcome.Need ask) e =
    let more : IsTrail (λ facts. eval (look facts) q) (known ++ fact h ask ∷ []) = trail_push (λ facts. eval (look facts) q) known (fact h ask) trail (e ∙ ap Outcome.Need (sym (fact_asked h ask))) in
    let most : length (known ++ fact h ask ∷ []) ≤ most_asks = few (known ++ fact h ask ∷ []) q more in
    absurd (omega (arith, most, count, length-append known (fact h ask ∷ [])))
decided_from eval h q lawful few (suc n) known trail truly count (Outcome.Need ask) e =
    let more : IsTrail (λ facts. eval (look facts) q) (known ++ fact h ask ∷ []) = trail_push (λ facts. eval (look facts) q) known (fact h ask) trail (e ∙ ap Outcome.Need (sym (fact_asked h ask))) in
    decided_from eval h q lawful few n (known ++ fact h ask ∷ []) more (true_more known (fact h ask) h truly (ap (fact h) (sym (fact_asked h ask)))) (omega (arith, count, length-append known (fact h ask ∷ []))) (eval (look (known ++ fact h ask ∷ [])) q) refl

pub is_decided : {R : Type 0} (eval : Eval R) (h : History) (q : R) → IsLawful eval → AsksFew eval → IsDecided (exec eval h q)
is_decided eval h q lawful few = decided_from eval h q lawful few most_asks [] tt tt refl (eval (look []) q) refl

as_many : {A B : Type 0} (f : A → B) (xs : List A) → length (map f xs) ≡ length xs
as_many f [] = refl
as_many f (x ∷ xs) = ap suc (as_many f xs)

-- a step that begins, one for each ask, and the last ones
steps_count : {R : Type 0} (terms : Terms R) (h : History) (w at tid : ℕ) (q : R) (o : Outcome) → exec terms.eval (upto h at) q ≡ o → length (whole_steps terms h w at tid q) ≡ length (asks_at terms.eval (upto h at) q) + (1 + length (last_steps terms w at tid o))
steps_count terms h w at tid q o e =
    let asks : List Ask = asks_at terms.eval (upto h at) q in
    let ends : List (List Line) = last_steps terms w at tid (exec terms.eval (upto h at) q) in
    let last_ones : length ends ≡ length (last_steps terms w at tid o) = ap (λ k. length (last_steps terms w at tid k)) e in
    omega (arith, length-append (fetch_steps w asks) ends, as_many (λ ask. Line.Fetch w ask ∷ []) asks, last_ones)

pub read_count : {R : Type 0} (terms : Terms R) (h : History) (w at tid : ℕ) (q : R) (x : Reply) → exec terms.eval (upto h at) q ≡ Outcome.Answer x → length (whole_steps terms h w at tid q) ≡ length (asks_at terms.eval (upto h at) q) + 2
read_count terms h w at tid q x e = steps_count terms h w at tid q (Outcome.Answer x) e

pub write_count : {R : Type 0} (terms : Terms R) (h : History) (w at tid : ℕ) (q : R) (x : Reply) (d : Draft) → exec terms.eval (upto h at) q ≡ Outcome.Change x d → length (whole_steps terms h w at tid q) ≡ length (asks_at terms.eval (upto h at) q) + 4
write_count terms h w at tid q x d e = steps_count terms h w at tid q (Outcome.Change x d) e
