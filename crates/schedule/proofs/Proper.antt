-- Each arm of the table, and each trouble, leaves a good moment, and what it printed is right.
use Rattle.std.proofs.Common.{◌≡◌, ℕ, zero, suc, ◌+◌, ◌<◌, ◌==◌, ◌&&◌, ◌||◌, min, slice_get, Bool, true, false, cond, List, [], ◌∷◌, ◌++◌, Option, Some, None, refl, sym, ap, ◌∙◌, subst, arith, inl, inr, length, nat_lt, eqb-true}
use Rattle.std.proofs.lemmas.Bool.Decides.{nat_tests}
use Rattle.evaluator.specs.declared.ask.Ask.{Ask}
use Rattle.evaluator.specs.declared.fact.Fact.{Fact}
use Rattle.evaluator.specs.declared.outcome.Outcome.{Outcome}
use Rattle.evaluator.specs.declared.reply.Reply.{Reply}
use Rattle.evaluator.specs.declared.draft.Draft.{Draft}
use Rattle.zbase.specs.Limits.{greatest_number}
use Rattle.zbase.specs.History.{History, IsHistory, added, IsPrefixOf}
use Rattle.zbase.specs.Values.{last, next, upto, before}
use Rattle.evaluator.specs.Facts.{fact, ask_of, look, TrueOf}
use Rattle.evaluator.specs.Exec.{exec, IsDecided, IsLawful}
use Rattle.evaluator.specs.Settle.{settle}
use Rattle.evaluator.specs.Change.{made}
use Rattle.zbase.specs.declared.ids.Clash.{Clash}
use Rattle.schedule.specs.declared.item.Item2.{Item2}
use Rattle.schedule.specs.declared.line.Line.{Line}
use Rattle.schedule.specs.Moments.{Terms, Attempt, Doing, Free, Waiting, Asking, Computed, Vote, Moment, doing, turned, stood, clocked, lost_lines}
use Rattle.schedule.specs.Causes.{fault_reply, memory_reply, unknown_reply}
use Rattle.schedule.specs.Stepping.{Told, ended, first_clash, vote_tid, need, votes, conflicts, validated, commits, from_computed, from_asking, from_doing, Trouble, Wants_memory, Disk_fails, Is_unknown, Is_stopped, has_request, held_by, settled, restarted, fails, troubled, Steps}
use Rattle.schedule.specs.Courses.{Happens, request_of, worker_of}
use Rattle.schedule.specs.Histories.{history_lines}
use Rattle.schedule.specs.Packing.{PackTrouble, Lacks_memory, Pack_fails, Is_cut_off, PacksAt, any_request, pack_fails, packed_to}
use Rattle.packing.specs.Packed.{packed}
use Rattle.packing.specs.PackedLaws.{packed_rises}
use Rattle.packing.specs.Sizes.{full_size}
use Rattle.schedule.specs.Right.{IsCommitted, RightReply, RightGrowth, ends_section}
use Rattle.zbase.specs.HistoryLaws.{prefix_refl, prefix_added, upto_stays, upto_is_prefix, before_next, transaction_next}
use Rattle.schedule.proofs.Serial.{change_stands}
use Rattle.schedule.proofs.Good.{Rooted, Sound, SoundVote, Good, NotHolder, no_vote, the_vote, not_holder, good_turned, good_dropped, good_stood, good_emptied, good_clocked}

-- what a step leaves, and what it printed, are right by every history that goes on from there
pub record Proper {R : Type 0} (terms : Terms R) (old : Moment R) (q : Option R) (r : Told R) : Type 0 where
  pub good : Good terms r.1
  pub grows : IsPrefixOf old.standing r.1.standing
  pub right : (h : History) → IsHistory h → IsPrefixOf r.1.standing h → RightReply terms h q r.0 × RightGrowth terms h q old.standing r.1.standing

-- Where the voted transaction stands next, it is the one of its holder's request, by every longer history.
vote_commits : {R : Type 0} (terms : Terms R) (m : Moment R) (v : Vote) → Good terms m → m.vote ≡ Some v → (h : History) → IsHistory h → IsPrefixOf (added m.standing v.transaction) h
    → (q : R) × (request_of (doing m v.holder) ≡ Some q) × IsCommitted terms h q v.transaction.tid v.reply
vote_commits terms m v good e h is whole =
    let right = the_vote terms m v good e in
    let past : before h v.transaction.tid ≡ m.standing = before_next v.transaction whole is in (
      right.attempt.request,
      ap request_of right.holder,
      record {
        draft = right.draft;
        change = ap (λ p. exec terms.eval p right.attempt.request) past ∙ right.change;
        stands = transaction_next m.standing v.transaction whole is ∙ ap Some (right.settles ∙ ap (λ p. settle p right.draft v.transaction.tid) (sym past));
      },
    )

-- a step that leaves the history alone, and prints no reply to be judged
proper_turned : {R : Type 0} (terms : Terms R) (m : Moment R) (q : Option R) (w : ℕ) (d : Doing R) (lines : List Line) → Good terms m → Sound terms m.standing (Some d) → NotHolder m w → ((h : History) → RightReply terms h q lines) → Proper terms m q (lines, turned m w d)
proper_turned terms m q w d lines good sound not right = record { good = good_turned terms m w d good sound not; grows = prefix_refl m.standing; right = λ h is whole. (right h, inl refl) }

proper_same : {R : Type 0} (terms : Terms R) (m : Moment R) (q : Option R) (lines : List Line) → Good terms m → ((h : History) → RightReply terms h q lines) → Proper terms m q (lines, m)
proper_same terms m q lines good right = record { good = good; grows = prefix_refl m.standing; right = λ h is whole. (right h, inl refl) }

proper_cond : {R : Type 0} (terms : Terms R) (m : Moment R) (q : Option R) (b : Bool) (r s : Told R) → Proper terms m q r → Proper terms m q s → Proper terms m q (cond b r s)
proper_cond terms m q true r s p p' = p
proper_cond terms m q false r s p p' = p'

pub vote_above : {R : Type 0} (m : Moment R) → last m.standing < vote_tid m
vote_above m = grind (arith, nat_tests)

proper_votes : {R : Type 0} (terms : Terms R) (m : Moment R) (w : ℕ) (a : Attempt R) (x : Reply) (d : Draft) → IsLawful terms.eval → Good terms m → doing m w ≡ Some (Computed a x d) → m.vote ≡ None → first_clash m.standing a.facts ≡ None → Proper terms m (Some a.request) (votes terms m w x d)
proper_votes terms m w a x d lawful good here none clear =
    let sound : Sound terms m.standing (Some (Computed a x d)) = subst (Sound terms m.standing) here (good.workers w) in
    let q = Some a.request in
    let done = λ (lines : List Line) (right : (h : History) → RightReply terms h q lines). proper_turned terms m q w Free lines good tt (no_vote m w none) right in
    proper_cond terms m q (last m.standing == greatest_number) _ _ (done _ (λ h. tt))
    (proper_cond terms m q (nat_lt 0 (made d) && nat_lt greatest_number (next m.standing + made d)) _ _ (done _ (λ h. tt))
    (proper_cond terms m q (nat_lt terms.limit (need m d)) _ _ (done _ (λ h. tt))
    (record {
      good = record {
        history = good.history;
        workers = good.workers;
        vote = record {
          attempt = a;
          draft = d;
          holder = here;
          change = change_stands terms.eval (upto m.standing a.snapshot) m.standing a.facts a.request x d lawful (upto_is_prefix a.snapshot m.standing good.history) good.history sound.0.facts sound.1 clear;
          settles = refl;
          above = vote_above m;
        };
      };
      grows = prefix_refl m.standing;
      right = λ h is whole. (tt, inl refl);
    })))

proper_conflicts : {R : Type 0} (terms : Terms R) (m : Moment R) (w : ℕ) (a : Attempt R) (c : Clash) → Good terms m → m.vote ≡ None → Proper terms m (Some a.request) (conflicts terms m w a c)
proper_conflicts terms m w a c good none =
    proper_cond terms m (Some a.request) (nat_lt (length a.clashes) 3) _ _
    (proper_turned terms m (Some a.request) w (Waiting a.request (a.clashes ++ c ∷ [])) _ good tt (no_vote m w none) (λ h. tt))
    (proper_turned terms m (Some a.request) w Free _ good tt (no_vote m w none) (λ h. tt))

proper_commits : {R : Type 0} (terms : Terms R) (m : Moment R) (w : ℕ) (v : Vote) → Good terms m → m.vote ≡ Some v → v.holder ≡ w → Proper terms m (request_of (doing m w)) (commits terms m w v)
proper_commits terms m w v good e same = record {
  good = good_turned terms (stood m v) w Free (good_stood terms m v good e) tt (no_vote (stood m v) w refl);
  grows = prefix_added m.standing v.transaction;
  right = λ h is whole.
      let made = vote_commits terms m v good e h is whole in
      let asked = subst (λ k. request_of (doing m k) ≡ Some made.0) same made.1 in
      ((made.0, asked, v.reply, made.2, refl, refl), inr (made.0, asked, v.reply, v.transaction, made.2, refl));
}

proper_computed : {R : Type 0} (terms : Terms R) (m : Moment R) (w : ℕ) (a : Attempt R) (x : Reply) (d : Draft) → IsLawful terms.eval → Good terms m → doing m w ≡ Some (Computed a x d) → (o : Option Vote) → m.vote ≡ o → Proper terms m (Some a.request) (from_computed terms m w a x d o)
proper_computed terms m w a x d lawful good here (Some v) e = go (v.holder == w) refl
  where
    go : (b : Bool) → (v.holder == w) ≡ b → Proper terms m (Some a.request) (cond b (commits terms m w v) (Line.Busy w v.holder ∷ [], m))
    go true same = subst (λ q. Proper terms m q (commits terms m w v)) (ap request_of here) (proper_commits terms m w v good e (eqb-true v.holder w same))
    go false other = proper_same terms m (Some a.request) _ good (λ h. tt)
proper_computed terms m w a x d lawful good here None e = go (first_clash m.standing a.facts) refl
  where
    go : (o : Option Clash) → first_clash m.standing a.facts ≡ o → Proper terms m (Some a.request) (validated terms m w a x d o)
    go (Some c) found = proper_conflicts terms m w a c good e
    go None clear = proper_votes terms m w a x d lawful good here e clear

true_append : (xs : List Fact) (f : Fact) (h : History) → TrueOf xs h → f ≡ fact h (ask_of f) → TrueOf (xs ++ f ∷ []) h
true_append [] f h all here = (here, tt)
true_append (x ∷ xs) f h all here = (all.0, true_append xs f h all.1 here)

fact_true : (h : History) (ask : Ask) → fact h ask ≡ fact h (ask_of (fact h ask))
fact_true h (Ask.Object o) = refl
fact_true h (Ask.Transaction t) = refl
fact_true h Ask.Log = refl

proper_asking : {R : Type 0} (terms : Terms R) (m : Moment R) (w : ℕ) (a : Attempt R) → IsLawful terms.eval → Good terms m → doing m w ≡ Some (Asking a) → (o : Outcome) → terms.eval (look a.facts) a.request ≡ o → Proper terms m (Some a.request) (from_asking terms m w a o)
proper_asking terms m w a lawful good here (Outcome.Need ask) e =
    let root : Rooted m.standing a = subst (Sound terms m.standing) here (good.workers w) in
    proper_turned terms m (Some a.request) w _ _ good
    (record { below = root.below; facts = true_append a.facts (fact (upto m.standing a.snapshot) ask) (upto m.standing a.snapshot) root.facts (fact_true (upto m.standing a.snapshot) ask) })
    (not_holder terms m w (Some (Asking a)) good here (λ h. h)) (λ h. tt)
proper_asking terms m w a lawful good here (Outcome.Change x d) e =
    let root : Rooted m.standing a = subst (Sound terms m.standing) here (good.workers w) in
    proper_turned terms m (Some a.request) w _ _ good (root, e) (not_holder terms m w (Some (Asking a)) good here (λ h. h)) (λ h. tt)
proper_asking terms m w a lawful good here (Outcome.Answer x) e =
    let root : Rooted m.standing a = subst (Sound terms m.standing) here (good.workers w) in
    let decided : IsDecided (terms.eval (look a.facts) a.request) = subst IsDecided (sym e) tt in
    let answers : exec terms.eval (upto m.standing a.snapshot) a.request ≡ Outcome.Answer x = lawful.whole a.facts (upto m.standing a.snapshot) a.request root.facts decided ∙ e in
    record {
      good = good_turned terms m w Free good tt (not_holder terms m w (Some (Asking a)) good here (λ h. h));
      grows = prefix_refl m.standing;
      right = λ h is whole.
          ((a.request, refl, x, ap (λ p. exec terms.eval p a.request) (upto_stays a.snapshot whole is root.below) ∙ answers, refl, refl), inl refl);
    }

proper_told : {R : Type 0} (terms : Terms R) (m : Moment R) (w : ℕ) → IsLawful terms.eval → Good terms m → (o : Option (Doing R)) → doing m w ≡ o → Proper terms m (request_of o) (from_doing terms m w o)
proper_told terms m w lawful good None here = proper_same terms m None _ good (λ h. tt)
proper_told terms m w lawful good (Some Free) here = proper_same terms m None _ good (λ h. tt)
proper_told terms m w lawful good (Some (Waiting q cs)) here =
    proper_turned terms m (Some q) w _ _ good (record { below = omega arith; facts = tt }) (not_holder terms m w (Some (Waiting q cs)) good here (λ h. h)) (λ h. tt)
proper_told terms m w lawful good (Some (Asking a)) here = proper_asking terms m w a lawful good here (terms.eval (look a.facts) a.request) refl
proper_told terms m w lawful good (Some (Computed a x d)) here = proper_computed terms m w a x d lawful good here m.vote refl

pub held : (w : ℕ) (o : Option Vote) (v : Vote) → held_by w o ≡ Some v → (o ≡ Some v) × (v.holder ≡ w)
held w None v e = cc
held w (Some u) v e = go (u.holder == w) refl e
  where
    go : (b : Bool) → (u.holder == w) ≡ b → cond b (Some u) None ≡ Some v → (Some u ≡ Some v) × (v.holder ≡ w)
    go true same e' = (let one : u ≡ v = cc in (e', subst (λ (k : Vote). k.holder ≡ w) one (eqb-true u.holder w same)))
    go false other e' = cc

not_held : {R : Type 0} (m : Moment R) (w : ℕ) → held_by w m.vote ≡ None → NotHolder m w
not_held m w e v e' same =
    let here : cond (v.holder == w) (Some v) None ≡ None = subst (λ o. held_by w o ≡ None) e' e in
    grind (arith, nat_tests, here, same)

-- whichever way the vote was settled: what it leaves is good, and the history grew rightly
record Settles {R : Type 0} (terms : Terms R) (old : Moment R) (q : Option R) (new : Moment R) : Type 0 where
  good : Good terms new
  vote : new.vote ≡ None
  grows : IsPrefixOf old.standing new.standing
  right : (h : History) → IsHistory h → IsPrefixOf new.standing h → RightGrowth terms h q old.standing new.standing

settles : {R : Type 0} (terms : Terms R) (m : Moment R) (w : ℕ) → Good terms m → (o : Option Vote) → held_by w m.vote ≡ o → (stands : Bool) → Settles terms m (request_of (doing m w)) (settled m o stands)
settles terms m w good None e stands = record { good = good_dropped terms m good; vote = refl; grows = prefix_refl m.standing; right = λ h is whole. inl refl }
settles terms m w good (Some v) e false = record { good = good_dropped terms m good; vote = refl; grows = prefix_refl m.standing; right = λ h is whole. inl refl }
settles terms m w good (Some v) e true =
    let own = held w m.vote v e in
    record {
      good = good_stood terms m v good own.0;
      vote = refl;
      grows = prefix_added m.standing v.transaction;
      right = λ h is whole.
          let made = vote_commits terms m v good own.0 h is whole in
          inr (made.0, subst (λ k. request_of (doing m k) ≡ Some made.0) own.1 made.1, v.reply, v.transaction, made.2, refl);
    }

proper_fails : {R : Type 0} (terms : Terms R) (m : Moment R) (w : ℕ) → Good terms m → (o : Option Vote) → held_by w m.vote ≡ o → (trouble : Trouble) (r : Told R) → fails terms m w o trouble ≡ Some r → Proper terms m (request_of (doing m w)) r
proper_fails terms m w good None e Wants_memory r it =
    let P = Proper terms m (request_of (doing m w)) in
    let same : ended terms m w (Line.Memory w ∷ []) memory_reply ≡ r = cc in
    subst P same (proper_turned terms m (request_of (doing m w)) w Free _ good tt (not_held m w e) (λ h. tt))
proper_fails terms m w good None e Disk_fails r it =
    let P = Proper terms m (request_of (doing m w)) in
    let same : ended terms m w (Line.DiskFault w ∷ []) fault_reply ≡ r = cc in
    subst P same (proper_turned terms m (request_of (doing m w)) w Free _ good tt (not_held m w e) (λ h. tt))
proper_fails terms m w good (Some v) e (Is_unknown stands) r it =
    let P = Proper terms m (request_of (doing m w)) in
    let s = settles terms m w good (Some v) e stands in
    let same : ended terms (settled m (Some v) stands) w (Line.Unknown w v.transaction.tid ∷ []) (unknown_reply v.transaction.tid) ≡ r = cc in
    subst P same (record {
      good = good_turned terms (settled m (Some v) stands) w Free s.good tt (no_vote (settled m (Some v) stands) w s.vote);
      grows = s.grows;
      right = λ h is whole. (tt, s.right h is whole);
    })
proper_fails terms m w good None e (Is_stopped stands openings) r it =
    let P = Proper terms m (request_of (doing m w)) in
    let s = settles terms m w good None e stands in
    let same : restarted (lost_lines m) openings (settled m None stands) ≡ r = cc in
    subst P same (record { good = good_emptied terms (settled m None stands) s.good; grows = s.grows; right = λ h is whole. (tt, s.right h is whole) })
proper_fails terms m w good (Some v) e (Is_stopped stands openings) r it =
    let P = Proper terms m (request_of (doing m w)) in
    let s = settles terms m w good (Some v) e stands in
    let same : restarted (lost_lines m) openings (settled m (Some v) stands) ≡ r = cc in
    subst P same (record { good = good_emptied terms (settled m (Some v) stands) s.good; grows = s.grows; right = λ h is whole. (tt, s.right h is whole) })
proper_fails terms m w good (Some v) e Wants_memory r it = cc
proper_fails terms m w good (Some v) e Disk_fails r it = cc
proper_fails terms m w good None e (Is_unknown stands) r it = cc

proper_troubled : {R : Type 0} (terms : Terms R) (m : Moment R) (w : ℕ) → Good terms m → (trouble : Trouble) (r : Told R) → troubled terms m w trouble ≡ Some r → Proper terms m (request_of (doing m w)) r
proper_troubled terms m w good trouble r it = go (has_request (doing m w)) it
  where
    go : (b : Bool) → cond b (fails terms m w (held_by w m.vote) trouble) None ≡ Some r → Proper terms m (request_of (doing m w)) r
    go true e = proper_fails terms m w good (held_by w m.vote) refl trouble r e
    go false e = cc

proper_steps : {R : Type 0} (terms : Terms R) (m : Moment R) (w : ℕ) (lines : List Line) (new : Moment R) → IsLawful terms.eval → Good terms m → Steps terms m w lines new → Proper terms m (request_of (doing m w)) (lines, new)
proper_steps terms m w lines new lawful good (inl e) = subst (Proper terms m (request_of (doing m w))) e (proper_told terms m w lawful good (doing m w) refl)
proper_steps terms m w lines new lawful good (inr e) = proper_troubled terms m w good e.0 (lines, new) e.1

proper_quiet : {R : Type 0} (terms : Terms R) (m n new : Moment R) (q : Option R) (lines : List Line) → Good terms n → n.standing ≡ m.standing → lines ≡ [] → new ≡ n → Proper terms m q (lines, new)
proper_quiet terms m n new q lines good same none is =
    let P : List Line → Moment _ → Type 0 = (λ ls k. Proper terms m q (ls, k)) in
    subst (λ ls. P ls new) (sym none) (subst (λ k. P [] k) (sym is)
    (record { good = good; grows = subst (λ s. IsPrefixOf m.standing s) (sym same) (prefix_refl m.standing); right = λ h is' whole. (tt, inl same) }))

-- What an item leaves is good, and what it printed is right by every history that goes on from there. But for a pack that is done,
-- the history grew rightly.
pub record Leads {R : Type 0} (terms : Terms R) (old : Moment R) (item : Item2) (lines : List Line) (new : Moment R) : Type 0 where
  pub good : Good terms new
  pub grows : ends_section item lines ≡ false → IsPrefixOf old.standing new.standing
  pub right : (h : History) → IsHistory h → IsPrefixOf new.standing h
      → RightReply terms h (request_of (doing old (worker_of item))) lines × (ends_section item lines ≡ false → RightGrowth terms h (request_of (doing old (worker_of item))) old.standing new.standing)

leads_so : {R : Type 0} (terms : Terms R) (old : Moment R) (item : Item2) (lines : List Line) (new : Moment R) → Proper terms old (request_of (doing old (worker_of item))) (lines, new) → Leads terms old item lines new
leads_so terms old item lines new proper = record {
  good = proper.good;
  grows = λ more. proper.grows;
  right = λ h is whole. (let both = proper.right h is whole in (both.0, λ more. both.1));
}

-- ---- a pack

-- of a worker without a request nothing is to be kept
sound_idle : {R : Type 0} (terms : Terms R) (h : History) (o : Option (Doing R)) → has_request o ≡ false → Sound terms h o
sound_idle terms h None idle = tt
sound_idle terms h (Some Free) idle = tt
sound_idle terms h (Some (Waiting q cs)) idle = tt
sound_idle terms h (Some (Asking a)) idle = absurd cc
sound_idle terms h (Some (Computed a x d)) idle = absurd cc

front_false : (a b : Bool) → (a || b) ≡ false → (a ≡ false) × (b ≡ false)
front_false false b e = (refl, e)
front_false true b e = absurd cc

-- where no worker has a request
pub none_has : {R : Type 0} (ds : List (Doing R)) (w : ℕ) → any_request ds ≡ false → has_request (slice_get ds w) ≡ false
none_has [] w none = refl
none_has (d ∷ ds) zero none = (front_false (has_request (Some d)) (any_request ds) none).0
none_has (d ∷ ds) (suc w) none = none_has ds w (front_false (has_request (Some d)) (any_request ds) none).1

packed_good : {R : Type 0} (terms : Terms R) (m : Moment R) (g : History) → Good terms m → IsHistory g → any_request m.workers ≡ false → Good terms (packed_to m g)
packed_good {R} terms m g good is none = record { history = is; workers = λ w. sound_idle terms g (doing m w) (none_has m.workers w none); vote = go m.vote refl }
  where
    go : (o : Option Vote) → m.vote ≡ o → SoundVote terms g m.workers o
    go None e = tt
    go (Some v) e =
        let right = the_vote terms m v good e in
        let idle : has_request (slice_get m.workers v.holder) ≡ false = none_has m.workers v.holder none in
        absurd (let bad : true ≡ false = sym (ap has_request right.holder) ∙ idle in cc)

-- a pack that isn't done, and leaves all as it was
leads_same : {R : Type 0} (terms : Terms R) (m : Moment R) (t : ℕ) (line : Line) → Good terms m → ((h : History) (q : Option R) → RightReply terms h q (line ∷ [])) → Leads terms m (Item2.Pack t) (line ∷ []) m
leads_same terms m t line good right = record { good = good; grows = λ more. prefix_refl m.standing; right = λ h is whole. (right h (request_of (doing m 0)), λ more. inl refl) }

leads_packed : {R : Type 0} (terms : Terms R) (m : Moment R) (t : ℕ) (g : History) → Good terms m → IsHistory g → any_request m.workers ≡ false → (b : Bool)
    → (let r : Told R = cond b (Line.PackFull (min (full_size g) greatest_number) terms.limit ∷ [], m) (history_lines m.standing ++ Line.Packed g.floor (length g.transactions) ∷ [], packed_to m g) in Leads terms m (Item2.Pack t) r.0 r.1)
leads_packed terms m t g good is none true = leads_same terms m t (Line.PackFull (min (full_size g) greatest_number) terms.limit) good (λ h q. tt)
leads_packed terms m t g good is none false = record {
  good = packed_good terms m g good is none;
  grows = λ more. absurd (let bad : true ≡ false = more in cc);
  right = λ h is' whole. (tt, λ more. absurd (let bad : true ≡ false = more in cc));
}

leads_troubled : {R : Type 0} (terms : Terms R) (m : Moment R) (t : ℕ) → Good terms m → (trouble : PackTrouble) → Leads terms m (Item2.Pack t) (pack_fails m trouble).0 (pack_fails m trouble).1
leads_troubled terms m t good Lacks_memory = leads_same terms m t Line.PackMemory good (λ h q. tt)
leads_troubled terms m t good Pack_fails = leads_same terms m t Line.PackFault good (λ h q. tt)
leads_troubled terms m t good (Is_cut_off openings) = record { good = good_emptied terms m good; grows = λ more. prefix_refl m.standing; right = λ h is whole. (tt, λ more. inl refl) }

leads_pack : {R : Type 0} (terms : Terms R) (m : Moment R) (t : ℕ) (lines : List Line) (new : Moment R) → Good terms m → PacksAt terms m t lines new → Leads terms m (Item2.Pack t) lines new
leads_pack {R} terms m t lines new good packs = go packs
  where
    P : Told R → Type 0
    P r = Leads terms m (Item2.Pack t) r.0 r.1

    go : PacksAt terms m t lines new → Leads terms m (Item2.Pack t) lines new
    go (inl (busy, e)) = subst P e (leads_same terms m t Line.PackBusy good (λ h q. tt))
    go (inr (none, inl did)) = elim did.told [
      | inl bad ↦ subst P bad.2 (leads_same terms m t (Line.PackUnreadable bad.0) good (λ h q. tt))
      | inr done ↦ subst P done.1 (leads_packed terms m t (packed did.keep m.standing t) good (packed_rises did.keep m.standing t good.history) none (nat_lt terms.limit (full_size (packed did.keep m.standing t))))
    ]
    go (inr (none, inr (trouble, e))) = subst P e (leads_troubled terms m t good trouble)

pub happens_rightly : {R : Type 0} (terms : Terms R) (old : Moment R) (item : Item2) (lines : List Line) (new : Moment R) → IsLawful terms.eval → Good terms old → Happens terms old item lines new → Leads terms old item lines new
happens_rightly terms old (Item2.Request w bytes) lines new lawful good h =
    leads_so terms old (Item2.Request w bytes) lines new (proper_quiet terms old (turned old w (Waiting h.0 [])) new _ lines (good_turned terms old w (Waiting h.0 []) good tt (not_holder terms old w (Some Free) good h.2 (λ c. c))) refl h.3 h.4)
happens_rightly terms old (Item2.Step w) lines new lawful good h = leads_so terms old (Item2.Step w) lines new (proper_steps terms old w lines new lawful good h)
happens_rightly terms old (Item2.Clock t) lines new lawful good h = leads_so terms old (Item2.Clock t) lines new (proper_quiet terms old (clocked old t) new _ lines (good_clocked terms old t good) refl h.0 h.1)
happens_rightly terms old (Item2.Stop n seed) lines new lawful good h = leads_so terms old (Item2.Stop n seed) lines new (proper_quiet terms old old new _ lines good refl h.0 h.1)
happens_rightly terms old (Item2.Fail n seed) lines new lawful good h = leads_so terms old (Item2.Fail n seed) lines new (proper_quiet terms old old new _ lines good refl h.0 h.1)
happens_rightly terms old (Item2.Pack t) lines new lawful good h = leads_pack terms old t lines new good h
happens_rightly terms old Item2.End lines new lawful good h = absurd h
