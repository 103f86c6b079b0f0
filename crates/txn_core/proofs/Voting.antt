-- The arms of a worker whose change is ready: what the store's ruling says is what the table says.
use Rattle.std.proofs.Common.{◌≡◌, ◌≢◌, ℕ, ◌+◌, ◌-◌, ◌*◌, ◌<◌, ◌==◌, ◌&&◌, Bool, true, false, cond, List, [], ◌∷◌, ◌++◌, Option, Some, None, refl, sym, ap, ◌∙◌, subst, inl, inr, map, length, slice_get, slice_set, arith, nat_lt}
use Rattle.std.proofs.lemmas.Bool.Decides.{nat_tests}
use Rattle.std.proofs.lemmas.List.{length-set}
use Rattle.zbase.specs.Limits.{greatest_number}
use Rattle.zbase.specs.Values.{last, next}
use Rattle.zbase.specs.declared.ids.Clash.{Clash}
use Rattle.evaluator.specs.declared.draft.Draft.{Draft}
use Rattle.evaluator.specs.declared.outcome.Outcome.{Outcome}
use Rattle.evaluator.specs.declared.reply.Mark.{Mark}
use Rattle.evaluator.specs.declared.reply.Reply.{Reply}
use Rattle.evaluator.specs.declared.ask.Ask.{Ask}
use Rattle.evaluator.specs.declared.fact.Fact.{Fact}
use Rattle.evaluator.specs.Change.{IsChange, IsReply, made}
use Rattle.evaluator.specs.Exec.{Eval, WasTaken}
use Rattle.evaluator.specs.Facts.{look}
use Rattle.evaluator.specs.Settle.{settle, size}
use Rattle.schedule.specs.declared.line.Line.{Line}
use Rattle.schedule.specs.Moments.{Terms, Attempt, Doing, Free, Waiting, Vote, Moment, doing, turned, holding, clocked}
use Rattle.schedule.specs.Causes.{shown_lines, conflict_reply}
use Rattle.schedule.specs.Stepping.{Told, need, ended, vote_tid, from_doing, from_computed, validated, votes, conflicts, commits, Is_unknown, has_request, held_by, settled, troubled, Steps, first_clash}
use Rattle.fs_store.specs.declared.refusal.Spent.{Spent}
use Rattle.fs_store.specs.declared.refusal.VoteRefusal.{VoteRefusal}
use Rattle.fs_store.specs.Stores.{DiskView, IsDraft, IsTold, StoreView, Out, finished, idle, unsettled}
use Rattle.fs_store.specs.Stores.{settled as settled_store}
use Rattle.fs_store.specs.Verdicts.{tid_at, voted_out, validation, spent}
use Rattle.connection.specs.States.{FreshView, ActiveView, PendingView, clashes_of}
use Rattle.connection.specs.Turns.{comes_to}
use Rattle.connection.specs.Votes.{ruling, ruling_of}
use Rattle.txn_core.specs.declared.slot.Slot.{Slot}
use Rattle.txn_core.specs.declared.step_line.StepLine.{StepLine}
use Rattle.txn_core.specs.Counting.{attempt_steps, further_steps}
use Rattle.txn_core.specs.StepLines.{latest_of, spent_line, spent_reply, step_lines}
use Rattle.txn_core.specs.Slots.{draft_of, computed_of, doing_of, reply_at, vote_of, moment_of, AsksStand, ChangeStands, ComputedStands, PendingStands, Possible, SlotStands, CoreStands, Moves}
use Rattle.txn_core.proofs.Lists.{get_map, map_set, set_same, get_set, get_set_same}
use Rattle.txn_core.proofs.Steadiness.{Carries, IsPending, asks_carried, only, slot_free}
use Rattle.txn_core.proofs.QuietArms.{HoldsNone, differ, holds_none, parts, told_at, quiet_fresh}

pub equal : (a b : ℕ) → a ≡ b → (a == b) ≡ true
equal a b e = grind (arith, nat_tests, e)

-- what the table makes of a refusal of the store, or of none
abbrev pub by_ruling : {R : Type 0} → Terms R → Moment R → ℕ → Attempt R → Reply → Draft → Option VoteRefusal → Told R
by_ruling terms m w a x d None = (Line.Vote w (vote_tid m) ∷ [], holding m (record { holder = w; reply = x; transaction = settle m.standing d (vote_tid m); size = size d }))
by_ruling terms m w a x d (Some (VoteRefusal.Busy v)) = (Line.Busy w v ∷ [], m)
by_ruling terms m w a x d (Some (VoteRefusal.Conflict c)) = conflicts terms m w a c
by_ruling terms m w a x d (Some (VoteRefusal.Spent k)) = ended terms m w (spent_line w k ∷ []) (spent_reply k)
by_ruling terms m w a x d (Some VoteRefusal.Disk) = ([], m)
by_ruling terms m w a x d (Some VoteRefusal.Memory) = ([], m)

cond_through : {A B : Type 0} (f : A → B) (b : Bool) (u v : A) → cond b (f u) (f v) ≡ f (cond b u v)
cond_through f true u v = refl
cond_through f false u v = refl

votes_by : {R : Type 0} (terms : Terms R) (st : StoreView) (now : ℕ) (o : Option Vote) (ws : List (Doing R)) (w : ℕ) (a : Attempt R) (x : Reply) (d : Draft) → terms.limit ≡ st.limit
    → votes terms (parts st now o ws) w x d ≡ by_ruling terms (parts st now o ws) w a x d (spent st d)
votes_by {R} terms st now o ws w a x d limit =
    let m = parts st now o ws in
    let f : Option VoteRefusal → Told R = by_ruling terms m w a x d in
    let b1 = last st.history == greatest_number in
    let b2 = nat_lt 0 (made d) && nat_lt greatest_number (next st.history + made d) in
    let b3 = nat_lt st.limit (need m d) in
    let full : ℕ → Told R = (λ l. cond b1 (f (Some (VoteRefusal.Spent Spent.Tids))) (cond b2 (f (Some (VoteRefusal.Spent (Spent.Oids (next st.history - 1) (made d))))) (cond (nat_lt l (need m d)) (f (Some (VoteRefusal.Spent (Spent.Full (need m d) l)))) (f None)))) in
    let r3 : Option VoteRefusal = cond b3 (Some (VoteRefusal.Spent (Spent.Full (need m d) st.limit))) None in
    let r2 : Option VoteRefusal = cond b2 (Some (VoteRefusal.Spent (Spent.Oids (next st.history - 1) (made d)))) r3 in
    ap full limit
    ∙ ap (λ k. cond b1 (f (Some (VoteRefusal.Spent Spent.Tids))) (cond b2 (f (Some (VoteRefusal.Spent (Spent.Oids (next st.history - 1) (made d))))) k)) (cond_through f b3 (Some (VoteRefusal.Spent (Spent.Full (need m d) st.limit))) None)
    ∙ ap (λ k. cond b1 (f (Some (VoteRefusal.Spent Spent.Tids))) k) (cond_through f b2 (Some (VoteRefusal.Spent (Spent.Oids (next st.history - 1) (made d)))) r3)
    ∙ cond_through f b1 (Some (VoteRefusal.Spent Spent.Tids)) r2

-- The store's ruling on an attempt is what the table does with it.
pub table_by_ruling : {E R S : Type 0} (terms : Terms R) (st : StoreView) (sl : List (Slot E R S)) (now : ℕ) (ws : List (Doing R)) (w : ℕ) (a : Attempt R) (x : Reply) (d : Draft) → terms.limit ≡ st.limit → HoldsNone st w
    → from_computed terms (parts st now (vote_of sl st.out) ws) w a x d (vote_of sl st.out) ≡ by_ruling terms (parts st now (vote_of sl st.out) ws) w a x d (ruling st a d)
table_by_ruling {E} {R} {S} terms st sl now ws w a x d limit not = go st.out (λ o e. not o e)
  where
    m : Moment R
    m = parts st now (vote_of sl st.out) ws

    free : (c : Option Clash) → validated terms (parts st now (vote_of sl st.out) ws) w a x d c ≡ by_ruling terms (parts st now (vote_of sl st.out) ws) w a x d (validation st d c)
    free (Some c) = refl
    free None = votes_by terms st now (vote_of sl st.out) ws w a x d limit

    go : (out : Option Out) → ((o : Out) → out ≡ Some o → o.holder ≢ w) → from_computed terms (parts st now (vote_of sl st.out) ws) w a x d (vote_of sl out) ≡ by_ruling terms (parts st now (vote_of sl st.out) ws) w a x d (ruling_of out st (first_clash st.history a.facts) d)
    go None n = free (first_clash st.history a.facts)
    go (Some o) n = rw (differ o.holder w (n o refl)) refl

-- what the table says of a computed slot
tells : {E R S : Type 0} (eval : Eval R) (terms : Terms R) (st : StoreView) (sl : List (Slot E R S)) (w now : ℕ) (a : ActiveView R) (x : Reply) (d : Draft) (r : Option VoteRefusal) → a.ready ≡ Some (x, d) → terms.limit ≡ st.limit → HoldsNone st w → ruling st a.attempt d ≡ r
    → from_doing terms (clocked (moment_of eval st sl) now) w (Some (computed_of a.attempt a.ready)) ≡ by_ruling terms (clocked (moment_of eval st sl) now) w a.attempt x d r
tells {E} {R} {S} eval terms st sl w now a x d r ready limit not e =
    ap (λ k. from_doing terms (clocked (moment_of eval st sl) now) w (Some (computed_of a.attempt k))) ready
    ∙ table_by_ruling terms st sl now (map (doing_of eval) sl) w a.attempt x d limit not ∙ ap (by_ruling terms (clocked (moment_of eval st sl) now) w a.attempt x d) e

-- a step that ends the request, or votes
pub ends_lower : (k : ℕ) → 0 < k + 2
ends_lower k = omega arith

pub vote_lowers : (k : ℕ) → 1 < k + 2
vote_lowers k = omega arith

-- a request that begins anew has a conflict more
pub conflict_lowers : (n k : ℕ) → k ≡ n + 1 → n < 3 → (4 - k) * attempt_steps < further_steps n + 2
conflict_lowers n k one few = omega (arith, one, few)

pub busy_moves : {E R S : Type 0} (eval : Eval R) (w now : ℕ) (st : StoreView) (a b : ActiveView R) (x : Reply) (d : Draft) (v : ℕ) → st.undecided ≡ None → a.ready ≡ Some (x, d) → b ≡ a → ruling st a.attempt d ≡ Some (VoteRefusal.Busy v)
    → Moves {E = E} {R = R} {S = S} eval w now st st (Slot.Computed a) (Slot.Computed b) (StepLine.Busy v)
busy_moves {E} {R} {S} eval w now st a b x d v none ready is r = rw is (λ sl here voter terms _ limit may possible.
    let same : slice_set sl w (Slot.Computed a) ≡ sl = set_same sl w (Slot.Computed a) here in
    let it : st ≡ may = sym (only st may none possible) in
    let from : Moment R = clocked (moment_of eval st sl) now in
    let step : Steps terms from w (Line.Busy w v ∷ []) from = inl (told_at terms eval st sl w now (Slot.Computed a) here ∙ tells eval terms st sl w now a x d (Some (VoteRefusal.Busy v)) ready limit (holds_none st sl w (Slot.Computed a) voter here (λ c. c)) r) in
    let back : Steps terms from w (Line.Busy w v ∷ []) (clocked (moment_of eval st (slice_set sl w (Slot.Computed a))) now) = subst (λ (k : List (Slot E R S)). Steps terms from w (Line.Busy w v ∷ []) (clocked (moment_of eval st k) now)) (sym same) step in
    (st, inl refl, subst (λ (k : StoreView). Steps terms from w (Line.Busy w v ∷ []) (clocked (moment_of eval k (slice_set sl w (Slot.Computed a))) now)) it back))

pub conflict_moves : {E R S : Type 0} (eval : Eval R) (w now : ℕ) (st : StoreView) (a : ActiveView R) (f : FreshView R) (x : Reply) (d : Draft) (c : Clash) → st.undecided ≡ None → a.ready ≡ Some (x, d) → ruling st a.attempt d ≡ Some (VoteRefusal.Conflict c)
    → length a.attempt.clashes < 3 → f.request ≡ a.attempt.request → clashes_of f.conflicts ≡ a.attempt.clashes ++ c ∷ [] → Moves {E = E} {R = R} {S = S} eval w now st st (Slot.Computed a) (Slot.Fresh f) (StepLine.Conflict c)
conflict_moves {E} {R} {S} eval w now st a f x d c none ready r few q cs =
    quiet_fresh eval w now st (Slot.Computed a) (Slot.Fresh f) (StepLine.Conflict c) none (λ k. k) (λ terms same limit sl free.
    let m = clocked (moment_of eval st sl) now in
    let short : nat_lt (length a.attempt.clashes) 3 ≡ true = grind (arith, nat_tests, few) in
    tells eval terms st sl w now a x d (Some (VoteRefusal.Conflict c)) ready limit free r ∙ rw short (ap (λ k. (let t : Told R = (Line.Conflict w c ∷ [], turned m w (Waiting k (a.attempt.clashes ++ c ∷ []))) in t)) (sym q)
    ∙ ap (λ k. (let t : Told R = (Line.Conflict w c ∷ [], turned m w (Waiting f.request k)) in t)) (sym cs)))

latest_behind : (d : Clash) (cs : List Clash) (c : Clash) → latest_of d (cs ++ c ∷ []) ≡ c
latest_behind d [] c = refl
latest_behind d (e ∷ cs) c = latest_behind e cs c

pub given_up_moves : {E R S : Type 0} (eval : Eval R) (w now : ℕ) (st : StoreView) (a : ActiveView R) (x : Reply) (d : Draft) (cs : List Clash) (c : Clash) → st.undecided ≡ None → a.ready ≡ Some (x, d) → ruling st a.attempt d ≡ Some (VoteRefusal.Conflict c)
    → length a.attempt.clashes ≡ 3 → cs ≡ a.attempt.clashes ++ c ∷ [] → Moves {E = E} {R = R} {S = S} eval w now st st (Slot.Computed a) Slot.Idle (StepLine.GivenUp cs)
given_up_moves {E} {R} {S} eval w now st a x d cs c none ready r three is = rw is (quiet_fresh eval w now st (Slot.Computed a) Slot.Idle (StepLine.GivenUp (a.attempt.clashes ++ c ∷ [])) none (λ k. k) (λ terms same limit sl free.
    let m = clocked (moment_of eval st sl) now in
    let long : nat_lt (length a.attempt.clashes) 3 ≡ false = grind (arith, nat_tests, three) in
    let tell : Clash → Told R = (λ k. ended terms m w (Line.Conflict w k ∷ Line.GivenUp w (a.attempt.clashes ++ c ∷ []) ∷ []) (conflict_reply k.oid)) in
    tells eval terms st sl w now a x d (Some (VoteRefusal.Conflict c)) ready limit free r ∙ rw long (ap tell (sym (latest_behind _ a.attempt.clashes c)))))

pub spent_moves : {E R S : Type 0} (eval : Eval R) (w now : ℕ) (st : StoreView) (a : ActiveView R) (x : Reply) (d : Draft) (k : Spent) → st.undecided ≡ None → a.ready ≡ Some (x, d) → ruling st a.attempt d ≡ Some (VoteRefusal.Spent k)
    → Moves {E = E} {R = R} {S = S} eval w now st st (Slot.Computed a) Slot.Idle (StepLine.Spent k)
spent_moves eval w now st a x d k none ready r = quiet_fresh eval w now st (Slot.Computed a) Slot.Idle (StepLine.Spent k) none (λ c. c) (λ terms same limit sl free. tells eval terms st sl w now a x d (Some (VoteRefusal.Spent k)) ready limit free r)

-- a slot that holds a vote, where no vote is out, or another's
none_pending : {E R S : Type 0} (eval : Eval R) (old : StoreView) (v : ℕ) (s : Slot E R S) → SlotStands eval old v s → ((o : Out) → old.out ≡ Some o → o.holder ≢ v) → IsPending (Some s) → ⊥
none_pending eval old v Slot.Idle h n p = p
none_pending eval old v (Slot.Fresh f) h n p = p
none_pending eval old v (Slot.Active a) h n p = p
none_pending eval old v (Slot.Computed a) h n p = p
none_pending eval old v (Slot.Pending p) h n k = n h.0.0 h.0.1 h.0.2

-- another slot than the holder's is no pending one
not_holder : {E R S : Type 0} (eval : Eval R) (old : StoreView) (o : Out) (w k : ℕ) (s : Slot E R S) → old.out ≡ Some o → o.holder ≡ w → k ≢ w → SlotStands eval old k s → IsPending (Some s) → ⊥
not_holder eval old o w k s is holder other h = none_pending eval old k s h (λ u f g. other (let same : Some u ≡ Some o = sym f ∙ is in let same_out : u ≡ o = cc in sym g ∙ ap (λ (z : Out). z.holder) same_out ∙ holder))

-- the trouble of an unknown outcome, at the moment of the holder
unknown_step : {E R S : Type 0} (eval : Eval R) (w now : ℕ) (old : StoreView) (disk : DiskView) (p : PendingView R) (o : Out) (sl : List (Slot E R S)) → (old.out ≡ Some o) × (o.holder ≡ w) × (o.transaction.tid ≡ p.tid) → slice_get sl w ≡ Some (Slot.Pending p)
    → (terms : Terms R) (may : StoreView) → Possible (unsettled old disk) may
    → Steps terms (clocked (moment_of eval old sl) now) w (step_lines terms.answer w (StepLine.Unknown p.tid)) (clocked (moment_of eval may (slice_set sl w Slot.Idle)) now)
unknown_step {E} {R} {S} eval w now old disk p o sl stands here terms may possible = go possible
  where
    m : Moment R
    m = clocked (moment_of eval old sl) now

    v : Vote
    v = record { holder = o.holder; reply = reply_at (slice_get sl o.holder); transaction = o.transaction; size = o.size }

    asks : has_request (doing m w) ≡ true
    asks = ap has_request (get_map (doing_of eval) sl w (Slot.Pending p) here)

    held : held_by w m.vote ≡ Some v
    held = ap (λ out. held_by w (vote_of sl out)) stands.0 ∙ rw (equal o.holder w stands.1) refl

    lines : ℕ → List Line
    lines t = step_lines terms.answer w (StepLine.Unknown t)

    fails_so : (b : Bool) (to : Moment R) → turned (settled m (Some v) b) w Free ≡ to → troubled terms m w (Is_unknown b) ≡ Some (lines p.tid, to)
    fails_so b to is = rw (asks, held) (ap (λ t. (let x : Option (Told R) = Some (lines t, turned (settled m (Some v) b) w Free) in x)) stands.2 ∙ ap (λ k. (let x : Option (Told R) = Some (lines p.tid, k) in x)) is)

    workers : slice_set (map (doing_of eval) sl) w Free ≡ map (doing_of eval) (slice_set sl w Slot.Idle)
    workers = sym (map_set (doing_of eval) sl w Slot.Idle)

    go : Possible (unsettled old disk) may → Steps terms m w (lines p.tid) (clocked (moment_of eval may (slice_set sl w Slot.Idle)) now)
    go (inl e) = inr (Is_unknown false, fails_so false (clocked (moment_of eval may (slice_set sl w Slot.Idle)) now) (ap (λ ws. parts old now None ws) workers ∙ ap (λ (k : StoreView). clocked (moment_of eval k (slice_set sl w Slot.Idle)) now) (sym e)))
    go (inr (u, f, e)) =
        let both : Some u ≡ Some o = sym f ∙ stands.0 in
        let same : u ≡ o = cc in
        let grown : StoreView = settled_store (unsettled old disk) (Some o) disk in
        let it : grown ≡ may = ap (λ x. settled_store (unsettled old disk) (Some x) disk) (sym same) ∙ sym e in
        inr (Is_unknown true, fails_so true (clocked (moment_of eval may (slice_set sl w Slot.Idle)) now) (ap (λ ws. parts grown now None ws) workers ∙ ap (λ (k : StoreView). clocked (moment_of eval k (slice_set sl w Slot.Idle)) now) it))

-- where nothing but the new store may stand behind it
alone : {E R S : Type 0} (eval : Eval R) (terms : Terms R) (w now : ℕ) (old new may : StoreView) (sl after : List (Slot E R S)) (lines : List Line) → new.undecided ≡ None → Possible new may
    → Steps terms (clocked (moment_of eval old sl) now) w lines (clocked (moment_of eval new after) now)
    → (was : StoreView) × Possible old was × Steps terms (clocked (moment_of eval was sl) now) w lines (clocked (moment_of eval may after) now)
alone {E} {R} {S} eval terms w now old new may sl after lines none possible step =
    let it : new ≡ may = sym (only new may none possible) in
    (old, inl refl, subst (λ (k : StoreView). Steps terms (clocked (moment_of eval old sl) now) w lines (clocked (moment_of eval k after) now)) it step)

-- ---- a vote goes out, and ends

-- all stands on where a worker's vote goes out, and none was
pub stands_voted : {E R S : Type 0} (eval : Eval R) (old new : StoreView) (w : ℕ) (slot : Slot E R S) (p : PendingView R) → Carries old new → old.out ≡ None → PendingStands new w p → ChangeStands eval new p
    → (sl : List (Slot E R S)) → slice_get sl w ≡ Some slot → CoreStands eval old sl → CoreStands eval new (slice_set sl w (Slot.Pending p))
stands_voted {E} {R} {S} eval old new w slot p carries none holds change sl here all = record {
  count = length-set sl w (Slot.Pending p) ∙ all.count;
  each = λ k s e. elim (get_set sl w k (Slot.Pending p) s e) [
    | inl q ↦ rw (q.0, q.1) (holds, change)
    | inr q ↦ slot_free eval old new k s carries (none_pending eval old k s (all.each k s q.1) (λ u is. absurd (let bad : Some u ≡ None = sym is ∙ none in cc))) (all.each k s q.1)
  ];
  voter = λ u e.
      let both : Some holds.0 ≡ Some u = sym holds.1 ∙ e in
      let same : holds.0 ≡ u = cc in
      let at : u.holder ≡ w = ap (λ (z : Out). z.holder) (sym same) ∙ holds.2 in
      (p, rw at (get_set_same sl w (Slot.Pending p) slot here));
}

-- and where the worker's vote is out no more
pub stands_ended : {E R S : Type 0} (eval : Eval R) (old new : StoreView) (w : ℕ) (p : PendingView R) → Carries old new → PendingStands old w p → new.out ≡ None
    → (sl : List (Slot E R S)) → slice_get sl w ≡ Some (Slot.Pending p) → CoreStands eval old sl → CoreStands eval new (slice_set sl w Slot.Idle)
stands_ended {E} {R} {S} eval old new w p carries holds none sl here all = record {
  count = length-set sl w Slot.Idle ∙ all.count;
  each = λ k s e. elim (get_set sl w k Slot.Idle s e) [
    | inl q ↦ rw (q.0, q.1) tt
    | inr q ↦ slot_free eval old new k s carries (not_holder eval old holds.0 w k s holds.1 holds.2 q.0 (all.each k s q.1)) (all.each k s q.1)
  ];
  voter = λ u e. absurd (let bad : Some u ≡ None = sym e ∙ none in cc);
}

-- over the settled store
pub voted_moves : {E R S : Type 0} (eval : Eval R) (w now : ℕ) (new : StoreView) (a : ActiveView R) (x : Reply) (d : Draft) (p : PendingView R) (t : ℕ) → new.undecided ≡ None → a.ready ≡ Some (x, d) → comes_to eval a.attempt ≡ Outcome.Change x d
    → ruling (idle new) a.attempt d ≡ None → p.attempt ≡ a.attempt → p.reply ≡ x → p.tid ≡ tid_at new.history now → new.out ≡ Some (voted_out (idle new) w d p.tid) → t ≡ p.tid
    → Moves {E = E} {R = R} {S = S} eval w now (idle new) new (Slot.Computed a) (Slot.Pending p) (StepLine.Voted t)
voted_moves {E} {R} {S} eval w now new a x d p t none ready change free attempt_is reply_is tid_is out_is at =
    let old : StoreView = idle new in
    let o : Out = voted_out old w d p.tid in
    rw at (λ sl here voter terms _ limit may possible.
    let ws = map (doing_of eval) sl in
    let is : doing_of {E = E} {R = R} {S = S} eval (Slot.Pending p) ≡ doing_of {E = E} {R = R} {S = S} eval (Slot.Computed a) = rw (attempt_is, reply_is, change, ready) refl in
    let workers : map (doing_of eval) (slice_set sl w (Slot.Pending p)) ≡ ws = map_set (doing_of eval) sl w (Slot.Pending p) ∙ ap (slice_set ws w) is ∙ set_same ws w (doing_of {E = E} {R = R} {S = S} eval (Slot.Computed a)) (get_map (doing_of eval) sl w (Slot.Computed a) here) in
    let reply : reply_at (slice_get (slice_set sl w (Slot.Pending p)) w) ≡ x = ap reply_at (get_set_same sl w (Slot.Pending p) (Slot.Computed a) here) ∙ reply_is in
    let made : ℕ → Reply → List (Doing R) → Told R = (λ k y us. (Line.Vote w k ∷ [], parts old now (Some (record { holder = w; reply = y; transaction = settle old.history d k; size = size d })) us)) in
    let holds : parts new now (Some (record { holder = w; reply = reply_at (slice_get (slice_set sl w (Slot.Pending p)) w); transaction = o.transaction; size = o.size })) (map (doing_of eval) (slice_set sl w (Slot.Pending p))) ≡ clocked (moment_of eval new (slice_set sl w (Slot.Pending p))) now = ap (λ out. parts new now (vote_of (slice_set sl w (Slot.Pending p)) out) (map (doing_of eval) (slice_set sl w (Slot.Pending p)))) (sym out_is) in
    alone eval terms w now old new may sl (slice_set sl w (Slot.Pending p)) (Line.Vote w p.tid ∷ []) none possible
    (inl (told_at terms eval old sl w now (Slot.Computed a) here ∙ tells eval terms old sl w now a x d None ready limit (holds_none old sl w (Slot.Computed a) voter here (λ c. c)) free
    ∙ ap (λ k. made k x ws) (sym tid_is) ∙ ap (λ y. made p.tid y ws) (sym reply) ∙ ap (made p.tid (reply_at (slice_get (slice_set sl w (Slot.Pending p)) w))) (sym workers)
    ∙ ap (λ m. (let t : Told R = (Line.Vote w p.tid ∷ [], m) in t)) holds)))

pub commit_moves : {E R S : Type 0} (eval : Eval R) (w now : ℕ) (old new : StoreView) (p : PendingView R) (x : Reply) (t : ℕ) → PendingStands old w p → old.undecided ≡ None → new ≡ finished old old.out new.disk → x ≡ p.reply → t ≡ p.tid
    → Moves {E = E} {R = R} {S = S} eval w now old new (Slot.Pending p) Slot.Idle (StepLine.Commit x t)
commit_moves {E} {R} {S} eval w now old new p x t stands none is reply at =
    let o = stands.0 in
    let after : new ≡ finished old (Some o) new.disk = is ∙ ap (λ out. finished old out new.disk) stands.1 in
    rw (at, reply, after) (λ sl here voter terms _ limit may possible.
    let ws = map (doing_of eval) sl in
    let m = parts old now (vote_of sl old.out) ws in
    let d : Draft = draft_of (comes_to eval p.attempt) in
    let v : ℕ → Reply → Vote = (λ h y. record { holder = h; reply = y; transaction = o.transaction; size = o.size }) in
    let replied : reply_at (slice_get sl o.holder) ≡ p.reply = ap (λ k. reply_at (slice_get sl k)) stands.2 ∙ ap reply_at here in
    let chosen : from_computed terms m w p.attempt p.reply d (vote_of sl (Some o)) ≡ commits terms m w (v o.holder (reply_at (slice_get sl o.holder))) = rw (equal o.holder w stands.2) refl in
    let told_of : ℕ → Reply → List (Doing R) → Told R = (λ k y us. (Line.ReplyCommit w k (terms.answer y (Mark.Commit k)) ∷ shown_lines w y, parts (finished old (Some o) new.disk) now None us)) in
    alone eval terms w now old (finished old (Some o) new.disk) may sl (slice_set sl w Slot.Idle) (step_lines terms.answer w (StepLine.Commit p.reply p.tid)) none possible
    (inl (told_at terms eval old sl w now (Slot.Pending p) here ∙ ap (λ out. from_computed terms m w p.attempt p.reply d (vote_of sl out)) stands.1 ∙ chosen
    ∙ ap (λ y. told_of o.transaction.tid y (slice_set ws w Free)) replied ∙ ap (λ k. told_of k p.reply (slice_set ws w Free)) stands.3 ∙ ap (told_of p.tid p.reply) (sym (map_set (doing_of eval) sl w Slot.Idle)))))

-- A finish that failed: whether its transaction stands is known once the store is opened again. Until then the moment is
-- one of two, and each is a step from the one moment before.
pub unknown_moves : {E R S : Type 0} (eval : Eval R) (w now : ℕ) (old new : StoreView) (p : PendingView R) (t : ℕ) → PendingStands old w p → new ≡ unsettled old new.disk → t ≡ p.tid
    → Moves {E = E} {R = R} {S = S} eval w now old new (Slot.Pending p) Slot.Idle (StepLine.Unknown t)
unknown_moves {E} {R} {S} eval w now old new p t stands is at =
    let o = stands.0 in
    rw (at, is) (λ sl here voter terms _ limit may possible. (old, inl refl, unknown_step eval w now old new.disk p o sl (stands.1, stands.2, stands.3) here terms may possible))

-- ---- what the arms of a vote know

-- the outcome that was found
abbrev IsReady : {R : Type 0} → Eval R → Attempt R → Option (Reply × Draft) → Type 0
IsReady eval a None = Unit {0}
IsReady eval a (Some (x, d)) = comes_to eval a ≡ Outcome.Change x d

pub ready_change : {R : Type 0} (eval : Eval R) (st : StoreView) (a : ActiveView R) (x : Reply) (d : Draft) → a.ready ≡ Some (x, d) → ComputedStands eval st a → comes_to eval a.attempt ≡ Outcome.Change x d
ready_change eval st a x d ready s = subst (IsReady eval a.attempt) (sym s.2 ∙ ready) s.3

pub computed_busy : {R : Type 0} (a : ActiveView R) → has_request (Some (computed_of a.attempt a.ready)) ≡ true
computed_busy a = (elim a.ready as (λ r. has_request (Some (computed_of a.attempt r)) ≡ true) [ None ↦ refl | Some p ↦ refl ])

-- what has voted is the change that was ready
pub voted_change : {R : Type 0} (eval : Eval R) (old new : StoreView) (a : ActiveView R) (x : Reply) (d : Draft) (p : PendingView R) → Carries old new → a.ready ≡ Some (x, d) → ComputedStands eval old a → p.attempt ≡ a.attempt → p.reply ≡ x → ChangeStands eval new p
voted_change {R} eval old new a x d p carries ready stands attempt reply =
    let change : comes_to eval a.attempt ≡ Outcome.Change x d = ready_change eval old a x d ready stands in
    (d, rw (attempt, reply) change, subst (λ (k : Attempt R). IsTold new → AsksStand eval new k) (sym attempt) (asks_carried eval old new a.attempt carries stands.5))

-- the evaluator's law of changes
abbrev Changes : {R : Type 0} → Eval R → (List ℕ → Option R) → Type 0
Changes {R} eval takes = (facts : List Fact) (q : R) (x : Reply) (d : Draft) → WasTaken takes q → eval (look facts) q ≡ Outcome.Change x d → IsChange (look facts) d × IsReply x

-- the draft that is ready keeps the rules of a change, by the law of the evaluator
pub ready_draft : {R : Type 0} (eval : Eval R) (takes : List ℕ → Option R) (st : StoreView) (a : ActiveView R) → Changes eval takes → WasTaken takes a.attempt.request → ComputedStands eval st a
    → (x : Reply) × (d : Draft) × (a.ready ≡ Some (x, d)) × IsDraft d
ready_draft eval takes st a changes taken s = (s.0, s.1, s.2, (look a.attempt.facts, (changes a.attempt.facts a.attempt.request s.0 s.1 taken s.3).0))

-- replies keep their rules, by the laws of the evaluator
pub read_reply : {R : Type 0} (eval : Eval R) (a : ActiveView R) (x : Reply) → ((known : Ask → Option Fact) (q : R) (y : Reply) → eval known q ≡ Outcome.Answer y → IsReply y) → comes_to eval a.attempt ≡ Outcome.Answer x → IsReply x
read_reply eval a x replies e = replies (look a.attempt.facts) a.attempt.request x e

pub commit_reply : {R : Type 0} (eval : Eval R) (takes : List ℕ → Option R) (st : StoreView) (p : PendingView R) → Changes eval takes → WasTaken takes p.attempt.request → ChangeStands eval st p → IsReply p.reply
commit_reply eval takes st p changes taken s = (changes p.attempt.facts p.attempt.request p.reply s.0 taken s.1).1
