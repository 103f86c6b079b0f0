-- Each arm of a step in which the store's vote stays as it was: what a slot becomes is a step of the moment, and all
-- keeps standing.
use Rattle.std.proofs.Common.{◌≡◌, ◌≢◌, ℕ, ◌+◌, ◌-◌, ◌*◌, ◌<◌, ◌≤◌, ◌==◌, Bool, true, false, eqb-true, List, [], ◌∷◌, ◌++◌, Option, Some, None, refl, sym, ap, ◌∙◌, subst, inl, inr, map, length, slice_get, slice_set, arith, lit<}
use Rattle.std.proofs.lemmas.List.{length-set, length-append}
use Rattle.zbase.specs.Values.{last, upto}
use Rattle.evaluator.specs.declared.ask.Ask.{Ask}
use Rattle.evaluator.specs.declared.draft.Draft.{Draft}
use Rattle.evaluator.specs.declared.fact.Fact.{Fact}
use Rattle.evaluator.specs.declared.outcome.Outcome.{Outcome}
use Rattle.evaluator.specs.declared.reply.Reply.{Reply}
use Rattle.evaluator.specs.Exec.{Eval, most_asks}
use Rattle.evaluator.specs.Facts.{fact, look}
use Rattle.schedule.specs.declared.line.Line.{Line}
use Rattle.schedule.specs.Moments.{Terms, Attempt, Doing, Free, Vote, Moment, doing, turned, clocked}
use Rattle.schedule.specs.Stepping.{told, from_doing, from_asking, fails, has_request, held_by, Disk_fails, Trouble, Wants_memory, Steps}
use Rattle.fs_store.specs.Stores.{Loses, Settles, Stands, StoreView, Out}
use Rattle.connection.specs.declared.conflicts.Conflicts.{Conflicts}
use Rattle.connection.specs.States.{FreshView, ActiveView, begun, clashes_of}
use Rattle.connection.specs.Turns.{Learns, comes_to, knowing}
use Rattle.txn_core.specs.declared.slot.Slot.{Slot}
use Rattle.txn_core.specs.declared.step_line.StepLine.{StepLine}
use Rattle.txn_core.specs.Counting.{EndsVote, IsFinishLine, attempt_steps, further_steps}
use Rattle.txn_core.specs.StepLines.{step_lines}
use Rattle.txn_core.specs.Slots.{doing_of, reply_at, vote_of, moment_of, SlotStands, CoreStands, HasVoter, Moves, Possible}
use Rattle.txn_core.proofs.Lists.{get_map, map_set, set_same, get_set, set_other}
use Rattle.txn_core.proofs.Steadiness.{Carries, IsPending, Rests, moment_alike, only, possible_rests, possible_same, possible_settles, rests_here, rests_over, settles_limit, settles_none, settles_out, slot_over}

pub differ : (a b : ℕ) → a ≢ b → (a == b) ≡ false
differ a b n = go (a == b) refl
  where
    go : (k : Bool) → (a == b) ≡ k → (a == b) ≡ false
    go true e = absurd (n (eqb-true a b e))
    go false e = e

-- the worker holds no vote
abbrev pub HoldsNone : StoreView → ℕ → Type 0
HoldsNone st w = (o : Out) → st.out ≡ Some o → o.holder ≢ w

pub holds_none : {E R S : Type 0} (st : StoreView) (sl : List (Slot E R S)) (w : ℕ) (slot : Slot E R S) → HasVoter st sl → slice_get sl w ≡ Some slot → (IsPending (Some slot) → ⊥) → HoldsNone st w
holds_none {E} {R} {S} st sl w slot voter here not o e same =
    let v = voter o e in
    let there : Some (Slot.Pending v.0) ≡ Some slot = sym v.1 ∙ ap (λ k. slice_get sl k) same ∙ here in
    not (subst (λ (x : Option (Slot E R S)). IsPending x) there tt)

-- the store's vote is as it was where another slot is filled
vote_quiet : {E R S : Type 0} (sl : List (Slot E R S)) (w : ℕ) (next : Slot E R S) (out : Option Out) → ((o : Out) → out ≡ Some o → o.holder ≢ w) → vote_of (slice_set sl w next) out ≡ vote_of sl out
vote_quiet sl w next None not = refl
vote_quiet {E} {R} {S} sl w next (Some o) not =
    ap (λ (x : Option (Slot E R S)). Some (let v : Vote = record { holder = o.holder; reply = reply_at x; transaction = o.transaction; size = o.size } in v)) (set_other next sl w o.holder (not o refl))

-- a moment of these parts
abbrev pub parts : {R : Type 0} → StoreView → ℕ → Option Vote → List (Doing R) → Moment R
parts st now v ws = record { standing = st.history; end = st.end; clock = now; vote = v; workers = ws }

pub moment_quiet : {E R S : Type 0} (eval : Eval R) (st : StoreView) (sl : List (Slot E R S)) (w now : ℕ) (next : Slot E R S) → HoldsNone st w
    → turned (clocked (moment_of eval st sl) now) w (doing_of eval next) ≡ clocked (moment_of eval st (slice_set sl w next)) now
moment_quiet eval st sl w now next not =
    ap (λ ws. parts st now (vote_of sl st.out) ws) (sym (map_set (doing_of eval) sl w next)) ∙ ap (λ v. parts st now v (map (doing_of eval) (slice_set sl w next))) (sym (vote_quiet sl w next st.out not))

pub told_at : {E R S : Type 0} (terms : Terms R) (eval : Eval R) (st : StoreView) (sl : List (Slot E R S)) (w now : ℕ) (slot : Slot E R S) → slice_get sl w ≡ Some slot
    → told terms (clocked (moment_of eval st sl) now) w ≡ from_doing terms (clocked (moment_of eval st sl) now) w (Some (doing_of eval slot))
told_at terms eval st sl w now slot here = ap (from_doing terms (clocked (moment_of eval st sl) now) w) (get_map (doing_of eval) sl w slot here)

-- ---- what keeps standing

-- all stands on where the store's vote is as it was, and isn't the worker's
pub stands_quiet : {E R S : Type 0} (eval : Eval R) (old new : StoreView) (w : ℕ) (slot next : Slot E R S) → Carries old new → new.out ≡ old.out → (IsPending (Some slot) → ⊥) → SlotStands eval new w next
    → (sl : List (Slot E R S)) → slice_get sl w ≡ Some slot → CoreStands eval old sl → CoreStands eval new (slice_set sl w next)
stands_quiet {E} {R} {S} eval old new w slot next carries out not stands sl here all = record {
  count = length-set sl w next ∙ all.count;
  each = λ v s e. elim (get_set sl w v next s e) [ inl p ↦ rw (p.0, p.1) stands | inr p ↦ slot_over eval old new v s carries out (all.each v s p.1) ];
  voter = λ o e.
      let was : old.out ≡ Some o = sym out ∙ e in
      let v = all.voter o was in
      (v.0, set_other next sl w o.holder (holds_none old sl w slot all.voter here not o was) ∙ v.1);
}

-- who hasn't voted ends no vote
pub ends_none : {E R S : Type 0} (slot next : Slot E R S) (line : StepLine) → (IsPending (Some slot) → ⊥) → (IsFinishLine line → ⊥) → EndsVote line slot next
ends_none Slot.Idle next line not never = never
ends_none (Slot.Fresh f) next line not never = never
ends_none (Slot.Active a) next line not never = never
ends_none (Slot.Computed a) next line not never = never
ends_none (Slot.Pending p) next line not never = absurd (not tt)

-- ---- what moves

-- a store without the vote of a worker, whatever may stand behind it
free_may : (st may : StoreView) (w : ℕ) → Possible st may → HoldsNone st w → HoldsNone may w
free_may st may w p not o e = not o (sym (possible_same st may p).0 ∙ e)

-- An arm that leaves the store as it was, its disk aside, and steps so from the moment of whatever may stand behind it.
pub steady : {E R S : Type 0} (eval : Eval R) (w now : ℕ) (old new : StoreView) (slot next : Slot E R S) (line : StepLine) → Rests old new → (IsPending (Some slot) → ⊥)
    → ((terms : Terms R) → terms.eval ≡ eval → (st : StoreView) → Possible old st → terms.limit ≡ st.limit → (sl : List (Slot E R S)) → slice_get sl w ≡ Some slot → HoldsNone st w
    → Steps terms (clocked (moment_of eval st sl) now) w (step_lines terms.answer w line) (turned (clocked (moment_of eval st sl) now) w (doing_of eval next)))
    → Moves eval w now old new slot next line
steady {E} {R} {S} eval w now old new slot next line rests not steps = λ sl here voter terms same limit may possible.
    let free = holds_none old sl w slot voter here not in
    let b = possible_rests old new may rests possible in
    let not_it = free_may old b.0 w b.1 free in
    let lines = step_lines terms.answer w line in
    let from : Moment R = clocked (moment_of eval b.0 sl) now in
    let to : turned from w (doing_of eval next) ≡ clocked (moment_of eval may (slice_set sl w next)) now = moment_quiet eval b.0 sl w now next not_it ∙ ap (λ (m : Moment R). clocked m now) (moment_alike eval b.0 may (slice_set sl w next) b.2) in
    (b.0, b.1, subst (λ (m : Moment R). Steps terms from w lines m) to (steps terms same b.0 b.1 (limit ∙ sym (possible_same old b.0 b.1).1) sl here not_it))

-- An arm that prints what the table says, whatever stands behind the store.
pub quiet : {E R S : Type 0} (eval : Eval R) (w now : ℕ) (old new : StoreView) (slot next : Slot E R S) (line : StepLine) → Rests old new → (IsPending (Some slot) → ⊥)
    → ((terms : Terms R) → terms.eval ≡ eval → (st : StoreView) → Possible old st → terms.limit ≡ st.limit → (sl : List (Slot E R S)) → HoldsNone st w
    → (from_doing terms (clocked (moment_of eval st sl) now) w (Some (doing_of eval slot)) ≡ (step_lines terms.answer w line, turned (clocked (moment_of eval st sl) now) w (doing_of eval next))))
    → Moves eval w now old new slot next line
quiet eval w now old new slot next line rests not tells =
    steady eval w now old new slot next line rests not
    (λ terms same st possible limit sl here free. inl (told_at terms eval st sl w now slot here ∙ tells terms same st possible limit sl free))

-- the same of a store that isn't stale: nothing else stands behind it
pub quiet_fresh : {E R S : Type 0} (eval : Eval R) (w now : ℕ) (st : StoreView) (slot next : Slot E R S) (line : StepLine) → st.undecided ≡ None → (IsPending (Some slot) → ⊥)
    → ((terms : Terms R) → terms.eval ≡ eval → terms.limit ≡ st.limit → (sl : List (Slot E R S)) → HoldsNone st w
    → (from_doing terms (clocked (moment_of eval st sl) now) w (Some (doing_of eval slot)) ≡ (step_lines terms.answer w line, turned (clocked (moment_of eval st sl) now) w (doing_of eval next))))
    → Moves eval w now st st slot next line
quiet_fresh {E} {R} {S} eval w now st slot next line none not tells =
    quiet eval w now st st slot next line (rests_here st) not
    (λ terms same may possible limit sl free.
    let is : st ≡ may = sym (only st may none possible) in
    subst (λ (k : StoreView). terms.limit ≡ k.limit → HoldsNone k w → from_doing terms (clocked (moment_of eval k sl) now) w (Some (doing_of eval slot)) ≡ (step_lines terms.answer w line, turned (clocked (moment_of eval k sl) now) w (doing_of eval next))) is
    (λ l f. tells terms same l sl f) limit free)

-- What is a step over the store once it is opened again is one over the stale store.
pub after : {E R S : Type 0} (eval : Eval R) (w now : ℕ) (old mid new : StoreView) (slot next : Slot E R S) (line : StepLine) → Settles old mid → Moves eval w now mid new slot next line → Moves eval w now old new slot next line
after {E} {R} {S} eval w now old mid new slot next line settles moves = λ sl here voter terms same limit may possible.
    let q = moves sl here (λ o e. voter o (sym (settles_out old mid settles) ∙ e)) terms same (limit ∙ sym (settles_limit old mid settles)) may possible in
    let b = possible_settles old mid q.0 settles q.1 in
    (b.0, b.1, subst (λ (k : Moment R). Steps terms (clocked k now) w (step_lines terms.answer w line) (clocked (moment_of eval may (slice_set sl w next)) now)) (sym (moment_alike eval b.0 q.0 sl b.2)) q.2)

pub held_none : {E R S : Type 0} (sl : List (Slot E R S)) (w : ℕ) (out : Option Out) → ((o : Out) → out ≡ Some o → o.holder ≢ w) → held_by w (vote_of sl out) ≡ None
held_none sl w None n = refl
held_none sl w (Some o) n = rw (differ o.holder w (n o refl)) refl

-- A worker that hasn't voted meets want of memory, or a fault.
trouble_moves : {E R S : Type 0} (eval : Eval R) (w now : ℕ) (old new : StoreView) (slot : Slot E R S) (trouble : Trouble) (line : StepLine) → Rests old new → (IsPending (Some slot) → ⊥) → has_request (Some (doing_of eval slot)) ≡ true
    → ((terms : Terms R) (m : Moment R) → fails terms m w None trouble ≡ Some (step_lines terms.answer w line, turned m w Free))
    → Moves eval w now old new slot Slot.Idle line
trouble_moves {E} {R} {S} eval w now old new slot trouble line rests not busy what =
    steady eval w now old new slot Slot.Idle line rests not
    (λ terms same st possible limit sl here free.
    let m = clocked (moment_of eval st sl) now in
    let asks : has_request (doing m w) ≡ true = ap has_request (get_map (doing_of eval) sl w slot here) ∙ busy in
    inr (trouble, rw (asks, held_none sl w st.out free) (what terms m)))

pub memory_moves : {E R S : Type 0} (eval : Eval R) (w now : ℕ) (old new : StoreView) (slot : Slot E R S) → Rests old new → (IsPending (Some slot) → ⊥) → has_request (Some (doing_of eval slot)) ≡ true → Moves eval w now old new slot Slot.Idle StepLine.Memory
memory_moves eval w now old new slot rests not busy = trouble_moves eval w now old new slot Wants_memory StepLine.Memory rests not busy (λ terms m. refl)

pub fault_moves : {E R S : Type 0} (eval : Eval R) (w now : ℕ) (old new : StoreView) (slot : Slot E R S) → Rests old new → (IsPending (Some slot) → ⊥) → has_request (Some (doing_of eval slot)) ≡ true → Moves eval w now old new slot Slot.Idle StepLine.DiskFault
fault_moves eval w now old new slot rests not busy = trouble_moves eval w now old new slot Disk_fails StepLine.DiskFault rests not busy (λ terms m. refl)

-- want of memory, or a fault, behind an opening or without one
pub stands_moves : {E R S : Type 0} (eval : Eval R) (w now : ℕ) (old new : StoreView) (slot : Slot E R S) (line : StepLine) → Stands old new
    → ((st : StoreView) → Rests st new → Moves eval w now st new slot Slot.Idle line) → Moves eval w now old new slot Slot.Idle line
stands_moves eval w now old new slot line (inl same) arm = arm old (rests_over old new same)
stands_moves eval w now old new slot line (inr settles) arm = after eval w now old new new slot Slot.Idle line settles (arm new (rests_here new))

-- a vote that lost its store to a fault: the opening failed, or the vote behind it
pub vote_fault_moves : {E R S : Type 0} (eval : Eval R) (w now : ℕ) (old new : StoreView) (slot : Slot E R S) → Loses old new → old.out ≡ None → (IsPending (Some slot) → ⊥) → has_request (Some (doing_of eval slot)) ≡ true → Moves eval w now old new slot Slot.Idle StepLine.DiskFault
vote_fault_moves eval w now old new slot (inl same) none not busy = fault_moves eval w now old new slot (rests_over old new same) not busy
vote_fault_moves eval w now old new slot (inr (mid, settles, is)) none not busy =
    after eval w now old mid new slot Slot.Idle StepLine.DiskFault settles
    (fault_moves eval w now mid new slot (record {
      alike = record {
        history = sym (ap (λ (s : StoreView). s.history) is);
        end = sym (ap (λ (s : StoreView). s.end) is);
        limit = sym (ap (λ (s : StoreView). s.limit) is);
        out = settles_out old mid settles ∙ none ∙ sym (ap (λ (s : StoreView). s.out) is);
      };
      undecided = settles_none old mid settles ∙ sym (ap (λ (s : StoreView). s.undecided) is);
    }) not busy)

pub idle_moves : {E R S : Type 0} (eval : Eval R) (w now : ℕ) (st : StoreView) → Moves {E = E} {R = R} {S = S} eval w now st st Slot.Idle Slot.Idle StepLine.Idle
idle_moves {E} {R} {S} eval w now st = λ sl here voter terms same limit may possible.
    let is : slice_set sl w Slot.Idle ≡ sl = set_same sl w Slot.Idle here in (
      may,
      possible,
      subst (λ (k : List (Slot E R S)). Steps terms (clocked (moment_of eval may sl) now) w (Line.Idle w ∷ []) (clocked (moment_of eval may k) now)) (sym is) (inl (told_at terms eval may sl w now Slot.Idle here)),
    )

-- ---- numbers

-- an attempt that begins has one step less before it than its request had
pub begin_lowers : (c : Conflicts) → further_steps (length (clashes_of c)) + (most_asks - 0) + 3 < (4 - length (clashes_of c)) * attempt_steps
begin_lowers Conflicts.None = lit< tt
begin_lowers (Conflicts.One a) = lit< tt
begin_lowers (Conflicts.Two a b) = lit< tt
begin_lowers (Conflicts.Three a b c) = lit< tt

-- a request has steps left
pub fresh_left : (c : Conflicts) → 0 < (4 - length (clashes_of c)) * attempt_steps
fresh_left Conflicts.None = lit< tt
fresh_left (Conflicts.One a) = lit< tt
fresh_left (Conflicts.Two a b) = lit< tt
fresh_left (Conflicts.Three a b c) = lit< tt

-- an attempt under way has steps left
pub active_left : {R : Type 0} (a : ActiveView R) → 0 < further_steps (length a.attempt.clashes) + (most_asks - length a.attempt.facts) + 3
active_left a = omega arith

fewer : (k m n : ℕ) → n ≡ m + 1 → n ≤ most_asks → k + (most_asks - n) + 3 < k + (most_asks - m) + 3
fewer k m n one few = omega (arith, one, few)

pub one_fact_more : {R : Type 0} (s : StoreView) (a b : ActiveView R) (ask : Ask) → Learns s a.attempt.snapshot ask a.attempt.facts b.attempt.facts → length b.attempt.facts ≡ length a.attempt.facts + 1
one_fact_more s a b ask learns = ap length learns.2 ∙ length-append a.attempt.facts (learns.0 ∷ [])

pub fetch_lowers : {R : Type 0} (s : StoreView) (a b : ActiveView R) (ask : Ask) → Learns s a.attempt.snapshot ask a.attempt.facts b.attempt.facts → b.attempt ≡ knowing a.attempt b.attempt.facts → length b.attempt.facts ≤ most_asks
    → further_steps (length b.attempt.clashes) + (most_asks - length b.attempt.facts) + 3 < further_steps (length a.attempt.clashes) + (most_asks - length a.attempt.facts) + 3
fetch_lowers {R} s a b ask learns is few =
    let less = fewer (further_steps (length a.attempt.clashes)) (length a.attempt.facts) (length b.attempt.facts) (one_fact_more s a b ask learns) few in
    let same : b.attempt.clashes ≡ a.attempt.clashes = ap (λ (k : Attempt R). k.clashes) is in
    rw same less

computed_more : (k m : ℕ) → k + 2 < k + m + 3
computed_more k m = omega arith

pub computed_lowers : {R : Type 0} (a : ActiveView R) → further_steps (length a.attempt.clashes) + 2 < further_steps (length a.attempt.clashes) + (most_asks - length a.attempt.facts) + 3
computed_lowers a = computed_more (further_steps (length a.attempt.clashes)) (most_asks - length a.attempt.facts)

-- ---- the arms of a request and of an attempt under way

pub begin_moves : {E R S : Type 0} (eval : Eval R) (w now : ℕ) (st : StoreView) (f : FreshView R) (a : ActiveView R) (t : ℕ) → st.undecided ≡ None → a ≡ begun f a.attempt.snapshot → a.attempt.snapshot ≡ last st.history → t ≡ a.attempt.snapshot
    → Moves {E = E} {R = R} {S = S} eval w now st st (Slot.Fresh f) (Slot.Active a) (StepLine.Begun t)
begin_moves {E} {R} {S} eval w now st f a t none is at it =
    let whole : a ≡ begun f (last st.history) = is ∙ ap (begun f) at in
    rw (it ∙ at, whole) (quiet_fresh eval w now st (Slot.Fresh f) (Slot.Active (begun f (last st.history))) (StepLine.Begun (last st.history)) none (λ c. c) (λ terms same limit sl free. refl))

asked : {R : Type 0} (terms : Terms R) (eval : Eval R) (m : Moment R) (w : ℕ) (a : Attempt R) (o : Outcome) → terms.eval ≡ eval → comes_to eval a ≡ o → from_asking terms m w a (terms.eval (look a.facts) a.request) ≡ from_asking terms m w a o
asked terms eval m w a o same e = ap (from_asking terms m w a) (ap (λ k. k (look a.facts) a.request) same ∙ e)

pub fetch_moves : {E R S : Type 0} (eval : Eval R) (w now : ℕ) (st : StoreView) (a b : ActiveView R) (ask : Ask) (found : Fact) → st.undecided ≡ None → comes_to eval a.attempt ≡ Outcome.Need ask → found ≡ fact (upto st.history a.attempt.snapshot) ask
    → b.attempt.facts ≡ a.attempt.facts ++ found ∷ [] → b.attempt ≡ knowing a.attempt b.attempt.facts → Moves {E = E} {R = R} {S = S} eval w now st st (Slot.Active a) (Slot.Active b) (StepLine.Fetched ask)
fetch_moves {E} {R} {S} eval w now st a b ask found none e given facts is =
    let whole : b.attempt ≡ knowing a.attempt (a.attempt.facts ++ fact (upto st.history a.attempt.snapshot) ask ∷ []) = is ∙ ap (knowing a.attempt) (facts ∙ ap (λ k. a.attempt.facts ++ k ∷ []) given) in
    quiet_fresh eval w now st (Slot.Active a) (Slot.Active b) (StepLine.Fetched ask) none (λ c. c)
    (λ terms same limit sl free. rw whole (asked terms eval _ w a.attempt (Outcome.Need ask) same e))

pub read_moves : {E R S : Type 0} (eval : Eval R) (w now : ℕ) (old new : StoreView) (a : ActiveView R) (x : Reply) (t : ℕ) → Rests old new → comes_to eval a.attempt ≡ Outcome.Answer x → t ≡ a.attempt.snapshot
    → Moves {E = E} {R = R} {S = S} eval w now old new (Slot.Active a) Slot.Idle (StepLine.Read x t)
read_moves eval w now old new a x t rests e at = rw at (quiet eval w now old new (Slot.Active a) Slot.Idle (StepLine.Read x a.attempt.snapshot) rests (λ c. c) (λ terms same st possible limit sl free. asked terms eval _ w a.attempt (Outcome.Answer x) same e))

pub computed_moves : {E R S : Type 0} (eval : Eval R) (w now : ℕ) (old new : StoreView) (a b : ActiveView R) (x : Reply) (d : Draft) → Rests old new → comes_to eval a.attempt ≡ Outcome.Change x d → b ≡ record { attempt = a.attempt; reads = a.reads; ready = Some (x, d) }
    → Moves {E = E} {R = R} {S = S} eval w now old new (Slot.Active a) (Slot.Computed b) StepLine.Computed
computed_moves {E} {R} {S} eval w now old new a b x d rests e is =
    rw is (quiet eval w now old new (Slot.Active a) (Slot.Computed (record { attempt = a.attempt; reads = a.reads; ready = Some (x, d) })) StepLine.Computed rests (λ c. c) (λ terms same st possible limit sl free. asked terms eval _ w a.attempt (Outcome.Change x d) same e))
