-- The arms of a step, whole: what each makes of the worker's slot, whether the store tells or not.
use Rattle.std.proofs.lemmas.List.{length-append}
use Rattle.std.proofs.Common.{◌≡◌, ℕ, ◌+◌, ◌<◌, ◌≤◌, List, [], ◌∷◌, ◌++◌, length, Some, None, refl, sym, ap, ◌∙◌, subst, arith, lit<}
use Rattle.zbase.specs.History.{History}
use Rattle.zbase.specs.Values.{last, upto}
use Rattle.zbase.specs.declared.ids.Clash.{Clash}
use Rattle.evaluator.specs.declared.ask.Ask.{Ask}
use Rattle.evaluator.specs.declared.draft.Draft.{Draft}
use Rattle.evaluator.specs.declared.fact.Fact.{Fact}
use Rattle.evaluator.specs.declared.outcome.Outcome.{Outcome}
use Rattle.evaluator.specs.declared.reply.Reply.{Reply}
use Rattle.evaluator.specs.Exec.{Eval, most_asks}
use Rattle.evaluator.specs.Facts.{TrueOf, ask_of, fact}
use Rattle.schedule.specs.Moments.{Attempt}
use Rattle.fs_store.specs.declared.refusal.Spent.{Spent}
use Rattle.fs_store.specs.declared.refusal.VoteRefusal.{VoteRefusal}
use Rattle.fs_store.specs.Stores.{IsTold, Settles, StoreView, finished, idle, unsettled}
use Rattle.connection.specs.Asked.{HasAsked}
use Rattle.connection.specs.States.{ActiveView, AreSeen, FreshView, PendingView, begun, clashes_of}
use Rattle.connection.specs.Turns.{Learns, comes_to, knowing}
use Rattle.connection.specs.Votes.{IsHeldBy, IsRuled, IsVoted}
use Rattle.txn_core.specs.declared.slot.Slot.{Slot}
use Rattle.txn_core.specs.declared.step_line.StepLine.{StepLine}
use Rattle.txn_core.specs.Counting.{IsFinishLine, Lowers, Paces, further_steps, left_of}
use Rattle.txn_core.specs.Passing.{Passes}
use Rattle.txn_core.specs.Slots.{ActiveStands, Advances, AsksStand, ChangeStands, ComputedStands, CoreStands, FactsStand, Moves, PendingStands, RestsOn, Waits}
use Rattle.txn_core.proofs.Lists.{set_same}
use Rattle.txn_core.proofs.QuietArms.{active_left, after, begin_lowers, begin_moves, computed_lowers, computed_moves, ends_none, fetch_lowers, fetch_moves, idle_moves, one_fact_more, read_moves, stands_quiet}
use Rattle.txn_core.proofs.Steadiness.{Carries, IsPending, facts_carried, reads_keep, rests_same, settles_none, slot_over}
use Rattle.txn_core.proofs.Voting.{busy_moves, commit_moves, conflict_lowers, conflict_moves, ends_lower, given_up_moves, ready_change, spent_moves, stands_ended, stands_voted, unknown_moves, vote_lowers, voted_change, voted_moves}

-- ---- facts

true_push : (facts : List Fact) (f : Fact) (h : History) → TrueOf facts h → f ≡ fact h (ask_of f) → TrueOf (facts ++ f ∷ []) h
true_push [] f h all is = (is, tt)
true_push (g ∷ facts) f h all is = (all.0, true_push facts f h all.1 is)

nothing_known : {R : Type 0} (f : FreshView R) (store : StoreView) (t : ℕ) → t ≡ last store.history → FactsStand store (begun f t).attempt
nothing_known f store t is = record { below = omega (arith, is); facts = tt }

-- ---- a request that begins

pub began : {E R S : Type 0} (eval : Eval R) (w now : ℕ) (old new : StoreView) (f : FreshView R) (a : ActiveView R) (t : ℕ) → Carries old new → new.out ≡ old.out → (IsTold old → Settles old new)
    → a ≡ begun f a.attempt.snapshot → (IsTold old → a.attempt.snapshot ≡ last new.history) → t ≡ a.attempt.snapshot → Advances {E = E} {R = R} {S = S} eval w now old new (Slot.Fresh f) (Slot.Active a) (StepLine.Begun t)
began {E} {R} {S} eval w now old new f a t carries out settles is at it =
    let made : ActiveView R = begun f a.attempt.snapshot in
    record {
      passes = (f, refl, ap (λ (k : ActiveView R). (let slot : Slot E R S = Slot.Active k in slot)) (is ∙ ap (begun f) (sym it)));
      lowers = rw is (begin_lowers f.conflicts);
      ends = λ k. k;
      paces = rw is refl;
      waits = tt;
      asked = λ told. tt;
      stands = stands_quiet {E = E} {R = R} {S = S} eval old new w (Slot.Fresh f) (Slot.Active a) carries out (λ k. k)
          (subst (λ (k : ActiveView R). ActiveStands new k) (sym is) (refl, (λ i d within. absurd (omega (arith, within))), λ told. nothing_known f new a.attempt.snapshot (at (carries.told told))));
      moves = λ told. after {E = E} {R = R} {S = S} eval w now old new new (Slot.Fresh f) (Slot.Active a) (StepLine.Begun t) (settles told) (begin_moves eval w now new f a t (settles_none old new (settles told)) is (at told) it);
    }

-- ---- a step that ends the request of a worker that hasn't voted

pub troubled : {E R S : Type 0} (eval : Eval R) (w now : ℕ) (old new : StoreView) (slot : Slot E R S) (line : StepLine) → Carries old new → new.out ≡ old.out → (IsPending (Some slot) → ⊥) → Passes eval line slot Slot.Idle → Lowers line (left_of slot) 0
    → (IsFinishLine line → ⊥) → Paces line slot Slot.Idle → Waits old line → (IsTold old → RestsOn eval old line slot) → (IsTold old → Moves eval w now old new slot Slot.Idle line) → Advances eval w now old new slot Slot.Idle line
troubled eval w now old new slot line carries out not passes lowers finish paces waits asked moves = record {
  passes = passes;
  lowers = lowers;
  ends = ends_none slot Slot.Idle line not finish;
  paces = paces;
  waits = waits;
  asked = asked;
  stands = stands_quiet eval old new w slot Slot.Idle carries out not tt;
  moves = moves;
}

-- ---- an attempt under way

pub fetched : {E R S : Type 0} (eval : Eval R) (w now : ℕ) (old new : StoreView) (a b : ActiveView R) (ask : Ask) → Carries old new → new.out ≡ old.out → (IsTold old → Settles old new) → ActiveStands old a → comes_to eval a.attempt ≡ Outcome.Need ask
    → Learns new a.attempt.snapshot ask a.attempt.facts b.attempt.facts → b.attempt ≡ knowing a.attempt b.attempt.facts → b.ready ≡ None → AreSeen new b.reads → length b.attempt.facts ≤ most_asks
    → Advances {E = E} {R = R} {S = S} eval w now old new (Slot.Active a) (Slot.Active b) (StepLine.Fetched ask)
fetched {E} {R} {S} eval w now old new a b ask carries out settles stands need learns is ready reads few =
    let found = learns.0 in
    let at : b.attempt.snapshot ≡ a.attempt.snapshot = ap (λ (k : Attempt R). k.snapshot) is in
    let one = one_fact_more new a b ask learns in
    record {
      passes = (a, b, found, refl, need, learns.1.0, is ∙ ap (knowing a.attempt) learns.2, refl);
      lowers = fetch_lowers new a b ask learns is few;
      ends = λ k. k;
      paces = omega (arith, one);
      waits = tt;
      asked = λ told. tt;
      stands = stands_quiet {E = E} {R = R} {S = S} eval old new w (Slot.Active a) (Slot.Active b) carries out (λ k. k) (
        ready,
        reads,
        λ told.
            let was : FactsStand new a.attempt = facts_carried old new a.attempt carries stands.2 told in
            let given : found ≡ fact (upto new.history a.attempt.snapshot) (ask_of found) = learns.1.1 told ∙ ap (fact (upto new.history a.attempt.snapshot)) (sym learns.1.0) in
            let whole : TrueOf b.attempt.facts (upto new.history a.attempt.snapshot) = rw learns.2 (true_push a.attempt.facts found (upto new.history a.attempt.snapshot) was.facts given) in
            record { below = rw at was.below; facts = subst (λ t. TrueOf b.attempt.facts (upto new.history t)) (sym at) whole },
      );
      moves = λ told.
          after {E = E} {R = R} {S = S} eval w now old new new (Slot.Active a) (Slot.Active b) (StepLine.Fetched ask) (settles told)
          (fetch_moves eval w now new a b ask found (settles_none old new (settles told)) need (learns.1.1 (carries.tells told)) learns.2 is);
    }

pub answered : {E R S : Type 0} (eval : Eval R) (w now : ℕ) (old new : StoreView) (a : ActiveView R) (x : Reply) (t : ℕ) → Carries old new → new ≡ old → ActiveStands old a → comes_to eval a.attempt ≡ Outcome.Answer x → t ≡ a.attempt.snapshot → HasAsked eval a.attempt
    → Advances {E = E} {R = R} {S = S} eval w now old new (Slot.Active a) Slot.Idle (StepLine.Read x t)
answered {E} {R} {S} eval w now old new a x t carries same stands answer at asks = record {
  passes = (a, refl, answer, at, refl);
  lowers = active_left a;
  ends = λ k. k;
  paces = omega arith;
  waits = tt;
  asked = λ told. (let was : FactsStand old a.attempt = stands.2 told in record { below = was.below; asks = asks (upto old.history a.attempt.snapshot) was.facts });
  stands = stands_quiet {E = E} {R = R} {S = S} eval old new w (Slot.Active a) Slot.Idle carries (ap (λ (s : StoreView). s.out) same) (λ k. k) tt;
  moves = λ told. read_moves eval w now old new a x t (rests_same old new same) answer at;
}

pub computed : {E R S : Type 0} (eval : Eval R) (w now : ℕ) (old new : StoreView) (a b : ActiveView R) (x : Reply) (d : Draft) → Carries old new → new ≡ old → ActiveStands old a → comes_to eval a.attempt ≡ Outcome.Change x d → b ≡ record { attempt = a.attempt; reads = a.reads; ready = Some (x, d) } → HasAsked eval a.attempt
    → Advances {E = E} {R = R} {S = S} eval w now old new (Slot.Active a) (Slot.Computed b) StepLine.Computed
computed {E} {R} {S} eval w now old new a b x d carries same stands change is asks =
    let whole : IsTold new → AsksStand eval new a.attempt = (λ told. let now_true : FactsStand new a.attempt = facts_carried old new a.attempt carries stands.2 told in record { below = now_true.below; asks = asks (upto new.history a.attempt.snapshot) now_true.facts }) in
    record {
      passes = (a, x, d, refl, change, ap (λ (k : ActiveView R). (let slot : Slot E R S = Slot.Computed k in slot)) is);
      lowers = rw is (computed_lowers a);
      ends = λ k. k;
      paces = rw is (omega arith);
      waits = tt;
      asked = λ told. tt;
      stands = stands_quiet {E = E} {R = R} {S = S} eval old new w (Slot.Active a) (Slot.Computed b) carries (ap (λ (s : StoreView). s.out) same) (λ k. k)
          (subst (λ (k : ActiveView R). ComputedStands eval new k) (sym is) (x, d, refl, change, reads_keep old new a.reads carries stands.1, whole));
      moves = λ told. computed_moves eval w now old new a b x d (rests_same old new same) change is;
    }

-- ---- a vote

pending_is : {R : Type 0} (p : PendingView R) (a : Attempt R) (x : Reply) (t : ℕ) → p.attempt ≡ a → p.reply ≡ x → t ≡ p.tid → p ≡ record { attempt = a; reply = x; tid = t }
pending_is p a x t attempt reply tid = rw (← attempt, ← reply, tid) refl

pub voted : {E R S : Type 0} (eval : Eval R) (w now : ℕ) (old new : StoreView) (a : ActiveView R) (x : Reply) (d : Draft) (p : PendingView R) (t : ℕ) → Carries old new → ComputedStands eval old a → a.ready ≡ Some (x, d) → IsVoted old new w now a.attempt x d p → t ≡ p.tid
    → Advances {E = E} {R = R} {S = S} eval w now old new (Slot.Computed a) (Slot.Pending p) (StepLine.Voted t)
voted {E} {R} {S} eval w now old new a x d p t carries stands ready v at = record {
  passes = (a, x, d, refl, ready, ap (λ (k : PendingView R). (let slot : Slot E R S = Slot.Pending k in slot)) (pending_is p a.attempt x t v.attempt v.reply at));
  lowers = vote_lowers (further_steps (length a.attempt.clashes));
  ends = λ k. k;
  paces = rw v.attempt (omega arith);
  waits = tt;
  asked = λ told. tt;
  stands = stands_voted {E = E} {R = R} {S = S} eval old new w (Slot.Computed a) p carries v.none (v.held.0, v.held.1, v.held.2, v.held.3) (voted_change eval old new a x d p carries ready stands v.attempt v.reply);
  moves = λ told.
      let settles : Settles old (idle new) = v.settles told in
      after eval w now old (idle new) new (Slot.Computed a) (Slot.Pending p) (StepLine.Voted t) settles
      (voted_moves eval w now new a x d p t (settles_none old (idle new) settles) ready (ready_change eval old a x d ready stands) (v.free told) v.attempt v.reply (v.tid told) (v.out told) at);
}

pub busy : {E R S : Type 0} (eval : Eval R) (w now : ℕ) (old new : StoreView) (a b : ActiveView R) (x : Reply) (d : Draft) (v : ℕ) → Carries old new → new.out ≡ old.out → ComputedStands eval old a → a.ready ≡ Some (x, d) → b ≡ a → IsHeldBy old v → IsRuled old new a.attempt d (VoteRefusal.Busy v)
    → Advances {E = E} {R = R} {S = S} eval w now old new (Slot.Computed a) (Slot.Computed b) (StepLine.Busy v)
busy {E} {R} {S} eval w now old new a b x d v carries out stands ready is held ruled = record {
  passes = (a, refl, ap (λ (k : ActiveView R). (let slot : Slot E R S = Slot.Computed k in slot)) is);
  lowers = ap (λ (k : ActiveView R). further_steps (length k.attempt.clashes) + 2) is;
  ends = λ k. k;
  paces = tt;
  waits = held;
  asked = λ told. tt;
  stands = stands_quiet {E = E} {R = R} {S = S} eval old new w (Slot.Computed a) (Slot.Computed b) carries out (λ k. k)
      (subst (λ (k : ActiveView R). ComputedStands eval new k) (sym is) (slot_over {E = E} {R = R} {S = S} eval old new w (Slot.Computed a) carries out stands));
  moves = λ told.
      let r = ruled told in
      after eval w now old new new (Slot.Computed a) (Slot.Computed b) (StepLine.Busy v) r.0 (busy_moves eval w now new a b x d v (settles_none old new r.0) ready is r.1);
}

pub conflicting : {E R S : Type 0} (eval : Eval R) (w now : ℕ) (old new : StoreView) (a : ActiveView R) (f : FreshView R) (x : Reply) (d : Draft) (c : Clash) → Carries old new → new.out ≡ old.out → a.ready ≡ Some (x, d)
    → length a.attempt.clashes < 3 → f.request ≡ a.attempt.request → clashes_of f.conflicts ≡ a.attempt.clashes ++ c ∷ [] → IsRuled old new a.attempt d (VoteRefusal.Conflict c)
    → Advances {E = E} {R = R} {S = S} eval w now old new (Slot.Computed a) (Slot.Fresh f) (StepLine.Conflict c)
conflicting {E} {R} {S} eval w now old new a f x d c carries out ready few request clashes ruled =
    let one : length (clashes_of f.conflicts) ≡ length a.attempt.clashes + 1 = ap length clashes ∙ length-append a.attempt.clashes (c ∷ []) in
    record {
      passes = (a, f, refl, few, request, clashes, refl);
      lowers = conflict_lowers (length a.attempt.clashes) (length (clashes_of f.conflicts)) one few;
      ends = λ k. k;
      paces = tt;
      waits = tt;
      asked = λ told. tt;
      stands = stands_quiet {E = E} {R = R} {S = S} eval old new w (Slot.Computed a) (Slot.Fresh f) carries out (λ k. k) tt;
      moves = λ told.
          let r = ruled told in
          after eval w now old new new (Slot.Computed a) (Slot.Fresh f) (StepLine.Conflict c) r.0 (conflict_moves eval w now new a f x d c (settles_none old new r.0) ready r.1 few request clashes);
    }

pub given_up : {E R S : Type 0} (eval : Eval R) (w now : ℕ) (old new : StoreView) (a : ActiveView R) (x : Reply) (d : Draft) (cs : List Clash) (c : Clash) → Carries old new → new.out ≡ old.out → a.ready ≡ Some (x, d)
    → length a.attempt.clashes ≡ 3 → cs ≡ a.attempt.clashes ++ c ∷ [] → IsRuled old new a.attempt d (VoteRefusal.Conflict c)
    → Advances {E = E} {R = R} {S = S} eval w now old new (Slot.Computed a) Slot.Idle (StepLine.GivenUp cs)
given_up {E} {R} {S} eval w now old new a x d cs c carries out ready three is ruled =
    troubled {E = E} {R = R} {S = S} eval w now old new (Slot.Computed a) (StepLine.GivenUp cs) carries out (λ k. k) (a, c, refl, three, is, refl) (ends_lower (further_steps (length a.attempt.clashes))) (λ k. k) tt tt (λ told. tt)
    (λ told.
    let r = ruled told in
    after eval w now old new new (Slot.Computed a) Slot.Idle (StepLine.GivenUp cs) r.0 (given_up_moves eval w now new a x d cs c (settles_none old new r.0) ready r.1 three is))

pub spends : {E R S : Type 0} (eval : Eval R) (w now : ℕ) (old new : StoreView) (a : ActiveView R) (x : Reply) (d : Draft) (k : Spent) → Carries old new → new.out ≡ old.out → a.ready ≡ Some (x, d) → IsRuled old new a.attempt d (VoteRefusal.Spent k)
    → Advances {E = E} {R = R} {S = S} eval w now old new (Slot.Computed a) Slot.Idle (StepLine.Spent k)
spends {E} {R} {S} eval w now old new a x d k carries out ready ruled =
    troubled {E = E} {R = R} {S = S} eval w now old new (Slot.Computed a) (StepLine.Spent k) carries out (λ c. c) (a, refl, refl) (ends_lower (further_steps (length a.attempt.clashes))) (λ c. c) tt tt (λ told. tt)
    (λ told.
    let r = ruled told in
    after eval w now old new new (Slot.Computed a) Slot.Idle (StepLine.Spent k) r.0 (spent_moves eval w now new a x d k (settles_none old new r.0) ready r.1))

-- ---- a finish

pub committed : {E R S : Type 0} (eval : Eval R) (w now : ℕ) (old new : StoreView) (p : PendingView R) (x : Reply) (t : ℕ) → Carries old new → PendingStands old w p → ChangeStands eval old p → old.undecided ≡ None → new.out ≡ None → (IsTold old → new ≡ finished old old.out new.disk) → x ≡ p.reply → t ≡ p.tid
    → Advances {E = E} {R = R} {S = S} eval w now old new (Slot.Pending p) Slot.Idle (StepLine.Commit x t)
committed {E} {R} {S} eval w now old new p x t carries holds change none gone is reply at = record {
  passes = (p, refl, reply, at, refl);
  lowers = lit< tt;
  ends = (refl, (reply, at));
  paces = omega arith;
  waits = tt;
  asked = change.2;
  stands = stands_ended {E = E} {R = R} {S = S} eval old new w p carries holds gone;
  moves = λ told. commit_moves eval w now old new p x t holds none (is told) reply at;
}

pub unknown : {E R S : Type 0} (eval : Eval R) (w now : ℕ) (old new : StoreView) (p : PendingView R) (t : ℕ) → Carries old new → PendingStands old w p → new ≡ unsettled old new.disk → t ≡ p.tid
    → Advances {E = E} {R = R} {S = S} eval w now old new (Slot.Pending p) Slot.Idle (StepLine.Unknown t)
unknown {E} {R} {S} eval w now old new p t carries holds is at = record {
  passes = (p, refl, at, refl);
  lowers = lit< tt;
  ends = (refl, at);
  paces = omega arith;
  waits = tt;
  asked = λ told. tt;
  stands = stands_ended {E = E} {R = R} {S = S} eval old new w p carries holds (ap (λ (s : StoreView). s.out) is);
  moves = λ told. unknown_moves eval w now old new p t holds is at;
}

-- ---- no request

pub idle_stays : {E R S : Type 0} (eval : Eval R) (w now : ℕ) (st : StoreView) → Advances {E = E} {R = R} {S = S} eval w now st st Slot.Idle Slot.Idle StepLine.Idle
idle_stays {E} {R} {S} eval w now st = record {
  passes = (refl, refl);
  lowers = (refl, refl);
  ends = λ k. k;
  paces = tt;
  waits = tt;
  asked = λ told. tt;
  stands = λ sl here all. subst (λ k. CoreStands eval st k) (sym (set_same sl w Slot.Idle here)) all;
  moves = λ told. idle_moves eval w now st;
}
