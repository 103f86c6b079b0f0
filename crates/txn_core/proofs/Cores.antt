-- What a step and a given request make of all slots.
use Rattle.std.proofs.Common.{◌≡◌, ℕ, List, [], Option, Some, refl, sym, ap, ◌∙◌, subst, slice_get, slice_set}
use Rattle.evaluator.specs.Exec.{Eval}
use Rattle.schedule.specs.declared.item.Item2.{Item2}
use Rattle.schedule.specs.Follows.{Follows}
use Rattle.schedule.specs.Moments.{Terms, clocked}
use Rattle.schedule.specs.Stepping.{Steps}
use Rattle.fs_store.specs.Stores.{IsTold, Out, StoreView}
use Rattle.connection.specs.declared.conflicts.Conflicts.{Conflicts}
use Rattle.connection.specs.States.{PendingView}
use Rattle.connection.specs.Votes.{IsHeldBy}
use Rattle.txn_core.specs.declared.slot.Slot.{Slot}
use Rattle.txn_core.specs.declared.step_line.StepLine.{StepLine}
use Rattle.txn_core.specs.Cores.{HasVoted, MayBe}
use Rattle.txn_core.specs.Counting.{EndsVote, IsFinishLine, IsOutcome, Lowers, Paces, left, left_at, left_of}
use Rattle.txn_core.specs.Passing.{Passes}
use Rattle.txn_core.specs.StepLines.{step_lines}
use Rattle.txn_core.specs.Slots.{doing_of, moment_of, CoreStands, Advances, RestsOn, Waits}
use Rattle.txn_core.proofs.Lists.{get_map, get_set_same}
use Rattle.txn_core.proofs.QuietArms.{HoldsNone, holds_none, moment_quiet, stands_quiet}
use Rattle.txn_core.proofs.Steadiness.{carries_self, possible_same}

pub step_follows : {E R S : Type 0} (eval : Eval R) (w now : ℕ) (old new : StoreView) (slot next : Slot E R S) (line : StepLine) (sl : List (Slot E R S)) → Advances eval w now old new slot next line → slice_get sl w ≡ Some slot → CoreStands eval old sl
    → IsTold old → (terms : Terms R) → terms.eval ≡ eval → terms.limit ≡ old.limit
    → Follows terms (MayBe eval (record { store = old; slots = sl })) now (MayBe eval (record { store = new; slots = slice_set sl w next })) now (Item2.Step w) (step_lines terms.answer w line)
step_follows eval w now old new slot next line sl moves here all told terms same limit = λ m may.
    let q = moves.moves told sl here all.voter terms same limit may.0 may.1 in
    (moment_of eval q.0 sl, (q.0, q.1, refl), subst (λ k. Steps terms (clocked (moment_of eval q.0 sl) now) w (step_lines terms.answer w line) (clocked k now)) (sym may.2) q.2)

pub given_stands : {E R S : Type 0} (eval : Eval R) (w : ℕ) (st : StoreView) (sl : List (Slot E R S)) (q : R) → slice_get sl w ≡ Some Slot.Idle → CoreStands eval st sl → CoreStands eval st (slice_set sl w (Slot.Fresh (record { request = q; conflicts = Conflicts.None })))
given_stands eval w st sl q here all = stands_quiet eval st st w Slot.Idle _ (carries_self st) refl (λ c. c) tt sl here all

pub given_follows : {E R S : Type 0} (eval : Eval R) (w : ℕ) (st : StoreView) (sl : List (Slot E R S)) (q : R) → slice_get sl w ≡ Some Slot.Idle → CoreStands eval st sl → (terms : Terms R) (now : ℕ) (bytes : List ℕ) → terms.takes bytes ≡ Some q
    → Follows terms (MayBe eval (record { store = st; slots = sl })) now (MayBe eval (record { store = st; slots = slice_set sl w (Slot.Fresh (record { request = q; conflicts = Conflicts.None })) })) now (Item2.Request w bytes) []
given_follows eval w st sl q here all terms now bytes takes = λ m may.
    let free = holds_none st sl w Slot.Idle all.voter here (λ c. c) in
    let may_free : HoldsNone may.0 w = (λ o e. free o (sym (possible_same st may.0 may.1).0 ∙ e)) in (
      moment_of eval may.0 sl,
      (may.0, may.1, refl),
      (
        q,
        takes,
        get_map (doing_of eval) sl w Slot.Idle here,
        refl,
        ap (λ k. clocked k now) may.2 ∙ sym (moment_quiet eval may.0 sl w now (Slot.Fresh (record { request = q; conflicts = Conflicts.None })) may_free),
      ),
    )

-- the number of the worker is lowered
pub step_lowers : {E R S : Type 0} (eval : Eval R) (w now : ℕ) (old new : StoreView) (slot next : Slot E R S) (line : StepLine) (sl : List (Slot E R S)) → Advances eval w now old new slot next line → slice_get sl w ≡ Some slot → Lowers line (left sl w) (left (slice_set sl w next) w)
step_lowers {E} {R} {S} eval w now old new slot next line sl moves here =
    subst (λ (k : Option (Slot E R S)). Lowers line (left_at k) (left (slice_set sl w next) w)) (sym here)
    (subst (λ (k : Option (Slot E R S)). Lowers line (left_of slot) (left_at k)) (sym (get_set_same sl w next slot here)) moves.lowers)

pub some_same : {X : Type 0} (x y : X) → Some x ≡ Some y → x ≡ y
some_same x y e = cc

-- the worker passes as the answer says
pub step_passes : {E R S : Type 0} (eval : Eval R) (w now : ℕ) (old new : StoreView) (slot next : Slot E R S) (line : StepLine) (sl : List (Slot E R S)) → Advances eval w now old new slot next line → slice_get sl w ≡ Some slot
    → (a b : Slot E R S) → slice_get sl w ≡ Some a → slice_get (slice_set sl w next) w ≡ Some b → Passes eval line a b
step_passes {E} {R} {S} eval w now old new slot next line sl moves here a b was is =
    let first : slot ≡ a = some_same slot a (sym here ∙ was) in
    let second : next ≡ b = some_same next b (sym (get_set_same sl w next slot here) ∙ is) in
    subst (λ (x : Slot E R S). Passes eval line x b) first (subst (λ (y : Slot E R S). Passes eval line slot y) second moves.passes)

-- the step is one more of its attempt
pub step_paces : {E R S : Type 0} (eval : Eval R) (w now : ℕ) (old new : StoreView) (slot next : Slot E R S) (line : StepLine) (sl : List (Slot E R S)) → Advances eval w now old new slot next line → slice_get sl w ≡ Some slot
    → (a b : Slot E R S) → slice_get sl w ≡ Some a → slice_get (slice_set sl w next) w ≡ Some b → Paces line a b
step_paces {E} {R} {S} eval w now old new slot next line sl moves here a b was is =
    let first : slot ≡ a = some_same slot a (sym here ∙ was) in
    let second : next ≡ b = some_same next b (sym (get_set_same sl w next slot here) ∙ is) in
    subst (λ (x : Slot E R S). Paces line x b) first (subst (λ (y : Slot E R S). Paces line slot y) second moves.paces)

-- a step of a worker that has voted ends its request
pub step_ends : {E R S : Type 0} (eval : Eval R) (w now : ℕ) (old new : StoreView) (slot next : Slot E R S) (line : StepLine) (sl : List (Slot E R S)) → Advances eval w now old new slot next line → slice_get sl w ≡ Some slot
    → (p : PendingView R) → slice_get sl w ≡ Some (Slot.Pending p) → (slice_get (slice_set sl w next) w ≡ Some Slot.Idle) × IsOutcome p line
step_ends {E} {R} {S} eval w now old new slot next line sl moves here p voted =
    let same : slot ≡ Slot.Pending p = some_same slot (Slot.Pending p) (sym here ∙ voted) in
    let ends : (next ≡ Slot.Idle) × IsOutcome p line = subst (λ (s : Slot E R S). EndsVote line s next) same moves.ends in
    (get_set_same sl w next slot here ∙ ap (λ (s : Slot E R S). Some s) ends.0, ends.1)

-- no other step finishes
pub step_finishes : {E R S : Type 0} (eval : Eval R) (w now : ℕ) (old new : StoreView) (slot next : Slot E R S) (line : StepLine) (sl : List (Slot E R S)) → Advances eval w now old new slot next line → slice_get sl w ≡ Some slot
    → IsFinishLine line → (p : PendingView R) × (slice_get sl w ≡ Some (Slot.Pending p))
step_finishes {E} {R} {S} eval w now old new slot next line sl moves here finish = (let p = pending_of slot next line moves.ends finish in (p.0, here ∙ ap (λ (s : Slot E R S). Some s) p.1))
  where
    pending_of : (s n : Slot E R S) (l : StepLine) → EndsVote l s n → IsFinishLine l → (p : PendingView R) × (s ≡ Slot.Pending p)
    pending_of Slot.Idle n l never finishes = absurd (never finishes)
    pending_of (Slot.Fresh f) n l never finishes = absurd (never finishes)
    pending_of (Slot.Active a) n l never finishes = absurd (never finishes)
    pending_of (Slot.Computed a) n l never finishes = absurd (never finishes)
    pending_of (Slot.Pending p) n l ends finishes = (p, refl)

-- who waits, waits for a worker whose vote is out
pub step_waits : {E R S : Type 0} (eval : Eval R) (w now : ℕ) (old new : StoreView) (slot next : Slot E R S) (line : StepLine) (sl : List (Slot E R S)) → Advances eval w now old new slot next line → CoreStands eval old sl
    → (v : ℕ) → line ≡ StepLine.Busy v → (p : PendingView R) × (slice_get sl v ≡ Some (Slot.Pending p))
step_waits {E} {R} {S} eval w now old new slot next line sl moves all v busy =
    let held : IsHeldBy old v = subst (Waits old) busy moves.waits in
    let voter = all.voter held.0 held.1 in
    (voter.0, sym (ap (λ k. slice_get sl k) held.2) ∙ voter.1)

-- a reply rests on what its evaluation asks for
pub step_asked : {E R S : Type 0} (eval : Eval R) (w now : ℕ) (old new : StoreView) (slot next : Slot E R S) (line : StepLine) (sl : List (Slot E R S)) → Advances eval w now old new slot next line → slice_get sl w ≡ Some slot
    → IsTold old → (a : Slot E R S) → slice_get sl w ≡ Some a → RestsOn eval old line a
step_asked {E} {R} {S} eval w now old new slot next line sl moves here told a was =
    subst (RestsOn eval old line) (some_same slot a (sym here ∙ was)) (moves.asked told)

-- ---- the vote that is out

pub voted_holds : {E R S : Type 0} (eval : Eval R) (store : StoreView) (sl : List (Slot E R S)) → CoreStands eval store sl → (w : ℕ) → HasVoted (record { store = store; slots = sl }) w → IsHeldBy store w
voted_holds eval store sl all w (p, here) = (let stands = (all.each w (Slot.Pending p) here).0 in (stands.0, stands.1, stands.2))

pub held_voted : {E R S : Type 0} (eval : Eval R) (store : StoreView) (sl : List (Slot E R S)) → CoreStands eval store sl → (w : ℕ) → IsHeldBy store w → HasVoted (record { store = store; slots = sl }) w
held_voted eval store sl all w (o, out, holder) = (let voter = all.voter o out in (voter.0, sym (ap (λ k. slice_get sl k) holder) ∙ voter.1))

-- the store has one vote at most, so one worker at most has voted
pub one_voter : {E R S : Type 0} (eval : Eval R) (store : StoreView) (sl : List (Slot E R S)) → CoreStands eval store sl → (v w : ℕ) → HasVoted (record { store = store; slots = sl }) v → HasVoted (record { store = store; slots = sl }) w → v ≡ w
one_voter eval store sl all v w first second =
    let a = voted_holds eval store sl all v first in
    let b = voted_holds eval store sl all w second in
    sym a.2 ∙ ap (λ (o : Out). o.holder) (some_same a.0 b.0 (sym a.1 ∙ b.1)) ∙ b.2
