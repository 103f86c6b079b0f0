-- A request that runs alone: nothing is armed, no other worker has a request, and each step brings its reply nearer.
use Rattle.std.proofs.Common.{◌≡◌, ◌≢◌, ℕ, zero, suc, ◌+◌, ◌<◌, Bool, true, false, ◌||◌, List, [], ◌∷◌, ◌++◌, length, map, replicate, slice_get, Option, None, Some, refl, sym, ap, ◌∙◌, subst, arith, inl, inr, ◌⊎◌}
use Rattle.std.specs.List.{list_any}
use Rattle.zbase.specs.Faults.{Arms, Counter, Counts, IsFaultless, Spends}
use Rattle.evaluator.specs.declared.draft.Draft.{Draft}
use Rattle.evaluator.specs.declared.reply.Reply.{Reply}
use Rattle.evaluator.specs.Exec.{Eval}
use Rattle.schedule.specs.Moments.{Doing, Free}
use Rattle.schedule.specs.Stepping.{has_request}
use Rattle.txn_core.specs.declared.slot.Slot.{Slot}
use Rattle.txn_core.specs.declared.step_line.StepLine.{StepLine}
use Rattle.txn_core.specs.Counting.{Lowers}
use Rattle.txn_core.specs.Cores.{CoreView, IsIdle}
use Rattle.txn_core.specs.Passing.{Passes}
use Rattle.connection.specs.States.{PendingView}
use Rattle.txn_core.specs.Slots.{computed_of, doing_of}
use Rattle.txn_core.specs.StepLines.{IsFaultLine}
use Rattle.replay.proofs.Closing.{no_fault}

-- ---- slots

pub some_slot : {A : Type 0} (xs : List A) (i : ℕ) → i < length xs → (x : A) × (slice_get xs i ≡ Some x)
some_slot [] i lt = absurd (omega (arith, lt))
some_slot (x ∷ xs) zero lt = (x, refl)
some_slot (x ∷ xs) (suc i) lt = some_slot xs i (omega (arith, lt))

pub slot_below : {A : Type 0} (xs : List A) (i : ℕ) (x : A) → slice_get xs i ≡ Some x → i < length xs
slot_below [] i x e = absurd cc
slot_below (y ∷ xs) zero x e = omega arith
slot_below (y ∷ xs) (suc i) x e = (let below = slot_below xs i x e in omega (arith, below))

-- no idle worker has a request
pub none_busy : {E R S : Type 0} (eval : Eval R) (slots : List (Slot E R S)) → ((v : ℕ) → v < length slots → slice_get slots v ≡ Some Slot.Idle) → list_any (λ (d : Doing R). has_request (Some d)) (map (doing_of eval) slots) ≡ false
none_busy eval [] idle = refl
none_busy {E} {R} {S} eval (s ∷ slots) idle =
    let first : s ≡ Slot.Idle = (let e : Some s ≡ Some Slot.Idle = idle 0 (omega arith) in cc) in
    let rest = none_busy eval slots (λ v lt. idle (suc v) (omega (arith, lt))) in
    subst (λ (k : Slot E R S). (has_request (Some (doing_of eval k)) || list_any (λ (d : Doing R). has_request (Some d)) (map (doing_of eval) slots)) ≡ false) (sym first) rest

-- a worker of a core at rest is idle
free_idle : {E R S : Type 0} (eval : Eval R) (s : Slot E R S) → doing_of eval s ≡ Free → s ≡ Slot.Idle
free_idle eval Slot.Idle e = refl
free_idle eval (Slot.Fresh f) e = absurd cc
free_idle eval (Slot.Active a) e = absurd cc
free_idle eval (Slot.Computed a) e = absurd (go a.ready e)
  where
    go : (r : Option (Reply × Draft)) → computed_of a.attempt r ≡ Free → ⊥
    go None f = cc
    go (Some p) f = cc
free_idle eval (Slot.Pending p) e = absurd cc

pub rest_idle : {E R S : Type 0} (eval : Eval R) (n v : ℕ) (slots : List (Slot E R S)) → map (doing_of eval) slots ≡ replicate n Free → v < n → slice_get slots v ≡ Some Slot.Idle
rest_idle eval zero v slots e lt = absurd (omega (arith, lt))
rest_idle eval (suc n) v [] e lt = absurd cc
rest_idle {E} {R} {S} eval (suc n) zero (s ∷ slots) e lt = (let first : doing_of eval s ≡ Free = cc in ap (λ (k : Slot E R S). Some k) (free_idle eval s first))
rest_idle eval (suc n) (suc v) (s ∷ slots) e lt =
    let tail : map (doing_of eval) slots ≡ replicate n Free = cc in
    let less : v < n = omega (arith, lt) in
    rest_idle eval n v slots tail less

pub is_true : (b : Bool) → (b ≡ false → ⊥) → b ≡ true
is_true true not = refl
is_true false not = absurd (not refl)

same_or_not : (i j : ℕ) → (i ≡ j) ⊎ (i ≢ j)
same_or_not zero zero = inl refl
same_or_not zero (suc j) = inr (λ e. omega (arith, e))
same_or_not (suc i) zero = inr (λ e. omega (arith, e))
same_or_not (suc i) (suc j) = elim (same_or_not i j) [ inl e ↦ inl (ap suc e) | inr d ↦ inr (λ e. d (omega (arith, e))) ]

-- where one worker is idle and no other has a request, all are
pub all_idle : {E R S : Type 0} (core : CoreView E R S) (w : ℕ) → IsIdle core w → ((v : ℕ) → v < 16 → v ≢ w → IsIdle core v) → length core.slots ≡ 16 → (v : ℕ) → v < length core.slots → slice_get core.slots v ≡ Some Slot.Idle
all_idle core w idle alone long v lt = elim (same_or_not v w) [
  | inl e ↦ subst (λ (i : ℕ). IsIdle core i) (sym e) idle
  | inr d ↦ alone v (omega (arith, lt, long)) d
]

-- ---- a step

-- where nothing is armed, no step fails
pub no_fault_line : (old new : Counter) (line : StepLine) → (old.arms.queue ≡ [] → old.arms.stopped ≡ false → IsFaultless old) → (old.arms.queue ≡ []) × (old.arms.stopped ≡ false) → Counts old new (IsFaultLine line) → IsFaultLine line → ⊥
no_fault_line old new line calm unarmed counts fault = no_fault old new (IsFaultLine line) (calm unarmed.0 unarmed.1) counts fault

pub still_unarmed : (old new : Arms) → Spends old new → (old.queue ≡ []) × (old.stopped ≡ false) → (new.queue ≡ []) × (new.stopped ≡ false)
still_unarmed old new s unarmed = (s.queue ∙ unarmed.0, s.stopped ∙ unarmed.1)

-- a worker with a request has no idle step
pub step_not_idle : {E R S : Type 0} (eval : Eval R) (old new : CoreView E R S) (w : ℕ) (line : StepLine) → w < length old.slots → length new.slots ≡ length old.slots → ((a b : Slot E R S) → slice_get old.slots w ≡ Some a → slice_get new.slots w ≡ Some b → Passes eval line a b)
    → (IsIdle old w → ⊥) → line ≡ StepLine.Idle → ⊥
step_not_idle {E} {R} {S} eval old new w line below long passes busy is =
    let a = some_slot old.slots w below in
    let b = some_slot new.slots w (omega (arith, below, long)) in
    let p : Passes eval StepLine.Idle a.0 b.0 = subst (λ (l : StepLine). Passes eval l a.0 b.0) is (passes a.0 b.0 a.1 b.1) in
    busy (a.1 ∙ ap (λ (k : Slot E R S). Some k) p.0)

-- nor waits it for another's vote
pub step_not_busy : {E R S : Type 0} (eval : Eval R) (old new : CoreView E R S) (w v : ℕ) (line : StepLine) → w < length old.slots → length new.slots ≡ length old.slots → ((a b : Slot E R S) → slice_get old.slots w ≡ Some a → slice_get new.slots w ≡ Some b → Passes eval line a b)
    → ((u : ℕ) → u < length old.slots → u ≢ w → IsIdle old u) → ((u : ℕ) → line ≡ StepLine.Busy u → (p : PendingView R) × (slice_get old.slots u ≡ Some (Slot.Pending p))) → line ≡ StepLine.Busy v → ⊥
step_not_busy {E} {R} {S} eval old new w v line below long passes alone waits is = go (same_or_not v w)
  where
    held : (p : PendingView R) × (slice_get old.slots v ≡ Some (Slot.Pending p))
    held = waits v is

    go : (v ≡ w) ⊎ (v ≢ w) → ⊥
    go (inl e) =
        let a = some_slot old.slots w below in
        let b = some_slot new.slots w (omega (arith, below, long)) in
        let p : Passes eval (StepLine.Busy v) a.0 b.0 = subst (λ (l : StepLine). Passes eval l a.0 b.0) is (passes a.0 b.0 a.1 b.1) in
        let here : slice_get old.slots w ≡ Some (Slot.Pending held.0) = subst (λ (i : ℕ). slice_get old.slots i ≡ Some (Slot.Pending held.0)) e held.1 in
        let bad : Some (Slot.Computed p.0) ≡ Some (Slot.Pending held.0) = sym (ap (λ (k : Slot E R S). Some k) p.1) ∙ sym a.1 ∙ here in
        absurd cc
    go (inr d) =
        let idle : slice_get old.slots v ≡ Some Slot.Idle = alone v (slot_below old.slots v (Slot.Pending held.0) held.1) d in
        let bad : Some Slot.Idle ≡ Some (Slot.Pending held.0) = sym idle ∙ held.1 in
        absurd cc

-- so it lowers how many steps are left
pub lowers_so : (line : StepLine) (old new : ℕ) → (line ≡ StepLine.Idle → ⊥) → ((v : ℕ) → line ≡ StepLine.Busy v → ⊥) → Lowers line old new → new < old
lowers_so StepLine.Idle old new idle busy l = absurd (idle refl)
lowers_so (StepLine.Busy v) old new idle busy l = absurd (busy v refl)
lowers_so (StepLine.Begun t) old new idle busy l = l
lowers_so (StepLine.Fetched ask) old new idle busy l = l
lowers_so StepLine.Computed old new idle busy l = l
lowers_so (StepLine.Voted t) old new idle busy l = l
lowers_so (StepLine.Conflict c) old new idle busy l = l
lowers_so (StepLine.GivenUp cs) old new idle busy l = l
lowers_so (StepLine.Spent s) old new idle busy l = l
lowers_so StepLine.Memory old new idle busy l = l
lowers_so StepLine.DiskFault old new idle busy l = l
lowers_so (StepLine.Unknown t) old new idle busy l = l
lowers_so (StepLine.Read x t) old new idle busy l = l
lowers_so (StepLine.Commit x t) old new idle busy l = l

-- one step more
pub replicate_more : {A : Type 0} (n : ℕ) (x : A) → replicate n x ++ x ∷ [] ≡ replicate (suc n) x
replicate_more zero x = refl
replicate_more (suc n) x = ap (λ xs. x ∷ xs) (replicate_more n x)
