-- A turn, worker by worker.
use Rattle.std.proofs.Common.{◌≡◌, ◌≢◌, ℕ, zero, suc, ◌<◌, Bool, true, false, List, [], ◌∷◌, ◌++◌, map, length, slice_get, slice_set, append_assoc, append-nil, Option, Some, None, refl, sym, ap, ◌∙◌, subst, arith, inl, inr, if◌then◌else◌}
use Rattle.std.specs.Prelude.{◌⊎◌}
use Rattle.std.proofs.lemmas.List.{map-append}
use Rattle.evaluator.specs.Exec.{Eval}
use Rattle.http_out.specs.Replies.{answer}
use Rattle.schedule.specs.declared.item.Item2.{Item2}
use Rattle.schedule.specs.Courses.{worker_of}
use Rattle.connection.specs.States.{ActiveView, FreshView, PendingView}
use Rattle.txn_core.specs.declared.slot.Slot.{Slot}
use Rattle.txn_core.specs.declared.step_line.StepLine.{StepLine}
use Rattle.txn_core.specs.Cores.{CoreView, HasVoted, IsIdle}
use Rattle.txn_core.specs.Counting.{left}
use Rattle.txn_core.specs.Passing.{Passes}
use Rattle.txn_core.specs.StepLines.{step_lines}
use Rattle.zserve.specs.Going.{Goes}
use Rattle.zserve.specs.Happened.{Happening, items}
use Rattle.txn_core.specs.Replying.{final}
use Rattle.zserve.specs.Sweeping.{Filed, Replied, Turned, Unanswered, Waits}
use Rattle.zserve.specs.Turns.{GotReply, has_reply, lines_in, reply_among, waiting}
use Rattle.http_clients.specs.Numbers.{Among, Distinct}
use Rattle.zserve.specs.Waiting.{Stepped, Wait, total}
use Rattle.zserve.proofs.Goings.{goes_none, goes_then}
use Rattle.zserve.proofs.Lists.{among_either, among_here, among_left, got_before, got_behind, among_with, among_without, distinct_without, reply_comes, reply_kept, same_list, total_falls}
use Rattle.zserve.proofs.StepFacts.{final_elsewhere, final_here, has_final, is_there}

-- ---- a worker's slot

slot_at : {X : Type 0} (xs : List X) (w : ℕ) → w < length xs → (x : X) × (slice_get xs w ≡ Some x)
slot_at [] w less = absurd (omega (arith, less))
slot_at (x ∷ xs) zero less = (x, refl)
slot_at (x ∷ xs) (suc w) less = slot_at xs w (omega (arith, less))

-- where the step printed a reply, the worker has no request any more
ends_idle : {E R S : Type 0} (eval : Eval R) (line : StepLine) (a b : Slot E R S) (reply : List ℕ) → Passes eval line a b → final line ≡ Some reply → b ≡ Slot.Idle
ends_idle eval (StepLine.GivenUp cs) a b r p e = p.5
ends_idle eval (StepLine.Spent s) a b r p e = p.2
ends_idle eval StepLine.Memory a b r p e = p.1
ends_idle eval StepLine.DiskFault a b r p e = p.1
ends_idle eval (StepLine.Unknown t) a b r p e = p.3
ends_idle eval (StepLine.Read x t) a b r p e = p.4
ends_idle eval (StepLine.Commit x t) a b r p e = p.4
ends_idle eval StepLine.Idle a b r p e = absurd cc
ends_idle eval (StepLine.Begun t) a b r p e = absurd cc
ends_idle eval (StepLine.Fetched ask) a b r p e = absurd cc
ends_idle eval StepLine.Computed a b r p e = absurd cc
ends_idle eval (StepLine.Busy v) a b r p e = absurd cc
ends_idle eval (StepLine.Voted t) a b r p e = absurd cc
ends_idle eval (StepLine.Conflict c) a b r p e = absurd cc

fresh_not_idle : {E R S : Type 0} (f : FreshView R) (b : Slot E R S) → b ≡ Slot.Fresh f → b ≡ Slot.Idle → ⊥
fresh_not_idle f b e i = cc

active_not_idle : {E R S : Type 0} (a : ActiveView R) (b : Slot E R S) → b ≡ Slot.Active a → b ≡ Slot.Idle → ⊥
active_not_idle a b e i = cc

computed_not_idle : {E R S : Type 0} (a : ActiveView R) (b : Slot E R S) → b ≡ Slot.Computed a → b ≡ Slot.Idle → ⊥
computed_not_idle a b e i = cc

pending_not_idle : {E R S : Type 0} (p : PendingView R) (b : Slot E R S) → b ≡ Slot.Pending p → b ≡ Slot.Idle → ⊥
pending_not_idle p b e i = cc

-- where it printed none, a worker that had a request has one still
goes_on : {E R S : Type 0} (eval : Eval R) (line : StepLine) (a b : Slot E R S) → Passes eval line a b → final line ≡ None → (a ≡ Slot.Idle → ⊥) → b ≡ Slot.Idle → ⊥
goes_on eval StepLine.Idle a b p e some = absurd (some p.0)
goes_on eval (StepLine.Begun t) a b p e some = active_not_idle _ b p.2
goes_on eval (StepLine.Fetched ask) a b p e some = active_not_idle _ b p.7
goes_on eval StepLine.Computed a b p e some = computed_not_idle _ b p.5
goes_on eval (StepLine.Busy v) a b p e some = computed_not_idle _ b p.2
goes_on eval (StepLine.Voted t) a b p e some = pending_not_idle _ b p.5
goes_on eval (StepLine.Conflict c) a b p e some = fresh_not_idle _ b p.6
goes_on eval (StepLine.GivenUp cs) a b p e some = absurd cc
goes_on eval (StepLine.Spent s) a b p e some = absurd cc
goes_on eval StepLine.Memory a b p e some = absurd cc
goes_on eval StepLine.DiskFault a b p e some = absurd cc
goes_on eval (StepLine.Unknown t) a b p e some = absurd cc
goes_on eval (StepLine.Read x t) a b p e some = absurd cc
goes_on eval (StepLine.Commit x t) a b p e some = absurd cc

-- ---- who waits

abbrev OldWait : {E R S : Type 0} → CoreView E R S → List ℕ → List ℕ → ℕ → Type 0
OldWait core still rest w = Waits core (still ++ w ∷ rest)

had_request : {E R S : Type 0} (core : CoreView E R S) (still rest : List ℕ) (w : ℕ) (a : Slot E R S) → OldWait core still rest w → slice_get core.slots w ≡ Some a → a ≡ Slot.Idle → ⊥
had_request core still rest w a waits is idle = (waits.wait w (waits.workers w (among_here w still rest))).0 (among_here w still rest) (is ∙ ap (λ s. Some s) idle)

same_some : {X : Type 0} (x y : X) → Some x ≡ Some y → x ≡ y
same_some x y e = cc

others_wait : {E R S : Type 0} (takes : List ℕ → Option R) (eval : Eval R) (old new : CoreView E R S) (w now : ℕ) (line : StepLine) (v : ℕ) → Stepped takes eval old new w now line → v ≢ w → (IsIdle new v → IsIdle old v) × (IsIdle old v → IsIdle new v)
others_wait takes eval old new w now line v s differs = (λ i. sym (s.others v differs) ∙ i, λ i. s.others v differs ∙ i)

same_or_not : (v w : ℕ) → (v ≡ w) ⊎ (v ≢ w)
same_or_not zero zero = inl refl
same_or_not zero (suc w) = inr (λ e. omega (arith, e))
same_or_not (suc v) zero = inr (λ e. omega (arith, e))
same_or_not (suc v) (suc w) = elim (same_or_not v w) [ inl e ↦ inl (ap suc e) | inr d ↦ inr (λ e. d (omega (arith, e))) ]

waits_on : {E R S : Type 0} (takes : List ℕ → Option R) (eval : Eval R) (old new : CoreView E R S) (w now : ℕ) (line : StepLine) (still rest : List ℕ) → Stepped takes eval old new w now line → OldWait old still rest w → final line ≡ None → Waits new ((still ++ w ∷ []) ++ rest)
waits_on {E} {R} {S} takes eval old new w now line still rest s waits none = subst (Waits new) (sym (append_assoc still (w ∷ []) rest)) (record { wait = all; distinct = waits.distinct; workers = waits.workers })
  where
    below : w < 16
    below = waits.workers w (among_here w still rest)

    a : (x : Slot E R S) × (slice_get old.slots w ≡ Some x)
    a = slot_at old.slots w (omega (arith, below, s.sixteen.0))

    b : (x : Slot E R S) × (slice_get new.slots w ≡ Some x)
    b = slot_at new.slots w (omega (arith, below, s.sixteen.1))

    busy : IsIdle new w → ⊥
    busy i = goes_on eval line a.0 b.0 (s.passes a.0 b.0 a.1 b.1) none (λ e. had_request old still rest w a.0 waits a.1 e) (same_some b.0 Slot.Idle (sym b.1 ∙ i))

    all : Wait new (still ++ w ∷ rest)
    all v less = elim (same_or_not v w) [
      | inl e ↦ (λ among. subst (λ k. IsIdle new k → ⊥) (sym e) busy, λ none_. absurd (none_ (subst (λ k. Among k (still ++ w ∷ rest)) (sym e) (among_here w still rest))))
      | inr d ↦ (λ among idle. (waits.wait v less).0 among ((others_wait takes eval old new w now line v s d).0 idle), λ none_. (others_wait takes eval old new w now line v s d).1 ((waits.wait v less).1 none_))
    ]

waits_less : {E R S : Type 0} (takes : List ℕ → Option R) (eval : Eval R) (old new : CoreView E R S) (w now : ℕ) (line : StepLine) (reply : List ℕ) (still rest : List ℕ) → Stepped takes eval old new w now line → OldWait old still rest w → final line ≡ Some reply → Waits new (still ++ rest)
waits_less {E} {R} {S} takes eval old new w now line reply still rest s waits some = record { wait = all; distinct = without.0; workers = λ v among. waits.workers v (among_with v w still rest among) }
  where
    without : Distinct (still ++ rest) × (Among w (still ++ rest) → ⊥)
    without = distinct_without w still rest waits.distinct

    below : w < 16
    below = waits.workers w (among_here w still rest)

    a : (x : Slot E R S) × (slice_get old.slots w ≡ Some x)
    a = slot_at old.slots w (omega (arith, below, s.sixteen.0))

    b : (x : Slot E R S) × (slice_get new.slots w ≡ Some x)
    b = slot_at new.slots w (omega (arith, below, s.sixteen.1))

    idle_now : IsIdle new w
    idle_now = b.1 ∙ ap (λ x. Some x) (ends_idle eval line a.0 b.0 reply (s.passes a.0 b.0 a.1 b.1) some)

    all : Wait new (still ++ rest)
    all v less = elim (same_or_not v w) [
      | inl e ↦ (λ among. absurd (without.1 (subst (λ k. Among k (still ++ rest)) e among)), λ none_. subst (IsIdle new) (sym e) idle_now)
      | inr d ↦ (λ among idle. (waits.wait v less).0 (among_with v w still rest among) ((others_wait takes eval old new w now line v s d).0 idle), λ none_. (others_wait takes eval old new w now line v s d).1 ((waits.wait v less).1 (λ among. none_ (among_without v w still rest d among))))
    ]

-- ---- fewer steps are left

-- the worker waits for the vote of another
abbrev IsStuck : {E R S : Type 0} → CoreView E R S → ℕ → Type 0
IsStuck core w = (HasVoted core w → ⊥) × ((v : ℕ) × HasVoted core v)

abbrev pub Falls : {E R S : Type 0} → CoreView E R S → CoreView E R S → List ℕ → Type 0
Falls first now seen = (total now.slots < total first.slots) ⊎ ((now.slots ≡ first.slots) × ((w : ℕ) → Among w seen → IsStuck first w))

-- the step lowered the worker's number, or the worker waits for a vote and nothing changed
lowered_or_stuck : {E R S : Type 0} (takes : List ℕ → Option R) (eval : Eval R) (old new : CoreView E R S) (w now : ℕ) (line : StepLine) → Stepped takes eval old new w now line → w < 16 → (IsIdle old w → ⊥) → (left new.slots w < left old.slots w) ⊎ ((new.slots ≡ old.slots) × IsStuck old w)
lowered_or_stuck {E} {R} {S} takes eval old new w now line s below some = go line s
  where
    a : (x : Slot E R S) × (slice_get old.slots w ≡ Some x)
    a = slot_at old.slots w (let k = s.sixteen.0 in omega (arith, below, k))

    b : (x : Slot E R S) × (slice_get new.slots w ≡ Some x)
    b = slot_at new.slots w (let k = s.sixteen.1 in omega (arith, below, k))

    go : (line : StepLine) → Stepped takes eval old new w now line → (left new.slots w < left old.slots w) ⊎ ((new.slots ≡ old.slots) × IsStuck old w)
    go StepLine.Idle t = absurd (some (a.1 ∙ ap (λ x. Some x) (t.passes a.0 b.0 a.1 b.1).0))
    go (StepLine.Busy v) t = inr (same_list old.slots new.slots here, (λ voted. unvoted voted, (v, t.waits v refl)))
      where
        p : Passes eval (StepLine.Busy v) a.0 b.0
        p = t.passes a.0 b.0 a.1 b.1

        here : (u : ℕ) → slice_get new.slots u ≡ slice_get old.slots u
        here u = elim (same_or_not u w) [
          | inl e ↦ subst (λ k. slice_get new.slots k ≡ slice_get old.slots k) (sym e) (b.1 ∙ ap (λ x. Some x) (p.2 ∙ sym p.1) ∙ sym a.1)
          | inr d ↦ t.others u d
        ]

        unvoted : HasVoted old w → ⊥
        unvoted voted = (let e : Some (Slot.Computed p.0) ≡ Some (Slot.Pending voted.0) = ap (λ x. Some x) (sym p.1) ∙ sym a.1 ∙ voted.1 in cc)
    go (StepLine.Begun x) t = inl t.lowers
    go (StepLine.Fetched x) t = inl t.lowers
    go StepLine.Computed t = inl t.lowers
    go (StepLine.Voted x) t = inl t.lowers
    go (StepLine.Conflict x) t = inl t.lowers
    go (StepLine.GivenUp x) t = inl t.lowers
    go (StepLine.Spent x) t = inl t.lowers
    go StepLine.Memory t = inl t.lowers
    go StepLine.DiskFault t = inl t.lowers
    go (StepLine.Unknown x) t = inl t.lowers
    go (StepLine.Read x y) t = inl t.lowers
    go (StepLine.Commit x y) t = inl t.lowers

falls_on : {E R S : Type 0} (takes : List ℕ → Option R) (eval : Eval R) (first old new : CoreView E R S) (w now : ℕ) (line : StepLine) (seen : List ℕ) → Stepped takes eval old new w now line → w < 16 → (IsIdle old w → ⊥) → Falls first old seen → Falls first new (seen ++ w ∷ [])
falls_on {E} {R} {S} takes eval first old new w now line seen s below some falls = elim (lowered_or_stuck takes eval old new w now line s below some) [
  | inl less ↦ (let t : total new.slots < total old.slots = total_falls old.slots new.slots w s.others less in inl (elim falls [ inl f ↦ omega (arith, t, f) | inr f ↦ (let k : total old.slots ≡ total first.slots = ap (λ (xs : List (Slot E R S)). total xs) f.0 in omega (arith, t, k)) ]))
  | inr stuck ↦ elim falls [
    | inl f ↦ inl (let k : total new.slots ≡ total old.slots = ap (λ (xs : List (Slot E R S)). total xs) stuck.0 in omega (arith, f, k))
    | inr f ↦ inr (
      stuck.0 ∙ f.0,
      λ v among. elim (among_either v seen (w ∷ []) among) [
        | inl b ↦ f.1 v b
        | inr c ↦ elim c [ inl e ↦ subst (IsStuck first) (sym e) (stuck_first f.0 stuck.1) | inr none ↦ absurd none ]
      ],
    )
  ]
]
  where
    stuck_first : old.slots ≡ first.slots → IsStuck old w → IsStuck first w
    stuck_first e st = (λ (voted : HasVoted first w). st.0 (voted.0, ap (λ (xs : List (Slot E R S)). slice_get xs w) e ∙ voted.1), (st.1.0, (st.1.1.0, ap (λ (xs : List (Slot E R S)). slice_get xs st.1.0) (sym e) ∙ st.1.1.1)))

voted_below : {E R S : Type 0} (core : CoreView E R S) (v : ℕ) → length core.slots ≡ 16 → HasVoted core v → v < 16
voted_below core v long voted = subst (λ n. v < n) long (within core.slots v _ voted.1)
  where
    within : {X : Type 0} (xs : List X) (k : ℕ) (x : X) → slice_get xs k ≡ Some x → k < length xs
    within [] k x e = absurd cc
    within (y ∷ xs) zero x e = omega arith
    within (y ∷ xs) (suc k) x e = (let less = within xs k x e in omega (arith, less))

-- a whole turn lowers the number of all: were everyone stuck, the one that holds the vote would be too
falls_whole : {E R S : Type 0} (first now : CoreView E R S) (ws : List ℕ) → length first.slots ≡ 16 → Waits first ws → Falls first now ws → (ws ≡ [] → ⊥) → total now.slots < total first.slots
falls_whole {E} {R} {S} first now ws long waits (inl less) some = less
falls_whole {E} {R} {S} first now [] long waits (inr f) some = absurd (some refl)
falls_whole {E} {R} {S} first now (w ∷ ws) long waits (inr f) some =
    let one = f.1 w (inl refl) in
    let v = one.1.0 in
    let voted : HasVoted first v = one.1.1 in
    let busy : IsIdle first v → ⊥ = λ i. (let e : Some (Slot.Pending voted.0) ≡ Some Slot.Idle = sym voted.1 ∙ i in cc) in
    let less = voted_below first v long voted in
    absurd (busy ((waits.wait v less).1 (λ among. (f.1 v among).0 voted)))

-- ---- replies

replied_on : (replies replies' : List (Option (List ℕ))) (line : StepLine) (w : ℕ) (still more : List ℕ) (done : List Happening) → Filed line w replies replies' still more → w < length replies → Replied replies done → reply_among w (lines_in done) ≡ None → Replied replies' (done ++ (Item2.Step w, step_lines answer w line) ∷ [])
replied_on replies replies' line w still more done filed within replied none v less = elim (same_or_not v w) [
  | inl e ↦ subst (λ k. slice_get replies' k ≡ Some (reply_among k (lines_in after))) (sym e) (here filed)
  | inr d ↦ there filed d
]
  where
    after : List Happening
    after = done ++ (Item2.Step w, step_lines answer w line) ∷ []

    comes : reply_among w (lines_in after) ≡ final line
    comes = reply_comes w done (Item2.Step w, step_lines answer w line) none ∙ final_here w line

    set_here : {X : Type 0} (xs : List X) (i : ℕ) (y : X) → i < length xs → slice_get (slice_set xs i y) i ≡ Some y
    set_here [] i y l = absurd (omega (arith, l))
    set_here (x ∷ xs) zero y l = refl
    set_here (x ∷ xs) (suc i) y l = set_here xs i y (omega (arith, l))

    set_there : {X : Type 0} (xs : List X) (i j : ℕ) (y : X) → j ≢ i → slice_get (slice_set xs i y) j ≡ slice_get xs j
    set_there [] i j y d = refl
    set_there (x ∷ xs) zero zero y d = absurd (d refl)
    set_there (x ∷ xs) zero (suc j) y d = refl
    set_there (x ∷ xs) (suc i) zero y d = refl
    set_there (x ∷ xs) (suc i) (suc j) y d = set_there xs i j y (λ e. d (ap suc e))

    set_long : {X : Type 0} (xs : List X) (i : ℕ) (y : X) → length (slice_set xs i y) ≡ length xs
    set_long [] i y = refl
    set_long (x ∷ xs) zero y = refl
    set_long (x ∷ xs) (suc i) y = ap suc (set_long xs i y)

    here : Filed line w replies replies' still more → slice_get replies' w ≡ Some (reply_among w (lines_in after))
    here (inl f) = ap (λ rs. slice_get rs w) f.2 ∙ replied w within ∙ ap (λ r. Some r) (none ∙ sym (comes ∙ f.0))
    here (inr f) = ap (λ rs. slice_get rs w) f.3 ∙ set_here replies w (Some f.0) within ∙ ap (λ r. Some r) (sym (comes ∙ f.1))

    kept : v ≢ w → reply_among v (lines_in after) ≡ reply_among v (lines_in done)
    kept d = reply_kept v done (Item2.Step w, step_lines answer w line) (final_elsewhere w v line d)

    there : Filed line w replies replies' still more → v ≢ w → slice_get replies' v ≡ Some (reply_among v (lines_in after))
    there (inl f) d = ap (λ rs. slice_get rs v) f.2 ∙ replied v (subst (λ rs. v < length rs) f.2 less) ∙ ap (λ r. Some r) (sym (kept d))
    there (inr f) d = ap (λ rs. slice_get rs v) f.3 ∙ set_there replies w v (Some f.0) d ∙ replied v (let k : length replies' ≡ length replies = ap length f.3 ∙ set_long replies w (Some f.0) in omega (arith, less, k)) ∙ ap (λ r. Some r) (sym (kept d))

filed_long : (line : StepLine) (w : ℕ) (replies replies' : List (Option (List ℕ))) (still more : List ℕ) → Filed line w replies replies' still more → length replies' ≡ length replies
filed_long line w replies replies' still more (inl f) = ap length f.2
filed_long line w replies replies' still more (inr f) = ap length f.3 ∙ set_long replies w (Some f.0)
  where
    set_long : {X : Type 0} (xs : List X) (i : ℕ) (y : X) → length (slice_set xs i y) ≡ length xs
    set_long [] i y = refl
    set_long (x ∷ xs) zero y = refl
    set_long (x ∷ xs) (suc i) y = ap suc (set_long xs i y)

-- ---- a turn so far

-- Of a turn the workers that were seen took their steps; those that wait still, and those that come, have a request.
pub record Swept {E R S : Type 0} (takes : List ℕ → Option R) (eval : Eval R) (old new : CoreView E R S) (now : ℕ) (seen rest still : List ℕ) (turn : List Happening) (replies replies' : List (Option (List ℕ))) : Type 0 where
  pub goes : Goes takes eval old now turn new now
  pub steps : items turn ≡ map Item2.Step seen
  pub left : still ≡ waiting turn
  pub answered : (w : ℕ) → Among w seen → Among w still ⊎ GotReply w turn
  pub waits : Waits new (still ++ rest)
  pub long : length replies' ≡ length replies
  pub replied : (done : List Happening) → Replied replies done → Unanswered (seen ++ rest) done → Replied replies' (done ++ turn) × Unanswered (still ++ rest) (done ++ turn)
  pub falls : Falls old new seen

pub swept_none : {E R S : Type 0} (takes : List ℕ → Option R) (eval : Eval R) (core : CoreView E R S) (now : ℕ) (ws : List ℕ) (replies : List (Option (List ℕ))) → Waits core ws → Swept takes eval core core now [] ws [] [] replies replies
swept_none takes eval core now ws replies waits = record {
  goes = goes_none takes eval core now;
  steps = refl;
  left = refl;
  answered = λ w none. absurd none;
  waits = waits;
  long = refl;
  replied = λ done replied none. (subst (Replied replies) (sym (append-nil done)) replied, subst (Unanswered ws) (sym (append-nil done)) none);
  falls = inr (refl, λ w none. absurd none);
}

waiting_more : (turn : List Happening) (h : Happening) (b : Bool) → has_reply h.1 ≡ b → waiting (turn ++ h ∷ []) ≡ waiting turn ++ (if b then [] else worker_of h.0 ∷ [])
waiting_more [] h true e = rw e refl
waiting_more [] h false e = rw e refl
waiting_more (x ∷ turn) h b e = go (has_reply x.1) refl (waiting_more turn h b e)
  where
    go : (k : Bool) → has_reply x.1 ≡ k → waiting (turn ++ h ∷ []) ≡ waiting turn ++ (if b then [] else worker_of h.0 ∷ []) → waiting ((x ∷ turn) ++ h ∷ []) ≡ waiting (x ∷ turn) ++ (if b then [] else worker_of h.0 ∷ [])
    go true is rest = rw is rest
    go false is rest = rw is (ap (λ ws. worker_of x.0 ∷ ws) rest)

pub swept_more : {E R S : Type 0} (takes : List ℕ → Option R) (eval : Eval R) (first old new : CoreView E R S) (now w : ℕ) (line : StepLine) (seen rest still more : List ℕ) (turn : List Happening) (replies mid replies' : List (Option (List ℕ)))
    → Swept takes eval first old now seen (w ∷ rest) still turn replies mid → Stepped takes eval old new w now line → Filed line w mid replies' still more → w < length mid
    → Swept takes eval first new now (seen ++ w ∷ []) rest more (turn ++ (Item2.Step w, step_lines answer w line) ∷ []) replies replies'
swept_more {E} {R} {S} takes eval first old new now w line seen rest still more turn replies mid replies' swept s filed within = record {
  goes = goes_then takes eval first old new now now now turn (step ∷ []) swept.goes s.goes;
  steps = map-append (λ (h : Happening). h.0) turn (step ∷ []) ∙ ap (λ xs. xs ++ Item2.Step w ∷ []) swept.steps ∙ sym (map-append Item2.Step seen (w ∷ []));
  left = left_is filed;
  answered = λ v among. elim (among_either v seen (w ∷ []) among) [
    | inl a ↦ elim (swept.answered v a) [ inl b ↦ inl (stays v b filed) | inr got ↦ inr (got_before v turn (step ∷ []) got) ]
    | inr b ↦ elim b [ inl same ↦ subst (λ k. Among k more ⊎ GotReply k (turn ++ step ∷ [])) (sym same) (itself filed) | inr none ↦ absurd none ]
  ];
  waits = waits_is filed;
  long = filed_long line w mid replies' still more filed ∙ swept.long;
  replied = λ done replied none.
      (let before = swept.replied done replied (subst (λ xs. Unanswered xs done) (append_assoc seen (w ∷ []) rest) none) in
      let w_none : reply_among w (lines_in (done ++ turn)) ≡ None = before.1 w (among_here w still rest) in (
        subst (Replied replies') (append_assoc done turn (step ∷ [])) (replied_on mid replies' line w still more (done ++ turn) filed within before.0 w_none),
        subst (Unanswered (more ++ rest)) (append_assoc done turn (step ∷ [])) (unanswered (done ++ turn) before.1 w_none filed),
      ));
  falls = falls_on takes eval first old new w now line seen s (swept.waits.workers w (among_here w still rest)) (λ i. (swept.waits.wait w (swept.waits.workers w (among_here w still rest))).0 (among_here w still rest) i) swept.falls;
}
  where
    step : Happening
    step = (Item2.Step w, step_lines answer w line)

    stays : (v : ℕ) → Among v still → Filed line w mid replies' still more → Among v more
    stays v among (inl f) = subst (Among v) (sym f.1) (among_left v still (w ∷ []) among)
    stays v among (inr f) = subst (Among v) (sym f.2) among

    itself : Filed line w mid replies' still more → Among w more ⊎ GotReply w (turn ++ step ∷ [])
    itself (inl f) = inl (subst (Among w) (sym f.1) (among_here w still []))
    itself (inr f) = inr (got_behind w turn (step ∷ []) (f.0, ap (reply_among w) (append-nil (step_lines answer w line)) ∙ final_here w line ∙ f.1))

    left_is : Filed line w mid replies' still more → more ≡ waiting (turn ++ step ∷ [])
    left_is (inl f) = f.1 ∙ ap (λ xs. xs ++ w ∷ []) swept.left ∙ sym (waiting_more turn step false (has_final w line ∙ ap is_there f.0))
    left_is (inr f) = f.2 ∙ swept.left ∙ sym (append-nil (waiting turn)) ∙ sym (waiting_more turn step true (has_final w line ∙ ap is_there f.1))

    waits_is : Filed line w mid replies' still more → Waits new (more ++ rest)
    waits_is (inl f) = subst (λ xs. Waits new (xs ++ rest)) (sym f.1) (waits_on takes eval old new w now line still rest s swept.waits f.0)
    waits_is (inr f) = subst (λ xs. Waits new (xs ++ rest)) (sym f.2) (waits_less takes eval old new w now line f.0 still rest s swept.waits f.1)

    unanswered : (d : List Happening) → Unanswered (still ++ w ∷ rest) d → reply_among w (lines_in d) ≡ None → Filed line w mid replies' still more → Unanswered (more ++ rest) (d ++ step ∷ [])
    unanswered d before none (inl f) v among = elim (same_or_not v w) [
      | inl e ↦ subst (λ k. reply_among k (lines_in (d ++ step ∷ [])) ≡ None) (sym e) (reply_comes w d step none ∙ final_here w line ∙ f.0)
      | inr differs ↦ reply_kept v d step (final_elsewhere w v line differs) ∙ before v (subst (Among v) (append_assoc still (w ∷ []) rest) (subst (λ xs. Among v (xs ++ rest)) f.1 among))
    ]
    unanswered d before none (inr f) v among = elim (same_or_not v w) [
      | inl e ↦ absurd ((distinct_without w still rest swept.waits.distinct).1 (subst (λ k. Among k (still ++ rest)) e (subst (λ xs. Among v (xs ++ rest)) f.2 among)))
      | inr differs ↦ reply_kept v d step (final_elsewhere w v line differs) ∙ before v (among_with v w still rest (subst (λ xs. Among v (xs ++ rest)) f.2 among))
    ]

pub swept_whole : {E R S : Type 0} (takes : List ℕ → Option R) (eval : Eval R) (old new : CoreView E R S) (now : ℕ) (ws still : List ℕ) (turn : List Happening) (replies replies' : List (Option (List ℕ))) → length old.slots ≡ 16 → Waits old ws → Swept takes eval old new now ws [] still turn replies replies' → Turned takes eval old new now ws still turn replies replies'
swept_whole takes eval old new now ws still turn replies replies' long waits swept = record {
  goes = swept.goes;
  steps = swept.steps;
  rest = swept.left;
  answered = swept.answered;
  waits = subst (Waits new) (append-nil still) swept.waits;
  long = swept.long;
  replied = λ done replied none. (let r = swept.replied done replied (subst (λ xs. Unanswered xs done) (sym (append-nil ws)) none) in (r.0, subst (λ xs. Unanswered xs (done ++ turn)) (append-nil still) r.1));
  falls = falls_whole old new ws long waits swept.falls;
}
