-- Turns join into a round, and what happens in a round behind what happened before.
use Rattle.std.proofs.Common.{◌≡◌, ◌≢◌, ℕ, zero, suc, ◌+◌, ◌<◌, ◌≤◌, List, [], ◌∷◌, ◌++◌, map, length, slice_get, slice_set, append_assoc, append-nil, replicate, Option, Some, None, refl, sym, ap, ◌∙◌, subst, arith, inl, inr, flat_map}
use Rattle.std.specs.Prelude.{◌⊎◌, IfSome}
use Rattle.zdisk.specs.Images.{IsImage}
use Rattle.evaluator.specs.Exec.{Eval}
use Rattle.packing.specs.Reachable.{Linking}
use Rattle.schedule.specs.declared.item.Item2.{Item2}
use Rattle.schedule.specs.Follows.{Follows}
use Rattle.schedule.specs.Moments.{Free, Moment, Terms, Waiting as Waiting_, clocked}
use Rattle.fs_store.specs.Moments.{OpensAsKnown}
use Rattle.txn_core.specs.declared.slot.Slot.{Slot}
use Rattle.txn_core.specs.Cores.{CoreView, IsIdle, MayBe}
use Rattle.txn_core.specs.Slots.{doing_of, moment_of}
use Rattle.zserve.specs.Going.{Goes}
use Rattle.zserve.specs.Happened.{Happening, items}
use Rattle.txn_core.specs.Replying.{terms_of}
use Rattle.zserve.specs.Rounds.{AllGiven, RoundDone, TurnedSoFar}
use Rattle.zserve.specs.Sweeping.{Replied, Turned, Unanswered, Waits}
use Rattle.zserve.specs.Tapes.{given_from, workers_from}
use Rattle.zserve.specs.Turns.{AreTurns, GotReply, all_in, lines_in, waiting}
use Rattle.http_clients.specs.Numbers.{Among, Distinct}
use Rattle.zserve.specs.Waiting.{AreWorkers, Wait}
use Rattle.zserve.proofs.Goings.{goes_none, goes_quietly, goes_then}
use Rattle.schedule.specs.Items.{item_text}
use Rattle.zserve.proofs.Lists.{among_either, among_left, among_right, got_before, got_behind}
use Rattle.zserve.proofs.Stepping.{text_joined}

-- ---- turns

all_more : (turns : List (List Happening)) (turn : List Happening) → all_in (turns ++ turn ∷ []) ≡ all_in turns ++ turn
all_more [] turn = append-nil turn
all_more (t ∷ turns) turn = ap (λ xs. t ++ xs) (all_more turns turn) ∙ sym (append_assoc t (all_in turns) turn)

pub turns_none : {E R S : Type 0} (takes : List ℕ → Option R) (eval : Eval R) (core : CoreView E R S) (now : ℕ) (ws : List ℕ) (replies : List (Option (List ℕ))) → Waits core ws → TurnedSoFar takes eval core core now ws ws [] replies replies
turns_none takes eval core now ws replies waits = record {
  goes = goes_none takes eval core now;
  goes_on = λ more turns. turns;
  waits = waits;
  answered = λ w among. inl among;
  long = refl;
  replied = λ done replied none. (subst (Replied replies) (sym (append-nil done)) replied, subst (Unanswered ws) (sym (append-nil done)) none);
}

one_turn : (w : ℕ) (ws left : List ℕ) (turn : List Happening) (more : List (List Happening)) → items turn ≡ map Item2.Step (w ∷ ws) → left ≡ waiting turn → AreTurns left more → AreTurns (w ∷ ws) (turn ∷ more)
one_turn w ws left turn more steps rest turns = (steps, subst (λ ls. AreTurns ls more) rest turns)

pub turns_more : {E R S : Type 0} (takes : List ℕ → Option R) (eval : Eval R) (first old new : CoreView E R S) (now : ℕ) (ws left left' : List ℕ) (turns : List (List Happening)) (turn : List Happening) (replies mid replies' : List (Option (List ℕ)))
    → TurnedSoFar takes eval first old now ws left turns replies mid → Turned takes eval old new now left left' turn mid replies' → (left ≡ [] → ⊥) → TurnedSoFar takes eval first new now ws left' (turns ++ turn ∷ []) replies replies'
turns_more {E} {R} {S} takes eval first old new now ws left left' turns turn replies mid replies' so one some = record {
  goes = subst (λ xs. Goes takes eval first now xs new now) (sym (all_more turns turn)) (goes_then takes eval first old new now now now (all_in turns) turn so.goes one.goes);
  goes_on = λ more are. subst (λ ts. AreTurns ws ts) (sym (append_assoc turns (turn ∷ []) more)) (so.goes_on (turn ∷ more) (next left one.steps some more are));
  waits = one.waits;
  answered = λ w among. elim (so.answered w among) [
    | inl a ↦ elim (one.answered w a) [ inl b ↦ inl b | inr got ↦ inr (subst (GotReply w) (sym (all_more turns turn)) (got_behind w (all_in turns) turn got)) ]
    | inr got ↦ inr (subst (GotReply w) (sym (all_more turns turn)) (got_before w (all_in turns) turn got))
  ];
  long = one.long ∙ so.long;
  replied = λ done replied none.
      (let before = so.replied done replied none in
      let after = one.replied (done ++ all_in turns) before.0 before.1 in
      let same : (done ++ all_in turns) ++ turn ≡ done ++ all_in (turns ++ turn ∷ []) = append_assoc done (all_in turns) turn ∙ ap (λ xs. done ++ xs) (sym (all_more turns turn)) in
      (subst (Replied replies') same after.0, subst (Unanswered left') same after.1));
}
  where
    next : (ls : List ℕ) → items turn ≡ map Item2.Step ls → (ls ≡ [] → ⊥) → (more : List (List Happening)) → AreTurns left' more → AreTurns ls (turn ∷ more)
    next [] steps none more are = absurd (none refl)
    next (w ∷ ls) steps none more are = one_turn w ls left' turn more steps one.rest are

-- ---- requests

none_more : (w : ℕ) → w ≡ 0 + w
none_more w = omega arith

pub given_last : (w : ℕ) (ms : List (List ℕ)) (m : List ℕ) → given_from w (ms ++ m ∷ []) ≡ given_from w ms ++ (Item2.Request (length ms + w) m, []) ∷ []
given_last w [] m = ap (λ n. (Item2.Request n m, []) ∷ []) (none_more w)
given_last w (x ∷ ms) m = ap (λ hs. (Item2.Request w x, []) ∷ hs) (given_last (w + 1) ms m ∙ ap (λ n. given_from (w + 1) ms ++ (Item2.Request n m, []) ∷ []) (move (length ms) w))
  where
    move : (a b : ℕ) → a + (b + 1) ≡ suc a + b
    move a b = omega arith

pub workers_last : (w : ℕ) (ms : List (List ℕ)) (m : List ℕ) → workers_from w (ms ++ m ∷ []) ≡ workers_from w ms ++ (length ms + w) ∷ []
workers_last w [] m = ap (λ n. n ∷ []) (none_more w)
workers_last w (x ∷ ms) m = ap (λ ws. w ∷ ws) (workers_last (w + 1) ms m ∙ ap (λ n. workers_from (w + 1) ms ++ n ∷ []) (move (length ms) w))
  where
    move : (a b : ℕ) → a + (b + 1) ≡ suc a + b
    move a b = omega arith

pub workers_bound : (w v : ℕ) (ms : List (List ℕ)) → Among v (workers_from w ms) → (w ≤ v) × (v < length ms + w)
workers_bound w v [] among = absurd among
workers_bound w v (m ∷ ms) (inl e) = (omega (arith, e), omega (arith, e))
workers_bound w v (m ∷ ms) (inr among) = (let b = workers_bound (w + 1) v ms among in (omega (arith, b.0), omega (arith, b.1)))

distinct_last : (xs : List ℕ) (w : ℕ) → Distinct xs → (Among w xs → ⊥) → Distinct (xs ++ w ∷ [])
distinct_last [] w d none = ((λ a. a), tt)
distinct_last (x ∷ xs) w d none = (
  λ among. elim (among_either x xs (w ∷ []) among) [ inl a ↦ d.0 a | inr b ↦ elim b [ inl e ↦ none (inl (sym e)) | inr n ↦ n ] ],
  distinct_last xs w d.1 (λ a. none (inr a)),
)

pub given_none : {E R S : Type 0} (takes : List ℕ → Option R) (eval : Eval R) (core : CoreView E R S) (now : ℕ) → Waits core [] → AllGiven takes eval core core now []
given_none takes eval core now waits = record { goes = goes_none takes eval core now; waits = waits }

get_set_here : {X : Type 0} (xs : List X) (i : ℕ) (y x : X) → slice_get xs i ≡ Some x → slice_get (slice_set xs i y) i ≡ Some y
get_set_here [] i y x e = absurd cc
get_set_here (z ∷ xs) zero y x e = refl
get_set_here (z ∷ xs) (suc i) y x e = get_set_here xs i y x e

get_map : {A B : Type 0} (f : A → B) (xs : List A) (i : ℕ) (x : A) → slice_get xs i ≡ Some x → slice_get (map f xs) i ≡ Some (f x)
get_map f [] i x e = absurd cc
get_map f (y ∷ xs) zero x e = (let same : y ≡ x = cc in ap (λ z. Some (f z)) same)
get_map f (y ∷ xs) (suc i) x e = get_map f xs i x e

-- a worker that was given a request has one
given_busy : {E R S : Type 0} (eval : Eval R) (terms : Terms R) (old new : CoreView E R S) (now w : ℕ) (bytes : List ℕ) → IsIdle old w → Follows terms (MayBe eval old) now (MayBe eval new) now (Item2.Request w bytes) [] → IsIdle new w → ⊥
given_busy {E} {R} {S} eval terms old new now w bytes was follows is =
    let m : Moment R = moment_of eval new.store new.slots in
    let f = follows m (new.store, inl refl, refl) in
    let workers_now : map (doing_of eval) new.slots ≡ slice_set (clocked f.0 now).workers w (Waiting_ f.2.0 []) = ap (λ (k : Moment R). k.workers) f.2.4 in
    let before : (clocked f.0 now).workers ≡ map (doing_of eval) old.slots = ap (λ (k : Moment R). k.workers) f.1.2 in
    let free : slice_get (clocked f.0 now).workers w ≡ Some Free = ap (λ ws. slice_get ws w) before ∙ get_map (doing_of eval) old.slots w Slot.Idle was in
    let there : slice_get (map (doing_of eval) new.slots) w ≡ Some (Waiting_ f.2.0 []) = ap (λ ws. slice_get ws w) workers_now ∙ get_set_here (clocked f.0 now).workers w (Waiting_ f.2.0 []) Free free in
    let here : slice_get (map (doing_of eval) new.slots) w ≡ Some Free = get_map (doing_of eval) new.slots w Slot.Idle is in
    clash f.2.0 (sym there ∙ here)
  where
    clash : (q : R) → Some (Waiting_ q []) ≡ Some Free → ⊥
    clash q e = cc

same_or_not : (v w : ℕ) → (v ≡ w) ⊎ (v ≢ w)
same_or_not zero zero = inl refl
same_or_not zero (suc w) = inr (λ e. omega (arith, e))
same_or_not (suc v) zero = inr (λ e. omega (arith, e))
same_or_not (suc v) (suc w) = elim (same_or_not v w) [ inl e ↦ inl (ap suc e) | inr d ↦ inr (λ e. d (omega (arith, e))) ]

pub given_more : {E R S : Type 0} (takes : List ℕ → Option R) (eval : Eval R) (first old new : CoreView E R S) (now w : ℕ) (ms : List (List ℕ)) (m : List ℕ)
    → AllGiven takes eval first old now ms → w ≡ length ms → w < 16 → IsIdle old w → new.store ≡ old.store → ((v : ℕ) → v ≢ w → slice_get new.slots v ≡ slice_get old.slots v)
    → ((links : Linking) (end : ℕ) → Follows (terms_of takes eval links old.store.limit end) (MayBe eval old) now (MayBe eval new) now (Item2.Request w m) [])
    → IfSome old.store.disk.told (λ told. (image : List ℕ) → IsImage told.now image → OpensAsKnown old.store image) → AllGiven takes eval first new now (ms ++ m ∷ [])
given_more {E} {R} {S} takes eval first old new now w ms m given is below idle same others follows images = record {
  goes = subst (λ hs. Goes takes eval first now hs new now) (sym (given_last 0 ms m ∙ ap (λ n. given_from 0 ms ++ (Item2.Request n m, []) ∷ []) at)) (goes_then takes eval first old new now now now (given_from 0 ms) ((Item2.Request w m, []) ∷ []) given.goes (goes_quietly takes eval old new now now (Item2.Request w m) same follows images));
  waits = subst (Waits new) (sym (workers_last 0 ms m ∙ ap (λ n. workers_from 0 ms ++ n ∷ []) at)) (record { wait = all; distinct = distinct_last (workers_from 0 ms) w given.waits.distinct (λ a. given_bound a); workers = below_all });
}
  where
    at : length ms + 0 ≡ w
    at = omega (arith, is)

    given_bound : Among w (workers_from 0 ms) → ⊥
    given_bound among = (let b = (workers_bound 0 w ms among).1 in omega (arith, b, is))

    below_all : AreWorkers (workers_from 0 ms ++ w ∷ [])
    below_all v among = elim (among_either v (workers_from 0 ms) (w ∷ []) among) [
      | inl a ↦ given.waits.workers v a
      | inr b ↦ elim b [ inl e ↦ subst (λ n. n < 16) (sym e) below | inr none ↦ absurd none ]
    ]

    all : Wait new (workers_from 0 ms ++ w ∷ [])
    all v less = elim (same_or_not v w) [
      | inl e ↦ (
        λ among i. given_busy eval (terms_of takes eval (λ bytes. None) old.store.limit 0) old new now w m idle (follows (λ bytes. None) 0) (subst (IsIdle new) e i),
        λ none. absurd (none (among_right v (workers_from 0 ms) (w ∷ []) (inl e))),
      )
      | inr d ↦ (
        λ among i. elim (among_either v (workers_from 0 ms) (w ∷ []) among) [
          | inl a ↦ (given.waits.wait v less).0 a (sym (others v d) ∙ i)
          | inr b ↦ elim b [ inl e ↦ d e | inr none ↦ none ]
        ],
        λ none. others v d ∙ (given.waits.wait v less).1 (λ a. none (among_left v (workers_from 0 ms) (w ∷ []) a)),
      )
    ]

-- ---- a round

lines_given : (w : ℕ) (ms : List (List ℕ)) → lines_in (given_from w ms) ≡ []
lines_given w [] = refl
lines_given w (m ∷ ms) = lines_given (w + 1) ms

none_replied : (n v : ℕ) → v < n → slice_get (replicate n (let none : Option (List ℕ) = None in none)) v ≡ Some None
none_replied zero v less = absurd (omega (arith, less))
none_replied (suc n) zero less = refl
none_replied (suc n) (suc v) less = none_replied n v (omega (arith, less))

pub none_yet : (n : ℕ) → Replied (replicate n None) []
none_yet n v less = none_replied n v (subst (λ k. v < k) (length_replicate n) less)
  where
    length_replicate : (k : ℕ) → length (replicate k (let none : Option (List ℕ) = None in none)) ≡ k
    length_replicate zero = refl
    length_replicate (suc k) = ap suc (length_replicate k)

pub clock_goes : {E R S : Type 0} (takes : List ℕ → Option R) (eval : Eval R) (core : CoreView E R S) (since stamp : ℕ) → IfSome core.store.disk.told (λ told. (image : List ℕ) → IsImage told.now image → OpensAsKnown core.store image) → Goes takes eval core since ((Item2.Clock stamp, []) ∷ []) core stamp
clock_goes takes eval core since stamp images = goes_quietly takes eval core core since stamp (Item2.Clock stamp) refl (λ links end m may. (m, may, (refl, refl))) images

-- The heart of a tape: requests that are given, the clock, and turns until all have a reply are a round.
pub round_done : {E R S : Type 0} (takes : List ℕ → Option R) (eval : Eval R) (old given new : CoreView E R S) (since stamp : ℕ) (ms : List (List ℕ)) (turns : List (List Happening)) (replies' : List (Option (List ℕ)))
    → AllGiven takes eval old given since ms → IfSome given.store.disk.told (λ told. (image : List ℕ) → IsImage told.now image → OpensAsKnown given.store image)
    → TurnedSoFar takes eval given new stamp (workers_from 0 ms) [] turns (replicate 16 None) replies' → RoundDone takes eval old new since stamp ms turns replies'
round_done {E} {R} {S} takes eval old given new since stamp ms turns replies' first images so = record {
  goes = goes_then takes eval old given new since since stamp (given_from 0 ms) ((Item2.Clock stamp, []) ∷ all_in turns) first.goes (goes_then takes eval given given new since stamp stamp ((Item2.Clock stamp, []) ∷ []) (all_in turns) (clock_goes takes eval given since stamp images) so.goes);
  turns_are = subst (AreTurns (workers_from 0 ms)) (append-nil turns) (so.goes_on [] tt);
  idle = so.waits;
  answered = λ w among. elim (so.answered w among) [ inl none ↦ absurd none | inr got ↦ got ];
  long = so.long;
  replied = (so.replied [] (none_yet 16) (λ w among. refl)).0;
}

pub turns_text : (first old new : List ℕ) (turns : List (List Happening)) (turn : List Happening) → old ≡ first ++ flat_map item_text (items (all_in turns)) → new ≡ old ++ flat_map item_text (items turn) → new ≡ first ++ flat_map item_text (items (all_in (turns ++ turn ∷ [])))
turns_text first old new turns turn e f = text_joined first old new (all_in turns) turn e f ∙ ap (λ (hs : List Happening). first ++ flat_map item_text (items hs)) (sym (all_more turns turn))
