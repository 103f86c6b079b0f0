-- Workers without a request, and what keeps standing while the store is read.
use Rattle.std.proofs.Common.{◌≡◌, ℕ, ◌||◌, Bool, true, false, not, List, [], ◌∷◌, Option, None, Some, refl, sym, ap, ◌∙◌, All, map, get_or, slice_get}
use Rattle.std.proofs.lemmas.Bool.{false_from_ne_true, not-false, not-true}
use Rattle.std.proofs.lemmas.List.Folds.{list_any_at}
use Rattle.std.proofs.lemmas.Option.{get_or_from_slice_get, slice_get_within}
use Rattle.std.specs.Prelude.{◌↔◌}
use Rattle.std.specs.List.{list_any}
use Rattle.evaluator.specs.declared.draft.Draft.{Draft}
use Rattle.evaluator.specs.declared.reply.Reply.{Reply}
use Rattle.evaluator.specs.Exec.{Eval}
use Rattle.schedule.specs.Moments.{Doing}
use Rattle.schedule.specs.Stepping.{has_request}
use Rattle.fs_store.specs.Stores.{Out, StoreView}
use Rattle.txn_core.specs.declared.slot.Slot.{Slot}
use Rattle.txn_core.specs.Cores.{CoreView, IsAtRest, is_taken}
use Rattle.txn_core.specs.Slots.{CoreStands, computed_of, doing_of}
use Rattle.txn_core.proofs.Cores.{some_same}
use Rattle.txn_core.proofs.Endings.{all_idle, core_idle}
use Rattle.txn_core.proofs.Steadiness.{Carries, slot_over}

idle_so : {E R S : Type 0} (s : Slot E R S) → is_taken s ≡ false → s ≡ Slot.Idle
idle_so Slot.Idle e = refl
idle_so (Slot.Fresh f) e = absurd cc
idle_so (Slot.Active a) e = absurd cc
idle_so (Slot.Computed a) e = absurd cc
idle_so (Slot.Pending p) e = absurd cc

-- each worker's slot is idle where none is taken
all_idle_so : {E R S : Type 0} (slots : List (Slot E R S)) → list_any is_taken slots ≡ false → All (λ s. s ≡ Slot.Idle) slots
all_idle_so slots none i d within =
    idle_so (get_or slots i d) (false_from_ne_true (is_taken (get_or slots i d)) (λ taken. (let bad : true ≡ false = sym (list_any_at is_taken slots i d within taken) ∙ none in cc)))

-- no vote is out where no worker has a request
pub no_vote : {E R S : Type 0} (eval : Eval R) (store : StoreView) (slots : List (Slot E R S)) → CoreStands eval store slots → list_any is_taken slots ≡ false → store.out ≡ None
no_vote {E} {R} {S} eval store slots all none = go store.out refl
  where
    go : (o : Option Out) → store.out ≡ o → store.out ≡ None
    go None e = e
    go (Some o) e =
        let v = all.voter o e in
        let p : Slot E R S = Slot.Pending v.0 in
        let idle : p ≡ Slot.Idle = sym (get_or_from_slice_get slots o.holder p p v.1) ∙ all_idle_so slots none o.holder p (slice_get_within slots o.holder p v.1) in
        absurd cc

pub at_rest : {E R S : Type 0} (eval : Eval R) (store : StoreView) (slots : List (Slot E R S)) → CoreStands eval store slots → list_any is_taken slots ≡ false → IsAtRest eval (let core : CoreView E R S = record { store = store; slots = slots } in core)
at_rest eval store slots all none = (no_vote eval store slots all none, all_idle eval 16 slots all.count (all_idle_so slots none))

asks_there : {E R S : Type 0} (eval : Eval R) (s : Slot E R S) → is_taken s ≡ true → has_request (Some (doing_of eval s)) ≡ true
asks_there eval Slot.Idle e = absurd cc
asks_there eval (Slot.Fresh f) e = refl
asks_there eval (Slot.Active a) e = refl
asks_there {E} {R} {S} eval (Slot.Computed a) e = go a.ready
  where
    go : (o : Option (Reply × Draft)) → has_request (Some (computed_of a.attempt o)) ≡ true
    go None = refl
    go (Some (x, d)) = refl
asks_there eval (Slot.Pending p) e = refl

-- whether some worker has a request, by what the workers do
abbrev some_request : {R : Type 0} → List (Doing R) → Bool
some_request ds = list_any (λ d. has_request (Some d)) ds

pub some_asks : {E R S : Type 0} (eval : Eval R) (slots : List (Slot E R S)) → list_any is_taken slots ≡ true → some_request (map (doing_of eval) slots) ≡ true
some_asks eval [] some = absurd cc
some_asks {E} {R} {S} eval (x ∷ slots) some = go (is_taken x) refl some (λ more. some_asks eval slots more)
  where
    either : (b : Bool) → (b || true) ≡ true
    either true = refl
    either false = refl

    go : (b : Bool) → is_taken x ≡ b → (b || list_any is_taken slots) ≡ true → (list_any is_taken slots ≡ true → some_request (map (doing_of eval) slots) ≡ true)
        → (has_request (Some (doing_of eval x)) || some_request (map (doing_of eval) slots)) ≡ true
    go true e _ rest = rw (asks_there eval x e) refl
    go false e more rest = rw (rest more) (either (has_request (Some (doing_of eval x))))

-- over any store without a vote
pub idle_stands : {E R S : Type 0} (eval : Eval R) (old new : StoreView) (slots : List (Slot E R S)) → CoreStands eval old slots → list_any is_taken slots ≡ false → new.out ≡ None → CoreStands eval new slots
idle_stands eval old new slots all none out = core_idle eval new slots all.count (all_idle_so slots none) out

-- while the store is read, and the vote is as it was
pub read_stands : {E R S : Type 0} (eval : Eval R) (old new : StoreView) (slots : List (Slot E R S)) → Carries old new → new.out ≡ old.out → CoreStands eval old slots → CoreStands eval new slots
read_stands eval old new slots carries out all = record { count = all.count; each = λ v s e. slot_over eval old new v s carries out (all.each v s e); voter = λ o e. all.voter o (sym out ∙ e) }

-- ---- as the code tests it

pub none_taken : {E R S : Type 0} (slots : List (Slot E R S)) (b : Bool) → b ≡ list_any is_taken slots → not b ≡ true → list_any is_taken slots ≡ false
none_taken slots b is e = sym is ∙ not-true b e

pub some_taken : {E R S : Type 0} (slots : List (Slot E R S)) (b : Bool) → b ≡ list_any is_taken slots → not b ≡ false → list_any is_taken slots ≡ true
some_taken slots b is e = sym is ∙ not-false b e

-- a worker has no request exactly where its slot isn't taken
pub free_at : {E R S : Type 0} (slots : List (Slot E R S)) (w : ℕ) (s : Slot E R S) (b : Bool) → slice_get slots w ≡ Some s → b ≡ is_taken s → (not b ≡ true) ↔ (slice_get slots w ≡ Some Slot.Idle)
free_at {E} {R} {S} slots w s b here is = (
  λ free. here ∙ ap (λ (x : Slot E R S). Some x) (idle_so s (sym is ∙ not-true b free)),
  λ idle. (let same : s ≡ (let none : Slot E R S = Slot.Idle in none) = some_same s _ (sym here ∙ idle) in ap not (is ∙ ap (λ (x : Slot E R S). is_taken x) same)),
)
