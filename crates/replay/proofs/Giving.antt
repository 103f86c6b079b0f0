-- A request that isn't given can't be run.
use Rattle.std.proofs.Common.{◌≡◌, ◌≤◌, ◌⊎◌, ℕ, zero, suc, List, [], ◌∷◌, Option, Some, None, refl, map, slice_get, length, ap, inl, inr, arith}
use Rattle.std.proofs.lemmas.Option.{slice_get_within}
use Rattle.evaluator.specs.declared.draft.Draft.{Draft}
use Rattle.evaluator.specs.declared.reply.Reply.{Reply}
use Rattle.evaluator.specs.Exec.{Eval}
use Rattle.schedule.specs.declared.item.Item2.{Item2}
use Rattle.schedule.specs.Moments.{Attempt, Terms, Free, clocked}
use Rattle.replay.specs.BrokenOff.{CannotRun}
use Rattle.txn_core.specs.Cores.{CoreView, IsIdle}
use Rattle.txn_core.specs.declared.slot.Slot.{Slot}
use Rattle.txn_core.specs.Slots.{computed_of, doing_of, moment_of}

-- there is no seventeenth worker
pub not_idle : {E R S : Type 0} (core : CoreView E R S) (w : ℕ) → length core.slots ≡ 16 → 16 ≤ w → IsIdle core w → ⊥
not_idle core w count beyond idle = omega (arith, slice_get_within core.slots w _ idle, count, beyond)

computed_taken : {R : Type 0} (a : Attempt R) (ready : Option (Reply × Draft)) → computed_of a ready ≡ Free → ⊥
computed_taken a None e = cc
computed_taken a (Some (x, d)) e = cc

free_slot : {E R S : Type 0} (eval : Eval R) (s : Slot E R S) → doing_of eval s ≡ Free → s ≡ Slot.Idle
free_slot eval Slot.Idle e = refl
free_slot eval (Slot.Fresh f) e = cc
free_slot eval (Slot.Active a) e = cc
free_slot eval (Slot.Computed a) e = absurd (computed_taken a.attempt a.ready e)
free_slot eval (Slot.Pending p) e = cc

free_at : {E R S : Type 0} (eval : Eval R) (ss : List (Slot E R S)) (w : ℕ) → slice_get (map (doing_of eval) ss) w ≡ Some Free → slice_get ss w ≡ Some Slot.Idle
free_at eval [] w e = cc
free_at {E} {R} {S} eval (s ∷ ss) zero e = (let free : doing_of eval s ≡ Free = cc in ap (λ (k : Slot E R S). Some k) (free_slot eval s free))
free_at eval (s ∷ ss) (suc w) e = free_at eval ss w e

-- a request that isn't given can't be run
pub refused : {E R S : Type 0} (terms : Terms R) (eval : Eval R) (core : CoreView E R S) (now w : ℕ) (bytes : List ℕ) → (terms.takes bytes ≡ None) ⊎ (IsIdle core w → ⊥) → CannotRun terms (clocked (moment_of eval core.store core.slots) now) (Item2.Request w bytes)
refused terms eval core now w bytes (inl none) = inl none
refused terms eval core now w bytes (inr taken) = inr (λ free. taken (free_at eval core.slots w free))
