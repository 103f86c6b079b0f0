-- A run over the bytes of a file, from the store that was opened to its end.
use Rattle.std.proofs.Common.{◌≡◌, ℕ, List, None, Result, Ok, Err, ap, subst, sym, ◌∙◌}
use Rattle.std.specs.Prelude.{IfOk, IsErrOf, Option}
use Rattle.zbase.specs.Faults.{Arms}
use Rattle.zdisk.specs.Disk.{Told}
use Rattle.schedule.specs.declared.item.Item2.{Item2}
use Rattle.fs_record.specs.declared.damage.Damage.{Damage as Kind}
use Rattle.evaluator.specs.Exec.{Eval}
use Rattle.packing.specs.Reachable.{Linking}
use Rattle.fs_store.specs.Stores.{IsTold, StoreView}
use Rattle.txn_core.specs.Cores.{CoreView, IsAtRest}
use Rattle.replay.specs.declared.refusal.RunRefusal.{RunRefusal}
use Rattle.replay.specs.Kept.{IsOpened}
use Rattle.replay.specs.Refusals.{IsOfItems}
use Rattle.replay.specs.Replayed.{Replays, Runs}
use Rattle.replay.proofs.Flushing.{flushed}

-- the core over the opened store is an opened one
pub core_opened : {E R S : Type 0} (eval : Eval R) (bytes : List ℕ) (limit : ℕ) (s : StoreView) (core : CoreView E R S) → Runs bytes limit s → s.undecided ≡ None → core.store ≡ s → IsAtRest eval core → IsOpened eval bytes core
core_opened eval bytes limit s core runs decided same rest = record {
  told = subst IsTold (sym same) runs.told;
  running = ap (λ (st : StoreView). st.disk.counter.arms.stopped) same ∙ runs.running;
  unarmed = ap (λ (st : StoreView). st.disk.counter.arms.queue) same ∙ runs.unarmed;
  unhit = ap (λ (st : StoreView). st.disk.counter.arms.hits) same ∙ runs.unhit;
  rest = rest;
  decided = ap (λ (st : StoreView). st.undecided) same ∙ decided;
  begins = λ told at. runs.begins told (ap (λ (st : StoreView). st.disk.told) (sym same) ∙ at);
}

-- what follows of three facts on what came
pub if_all : {T E : Type 0} {P Q H W : T → Type 0} (r : Result T E) → ((x : T) → P x → Q x → H x → W x) → IfOk r P → IfOk r Q → IfOk r H → IfOk r W
if_all (Ok x) follows p q h = follows x p q h
if_all (Err e) follows p q h = tt

-- the items of a schedule are refused for no damage
pub items_no_damage : {T : Type 0} (e : RunRefusal) (kind : Kind) (place : ℕ) → IsOfItems e → IsErrOf {T = T} (Err e) (RunRefusal.Damaged kind place) → ⊥
items_no_damage RunRefusal.Output kind place of is = cc
items_no_damage RunRefusal.Memory kind place of is = cc
items_no_damage (RunRefusal.BadLine n) kind place of is = cc
items_no_damage (RunRefusal.Damaged k p) kind place of is = absurd of

-- what was due is what was written
pub flushed_replays : {R : Type 0} {takes : List ℕ → Option R} {eval : Eval R} {links : Linking} {limit : ℕ} {bytes : List ℕ} {items : List Item2} {disk : Option Told} {arms : Arms} (begun due old new : Option (List ℕ)) → begun ≡ old → new ≡ due → Replays takes eval links limit bytes items disk arms begun due → Replays takes eval links limit bytes items disk arms old new
flushed_replays {R} {takes} {eval} {links} {limit} {bytes} {items} {disk} {arms} begun due old new first end ran = flushed (λ o w. Replays takes eval links limit bytes items disk arms o w) begun due old new first end ran
