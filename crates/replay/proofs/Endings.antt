-- What the end of a run leaves of the store and of its disk.
use Rattle.std.proofs.Common.{◌≡◌, ℕ, List, [], ◌∷◌, ◌++◌, false, Bool, Option, Some, refl, sym, ap, subst, ◌∙◌, inl, inr, map}
use Rattle.zbase.specs.Faults.{Counts, IsFaultless}
use Rattle.zbase.specs.History.{History, added}
use Rattle.evaluator.specs.Exec.{Eval}
use Rattle.schedule.specs.declared.line.Line.{Line}
use Rattle.schedule.specs.Explained.{history_lines}
use Rattle.fs_store.specs.Arming.{disarming}
use Rattle.fs_store.specs.Stores.{DiskView, IsTold, Settles, StoreView, on_disk, settled}
use Rattle.connection.specs.Telling.{TellsOn, tells_forth}
use Rattle.txn_core.specs.Cores.{CoreView, is_taken}
use Rattle.txn_core.specs.Slots.{Closes, Possible, moment_of}
use Rattle.replay.specs.Losing.{lost_marks}
use Rattle.replay.specs.Printed.{Prints, closing}
use Rattle.replay.proofs.LostMarks.{marks_of_slots}

-- the store that the last opening found is one that may have stood behind this one
abbrev pub EndsAs : StoreView → History → Type 0
EndsAs s h = (may : StoreView) × Possible s may × (h ≡ may.history)

settled_ends : (s closed last : StoreView) → closed.history ≡ s.history → closed.undecided ≡ s.undecided → Settles closed last → EndsAs s last.history
settled_ends s closed last same undecided (inl e) = (s, inl refl, ap (λ (k : StoreView). k.history) e ∙ same)
settled_ends s closed last same undecided (inr (o, is, e)) = (settled s (Some o) s.disk, inr (o, sym undecided ∙ is, refl), ap (λ (k : StoreView). k.history) e ∙ ap (λ (h : History). added h o.transaction) same)

pub closed_ends : (s closed last : StoreView) (disk : DiskView) → Closes (on_disk s disk) false closed → Settles closed last → EndsAs s last.history
closed_ends s closed last disk (inl e) settles = settled_ends s closed last (ap (λ (k : StoreView). k.history) e) (ap (λ (k : StoreView). k.undecided) e) settles
closed_ends s closed last disk (inr e) settles = settled_ends s closed last (ap (λ (k : StoreView). k.history) e) (ap (λ (k : StoreView). k.undecided) e) settles

-- what was written by the marks of the slots closes the report at the moment of that store
pub closes_with : {E R S : Type 0} (eval : Eval R) (core : CoreView E R S) (may : StoreView) (h : History) (marks : List Bool) (old new : Option (List ℕ)) → marks ≡ map is_taken core.slots → h ≡ may.history → Prints old new (lost_marks marks ++ history_lines h ++ Line.End ∷ []) → Prints old new (closing (moment_of eval may core.slots))
closes_with eval core may h marks old new taken is printed =
    subst (λ ls. Prints old new (ls ++ history_lines may.history ++ Line.End ∷ [])) (marks_of_slots eval may 0 core.slots marks taken) (subst (λ k. Prints old new (lost_marks marks ++ history_lines k ++ Line.End ∷ [])) is printed)

-- ---- no call fails at the end

-- once nothing waits the disk is faultless
pub disarmed_calm : {E R S : Type 0} (core mid : CoreView E R S) → core.store.disk.counter.arms.stopped ≡ false → mid ≡ record { store = on_disk core.store (disarming core.store.disk); slots = core.slots }
    → (mid.store.disk.counter.arms.queue ≡ [] → mid.store.disk.counter.arms.stopped ≡ false → IsFaultless mid.store.disk.counter) → IsFaultless mid.store.disk.counter
disarmed_calm {E} {R} {S} core mid runs is calm = calm (ap (λ (k : CoreView E R S). k.store.disk.counter.arms.queue) is) (ap (λ (k : CoreView E R S). k.store.disk.counter.arms.stopped) is ∙ runs)

-- what the end of a run has done so far: no entry waits, and the slots are ended
pub record Closed {E R S : Type 0} (core : CoreView E R S) (closed : StoreView) : Type 0 where
  pub closes : Closes (on_disk core.store (disarming core.store.disk)) false closed
  pub told : IsTold closed
  pub tells : TellsOn core.store.disk.told closed.disk.told
  pub calm : IsFaultless closed.disk.counter

pub is_closed : {E R S : Type 0} (core mid : CoreView E R S) (closed : StoreView) → IsTold core.store → mid ≡ record { store = on_disk core.store (disarming core.store.disk); slots = core.slots } → IsFaultless mid.store.disk.counter
    → Closes mid.store false closed → TellsOn mid.store.disk.told closed.disk.told → Counts mid.store.disk.counter closed.disk.counter ⊥ → Closed core closed
is_closed {E} {R} {S} core mid closed told is calm closes tells counts =
    let on : TellsOn core.store.disk.told closed.disk.told = subst (λ d. TellsOn d closed.disk.told) (ap (λ (k : CoreView E R S). k.store.disk.told) is) tells in
    record {
      closes = subst (λ s. Closes s false closed) (ap (λ (k : CoreView E R S). k.store) is) closes;
      told = tells_forth core.store.disk.told closed.disk.told on told;
      tells = on;
      calm = (counts.calm calm).0;
    }
