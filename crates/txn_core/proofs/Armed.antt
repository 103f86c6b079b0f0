-- Workers over a store whose disk alone changes.
use Rattle.std.proofs.Common.{◌≡◌, List, ap, sym, ◌∙◌}
use Rattle.std.specs.Prelude.{Err, Ok, OnErr, OnOk}
use Rattle.std.specs.declared.result.Result.{Result}
use Rattle.fs_store.specs.Stores.{DiskView, StoreView, on_disk}
use Rattle.txn_core.specs.Cores.{CoreView}
use Rattle.txn_core.specs.declared.slot.Slot.{Slot}

-- these workers over this store
abbrev over : {E R S : Type 0} → StoreView → List (Slot E R S) → CoreView E R S
over store slots = record { store = store; slots = slots }

same_over : {E R S : Type 0} (a b : StoreView) (slots : List (Slot E R S)) → a ≡ b → over a slots ≡ over b slots
same_over {E} {R} {S} a b slots same = ap (λ (s : StoreView). over {E = E} {R = R} {S = S} s slots) same

pub same_on_ok : {E R S A B : Type 0} (r : Result A B) (a b : StoreView) (slots : List (Slot E R S)) → OnOk r (a ≡ b) → OnOk r (over a slots ≡ over b slots)
same_on_ok (Ok x) a b slots same = same_over a b slots same
same_on_ok (Err x) a b slots same = tt

pub same_on_err : {E R S A B : Type 0} (r : Result A B) (a b : StoreView) (slots : List (Slot E R S)) → OnErr r (a ≡ b) → OnErr r (over a slots ≡ over b slots)
same_on_err (Ok x) a b slots same = tt
same_on_err (Err x) a b slots same = same_over a b slots same

-- of a store that is known to be one over another disk nothing but the disk changed
pub on_its_disk : (old new : StoreView) (disk : DiskView) → new ≡ on_disk old disk → new ≡ on_disk old new.disk
on_its_disk old new disk is = is ∙ ap (λ (s : StoreView). on_disk old s.disk) (sym is)
