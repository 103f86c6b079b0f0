-- A call of the store in a step leaves what a step may leave.
use Rattle.std.proofs.Common.{◌≡◌, ℕ, List, Some, inl, inr}
use Rattle.std.specs.Prelude.{◌⊎◌, IfSome}
use Rattle.zdisk.specs.Images.{IsImage}
use Rattle.zdisk.specs.MomentLaws.{leaves_as}
use Rattle.fs_store.specs.Moments.{KeepsOpening, OpensAsBefore, OpensAsKnown, OpensToEither, OpensWith}
use Rattle.fs_store.specs.Stores.{Out, StoreView}
use Rattle.connection.specs.Telling.{keeps_still}
use Rattle.txn_core.specs.Crashing.{KeepsNearly, OpensNearly}
use Rattle.txn_core.specs.Slots.{PendingStands}
use Rattle.connection.specs.States.{PendingView}

pub opening_nearly : (old new : StoreView) → KeepsOpening old new → KeepsNearly old new
opening_nearly old new keeps = leaves_as old.disk.told new.disk.told (λ file image. OpensAsKnown old image) (λ file image. OpensNearly old image) (λ told is image opens. inl opens) keeps

either_nearly : (old : StoreView) (o : Out) (image : List ℕ) → old.out ≡ Some o → OpensAsBefore old image → OpensNearly old image
either_nearly old o image out opens = inl (inl opens)

with_nearly : (old : StoreView) (o : Out) (image : List ℕ) → old.out ≡ Some o → OpensWith old o image → OpensNearly old image
with_nearly old o image out opens = inr (o, out, opens)

pub finish_nearly : {R : Type 0} (old new : StoreView) (w : ℕ) (p : PendingView R) → PendingStands old w p → ((o : Out) → old.out ≡ Some o → OpensToEither old new o) → KeepsNearly old new
finish_nearly old new w p vote leaves =
    leaves_as old.disk.told new.disk.told (λ file image. OpensAsBefore old image ⊎ OpensWith old vote.0 image) (λ file image. OpensNearly old image)
    (λ told is image opens. elim opens [ inl before ↦ either_nearly old vote.0 image vote.1 before | inr more ↦ with_nearly old vote.0 image vote.1 more ])
    (leaves vote.0 vote.1)

-- where no call was made
pub nearly_still : (s : StoreView) → IfSome s.disk.told (λ told. (image : List ℕ) → IsImage told.now image → OpensAsKnown s image) → KeepsNearly s s
nearly_still s now = opening_nearly s s (keeps_still s now)
