-- What a stop at any moment may leave under a store.
use Rattle.std.specs.Prelude.{◌≡◌, ◌⊎◌, ◌+◌, ◌≤◌, ℕ, List, length, Option, Some, IfSome}
use Rattle.zbase.specs.History.{History, added}
use Rattle.zdisk.specs.Crashes.{LeavesFrom}
use Rattle.zdisk.specs.Disk.{Told}
use Rattle.zdisk.specs.Images.{IsImage}
use Rattle.fs_record.specs.File.{Front, IsFile}
use Rattle.fs_record.specs.Opening.{Cut}
use Rattle.fs_store.specs.Stores.{Out, StoreView, most_length}

-- The bytes open to the history, whose file ends there; they aren't longer than a file may be.
pub record OpensTo (bytes : List ℕ) (h : History) (end : ℕ) : Type 0 where
  pub fits : length bytes ≤ most_length
  pub front : Front
  pub cut : Cut bytes front end
  pub is : front.history ≡ h

-- to the history that is known
abbrev pub OpensAsBefore : StoreView → List ℕ → Type 0
OpensAsBefore s bytes = OpensTo bytes s.history s.end

-- to that and the transaction of a vote
abbrev pub OpensWith : StoreView → Out → List ℕ → Type 0
OpensWith s o bytes = OpensTo bytes (added s.history o.transaction) (s.end + o.size)

-- the bytes open to the known history, or to that and the undecided transaction
abbrev pub OpensAsKnown : StoreView → List ℕ → Type 0
OpensAsKnown s bytes = OpensAsBefore s bytes ⊎ ((o : Out) × (s.undecided ≡ Some o) × OpensWith s o bytes)

-- each image that a stop at any moment since a call began might leave opens to the history before the call, or to that and
-- the transaction that was undecided then
abbrev pub KeepsOpening : StoreView → StoreView → Type 0
KeepsOpening old new = LeavesFrom old.disk.told new.disk.told (λ file image. OpensAsKnown old image)

-- to the history before the call, or to that and the transaction of the vote
abbrev pub OpensToEither : StoreView → StoreView → Out → Type 0
OpensToEither old new o = LeavesFrom old.disk.told new.disk.told (λ file image. OpensAsBefore old image ⊎ OpensWith old o image)

-- each image that a stop now may leave opens to the history
abbrev pub EachOpensTo : History → ℕ → Told → Type 0
EachOpensTo h end told = (image : List ℕ) → IsImage told.now image → OpensTo image h end

-- The history before an opening is the one to which each image of the given disk opens. Each image that a stop at any
-- moment since the opening began might leave opens to it too.
abbrev pub KeepsGiven : Option Told → Option Told → Type 0
KeepsGiven old new = (h : History) (end : ℕ) → IfSome old (EachOpensTo h end) → LeavesFrom old new (λ file image. OpensTo image h end)

-- The one image is what reads give. It opens to the store's history, and where no vote is out it is a file of it.
pub record IsWhole (s : StoreView) (bytes : List ℕ) : Type 0 where
  pub front : Front
  pub file : IsFile bytes front
  pub is : front.history ≡ s.history
  pub ends : length bytes ≡ s.end
  pub fits : length bytes ≤ most_length
