-- What the pack of a file comes to.
use Rattle.std.specs.Prelude.{◌≡◌, ◌≤◌, ◌⊎◌, ◌++◌, ◌∷◌, ℕ, Bool, false, List, [], length, min, None, Option, nat_lt, true}
use Rattle.zbase.specs.Faults.{Spends, no_arms}
use Rattle.zbase.specs.History.{History}
use Rattle.zbase.specs.Limits.{greatest_number}
use Rattle.packing.specs.Packed.{packed}
use Rattle.packing.specs.Reachable.{AreReadable, IsKeep, IsUnreadable, Linking}
use Rattle.packing.specs.Sizes.{full_size}
use Rattle.fs_pack.specs.declared.refusal.PackRefusal.{PackRefusal}
use Rattle.fs_pack.specs.declared.refusal.PackRefusal.TheVariants as refusals
use Rattle.schedule.specs.declared.line.Line.{Line}
use Rattle.schedule.specs.Explained.{history_lines}
use Rattle.zdisk.specs.Arming.{taking}
use Rattle.fs_store.specs.Moments.{OpensTo}
use Rattle.fs_store.specs.Stores.{IsTold, StoreView, on_disk}
use Rattle.txn_core.specs.Cores.{CoreView}
use Rattle.replay.specs.Printed.{Prints}
use Rattle.replay.specs.declared.pack.Unmade.{Unmade}

-- the store of a history whose file ends there: no vote is out, nothing is undecided, and its disk tells
pub record IsStoreOf (h : History) (end limit : ℕ) (store : StoreView) : Type 0 where
  pub history : store.history ≡ h
  pub ends : store.end ≡ end
  pub idle : store.out ≡ None
  pub fresh : store.stale ≡ false
  pub decided : store.undecided ≡ None
  pub limit_is : store.limit ≡ limit
  pub told : IsTold store

-- the store of the packed history, on a disk of its own on which nothing is armed and was hit; and what the pack says of it
pub record IsPacked (links : Linking) (limit t : ℕ) (h : History) (store : StoreView) (floor count : ℕ) : Type 0 where
  pub keep : ℕ → Bool
  pub kept : IsKeep links h t keep
  pub readable : AreReadable links h t keep
  pub fits : full_size (packed keep h t) ≤ limit
  pub floor_is : floor ≡ (packed keep h t).floor
  pub count_is : count ≡ length (packed keep h t).transactions
  pub stands : IsStoreOf (packed keep h t) (full_size (packed keep h t)) limit store
  pub unarmed : Spends no_arms store.disk.counter.arms

-- these bytes are the packed file, and this is said of it
pub record IsMade (links : Linking) (limit t : ℕ) (h : History) (left : List ℕ) (floor count : ℕ) : Type 0 where
  pub keep : ℕ → Bool
  pub kept : IsKeep links h t keep
  pub readable : AreReadable links h t keep
  pub fits : full_size (packed keep h t) ≤ limit
  pub floor_is : floor ≡ (packed keep h t).floor
  pub count_is : count ≡ length (packed keep h t).transactions
  pub opens : OpensTo left (packed keep h t) (full_size (packed keep h t))

-- an object that is kept can't be read, of which the least is named
pub record IsUnreadableAt (links : Linking) (t : ℕ) (h : History) (o : ℕ) : Type 0 where
  pub keep : ℕ → Bool
  pub kept : IsKeep links h t keep
  pub bad : IsUnreadable links h t keep o

-- the packed file would be longer than the limit
pub record IsFullAt (links : Linking) (limit t : ℕ) (h : History) (need : ℕ) : Type 0 where
  pub keep : ℕ → Bool
  pub kept : IsKeep links h t keep
  pub readable : AreReadable links h t keep
  pub large : nat_lt limit (full_size (packed keep h t)) ≡ true
  pub need_is : need ≡ min (full_size (packed keep h t)) greatest_number

-- why a file of this history isn't packed: for want of memory, or by what the history is
abbrev pub IsUnmade : Linking → ℕ → ℕ → History → Unmade → Type 0
IsUnmade links limit t h Unmade.Memory = Unit {0}
IsUnmade links limit t h (Unmade.Unreadable o) = IsUnreadableAt links t h o
IsUnmade links limit t h (Unmade.Full need) = IsFullAt links limit t h need

-- a refusal of a pack of a file without damage, where no disk fails
abbrev pub IsCalm : PackRefusal → Type 0
IsCalm (refusals.Damaged kind place) = ⊥
IsCalm refusals.From = ⊥
IsCalm refusals.To = ⊥
IsCalm _ = Unit {0}

abbrev pub why_unmade : PackRefusal → Unmade
why_unmade (refusals.Unreadable o) = Unmade.Unreadable o
why_unmade (refusals.Full need limit) = Unmade.Full need
why_unmade _ = Unmade.Memory

-- what is said of it
abbrev pub unmade_line : ℕ → Unmade → Line
unmade_line limit Unmade.Memory = Line.PackMemory
unmade_line limit (Unmade.Unreadable o) = Line.PackUnreadable o
unmade_line limit (Unmade.Full need) = Line.PackFull need limit

-- What is made of a core whose file was read: it goes on over the packed file, whose disk took over what was armed and hit; or it
-- is as it was, and a line says why.
pub record IsDone {E R S : Type 0} (links : Linking) (limit t : ℕ) (old new : CoreView E R S) (before behind : Option (List ℕ)) : Type 0 where
  pub store : StoreView
  pub floor : ℕ
  pub count : ℕ
  pub packed : IsPacked links limit t old.store.history store floor count
  pub goes_on : new.store ≡ on_disk store new.store.disk
  pub told : new.store.disk.told ≡ store.disk.told
  pub taken : new.store.disk.counter ≡ taking store.disk.counter old.store.disk.counter
  pub slots : new.slots ≡ old.slots
  pub printed : Prints before behind (history_lines old.store.history ++ Line.Packed floor count ∷ [])

pub record IsRefused {E R S : Type 0} (links : Linking) (limit t : ℕ) (old new : CoreView E R S) (before behind : Option (List ℕ)) : Type 0 where
  pub same : new ≡ old
  pub why : Unmade
  pub is : IsUnmade links limit t old.store.history why
  pub printed : Prints before behind (unmade_line limit why ∷ [])

abbrev pub PackedFrom : {E R S : Type 0} → Linking → ℕ → ℕ → CoreView E R S → CoreView E R S → Option (List ℕ) → Option (List ℕ) → Type 0
PackedFrom links limit t old new before behind = IsDone links limit t old new before behind ⊎ IsRefused links limit t old new before behind
