-- What opening a store makes of its disk, and why it may be refused.
use Rattle.std.specs.Prelude.{◌≡◌, ◌⊎◌, ℕ, ◌+◌, ◌<◌, ◌≤◌, false, List, [], ◌∷◌, length, take, drop, Option, Some, None, IfSome}
use Rattle.fs_record.specs.File.{Front, IsFile}
use Rattle.fs_record.specs.Opening.{Cut, Damaged, status_in}
use Rattle.zdisk.specs.Calls.{AnyImage, Follows, Mixed, changed, put}
use Rattle.zdisk.specs.Disk.{Held, Told, content}
use Rattle.fs_scan.specs.Scanned.{CostsScan}
use Rattle.fs_store.specs.declared.opening.OpenRefusal.{OpenRefusal}
use Rattle.fs_store.specs.Stores.{StoreView, most_length}

-- ---- the calls that may change the file

-- what is held is synced
abbrev pub Synced : Held → Held → Type 0
Synced held next = next ≡ record { now = held.now; before = [] }

-- the file is cut
abbrev pub CutAt : ℕ → Held → Held → Type 0
CutAt to held next = next ≡ changed (take to held.now) held

-- A rest without a whole head, or of status c or 0, is torn whichever of its bytes are lost. Any other torn rest is one
-- by its length alone, and bytes of that may be lost while it is cut off.
abbrev pub StaysTorn : List ℕ → Type 0
StaysTorn rest = (length rest < 23) ⊎ ((status_in rest ≡ 99) ⊎ (status_in rest ≡ 0))

abbrev pub RestStaysTorn : Option Told → ℕ → Type 0
RestStaysTorn disk end = IfSome disk (λ told. StaysTorn (drop end (content told)))

-- bytes of it may be lost so that it isn't torn any more
abbrev pub MayNotStay : Option Told → ℕ → Type 0
MayNotStay disk end = IfSome disk (λ told. StaysTorn (drop end (content told)) → ⊥)

-- the file whose rest has the status c
abbrev pub waiting_from : ℕ → List ℕ → List ℕ
waiting_from end bytes = put (end + 16) (99 ∷ []) bytes

abbrev pub StatusSet : ℕ → Held → Held → Type 0
StatusSet end held next = next ≡ changed (waiting_from end held.now) held

-- a change, and a sync
pub record Brings (Change : Held → Held → Type 0) (old new : Option Told) : Type 0 where
  pub between : Option Told
  pub change : Follows old between Change
  pub synced : Follows between new Synced

-- a rest that may not stay torn gets the status c first, and that is synced
abbrev pub Readies : Option Told → Option Told → ℕ → Type 0
Readies old new end = ((new ≡ old) × RestStaysTorn old end) ⊎ (MayNotStay old end × Brings (StatusSet end) old new)

-- the file is cut, and that is synced
pub record CutsOff (old new : Option Told) (end : ℕ) : Type 0 where
  pub readied : Option Told
  pub ready : Readies old readied end
  pub cut : Brings (CutAt end) readied new

-- without a torn rest the file is synced once; else the rest is cut off
pub record Tidies (old new : Option Told) (end torn : ℕ) : Type 0 where
  pub first : Option Told
  pub synced : Follows old first Synced
  pub then : ((torn ≡ 0) × (new ≡ first)) ⊎ ((0 < torn) × CutsOff first new end)

-- ---- what it costs

-- What it may cost to open the bytes: a scan, and seven calls. The file is synced, and its length looked at; the status of a
-- torn rest is read and set, and the file cut, and each of both synced.
abbrev pub CostsOpening : List ℕ → ℕ → ℕ → Type 0
CostsOpening bytes calls more = CostsScan bytes (calls + 7) more

-- ---- a store that is open

-- a relation of what two disks tell; either both tell or none
abbrev pub WhereTold : Option Told → Option Told → (Told → Told → Type 0) → Type 0
WhereTold None None R = Unit {0}
WhereTold (Some old) (Some new) R = R old new
WhereTold None (Some new) R = ⊥
WhereTold (Some old) None R = ⊥

-- the bytes open to the store's history, and what is left of them is the file up to the store's end
pub record OpensAs (bytes left : List ℕ) (s : StoreView) (torn : ℕ) : Type 0 where
  pub fits : length bytes ≤ most_length
  pub front : Front
  pub cut : Cut bytes front s.end
  pub rest : s.end + torn ≡ length bytes
  pub kept : left ≡ take s.end bytes
  pub file : IsFile left front
  pub history : s.history ≡ front.history

-- the store of the history to which the disk's file opens, which may have so many bytes; no vote is out
pub record Opens (old : Option Told) (limit : ℕ) (s : StoreView) : Type 0 where
  pub torn : ℕ
  pub calls : Tidies old s.disk.told s.end torn
  pub told : WhereTold old s.disk.told (λ before after. OpensAs (content before) (content after) s torn)
  pub limit_is : s.limit ≡ limit
  pub idle : s.out ≡ None
  pub fresh : s.stale ≡ false

-- ---- a store that isn't opened

abbrev pub IsRefusedFor : Option Told → OpenRefusal → Type 0
IsRefusedFor disk (OpenRefusal.Damaged kind place) = IfSome disk (λ told. (length (content told) ≤ most_length) × Damaged (content told) place kind)
IsRefusedFor disk OpenRefusal.Disk = Unit {0}
IsRefusedFor disk (OpenRefusal.TooLong n) = (most_length < n) × IfSome disk (λ told. n ≡ length (content told))
IsRefusedFor disk OpenRefusal.Memory = Unit {0}

-- the sync behind a change failed
pub record SyncFailed (Change : Held → Held → Type 0) (old new : Option Told) : Type 0 where
  pub between : Option Told
  pub change : Follows old between Change
  pub failed : Follows between new AnyImage

-- the change failed, or the sync behind it
abbrev pub BringsNot : (List ℕ → List ℕ) → Option Told → Option Told → Type 0
BringsNot f old new = Follows old new (λ held next. Mixed held (f held.now) next) ⊎ SyncFailed (λ held next. next ≡ changed (f held.now) held) old new

-- the cut failed, or the sync behind it
pub record CutFailed (old new : Option Told) (end : ℕ) : Type 0 where
  pub readied : Option Told
  pub ready : Readies old readied end
  pub failed : BringsNot (take end) readied new

-- the rest's status couldn't be read, or not be set, or the file not be cut
abbrev pub CutOffFailed : Option Told → Option Told → ℕ → Type 0
CutOffFailed old new end = (new ≡ old) ⊎ ((MayNotStay old end × BringsNot (waiting_from end) old new) ⊎ CutFailed old new end)

-- cutting the file's torn rest off failed
pub record TornStayed (old new : Option Told) : Type 0 where
  pub end : ℕ
  pub first : Option Told
  pub synced : Follows old first Synced
  pub opens : IfSome old (λ told. (front : Front) × Cut (content told) front end)
  pub failed : CutOffFailed first new end

-- How a refused opening leaves the disk. The sync comes first, before the length is looked at and anything is read: so the
-- file is as it was, but synced, or that sync failed, or a call that cuts the torn rest off. Only memory may have been
-- wanting before the first call.
abbrev pub LeavesDisk : Option Told → Option Told → OpenRefusal → Type 0
LeavesDisk old new (OpenRefusal.Damaged kind place) = Follows old new Synced
LeavesDisk old new OpenRefusal.Disk = Follows old new Synced ⊎ (Follows old new AnyImage ⊎ TornStayed old new)
LeavesDisk old new (OpenRefusal.TooLong n) = Follows old new Synced
LeavesDisk old new OpenRefusal.Memory = (new ≡ old) ⊎ Follows old new Synced
