-- What a store is seen as: its history, where its file ends, the vote that is out, and its disk.
use Rattle.std.specs.Prelude.{ℕ, ◌≡◌, ◌⊎◌, ◌+◌, Bool, true, false, Option, Some, None, IsSome}
use Rattle.zbase.specs.Faults.{Counter, IsFaultless}
use Rattle.zbase.specs.History.{Transaction, History, added}
use Rattle.zdisk.specs.Disk.{Told}
use Rattle.evaluator.specs.declared.ask.Ask.{Ask}
use Rattle.evaluator.specs.declared.draft.Draft.{Draft}
use Rattle.evaluator.specs.declared.fact.Fact.{Fact}
use Rattle.evaluator.specs.Change.{IsChange}

-- a vote that is out: who holds it, the transaction that stands once it is finished, and that one's size
pub record Out : Type 0 where
  pub holder : ℕ
  pub transaction : Transaction
  pub size : ℕ

-- what is known of a disk: what it tells, its counts, and for what it has room
pub record DiskView : Type 0 where
  pub told : Option Told
  pub counter : Counter
  pub spare_calls : ℕ
  pub spare_bytes : ℕ

-- The history is the one that the disk's file says, where the disk tells. A store is stale from a failure of its disk in
-- a vote, a finish or an abort until the disk is opened again. It holds no vote then, and its history is the one that was
-- known. Whether the transaction of a finish that failed counts is undecided until then.
pub record StoreView : Type 0 where
  pub history : History
  pub end : ℕ
  pub limit : ℕ
  pub out : Option Out
  pub undecided : Option Out
  pub stale : Bool
  pub disk : DiskView

-- the greatest length of a file
abbrev pub most_length : ℕ
most_length = 281474976710655

-- the disk tells what it holds
abbrev pub IsTold : StoreView → Type 0
IsTold s = IsSome s.disk.told

-- the disk tells and can't fail, and it never failed
pub record IsSteady (s : StoreView) : Type 0 where
  pub told : IsTold s
  pub faultless : IsFaultless s.disk.counter
  pub fresh : s.stale ≡ false

-- the same store over this disk
abbrev pub on_disk : StoreView → DiskView → StoreView
on_disk s disk = record { history = s.history; end = s.end; limit = s.limit; out = s.out; undecided = s.undecided; stale = s.stale; disk = disk }

-- the same store with this vote out, over this disk
abbrev pub voting : StoreView → Option Out → DiskView → StoreView
voting s o disk = record { history = s.history; end = s.end; limit = s.limit; out = o; undecided = s.undecided; stale = s.stale; disk = disk }

-- the same store without the vote that is out
abbrev pub idle : StoreView → StoreView
idle s = voting s None s.disk

-- the same store with no vote out, stale: a vote or an abort failed
abbrev pub staled : StoreView → DiskView → StoreView
staled s disk = record { history = s.history; end = s.end; limit = s.limit; out = None; undecided = None; stale = true; disk = disk }

-- the same store, stale; it isn't decided whether the vote that was out stands: a finish failed
abbrev pub unsettled : StoreView → DiskView → StoreView
unsettled s disk = record { history = s.history; end = s.end; limit = s.limit; out = None; undecided = s.out; stale = true; disk = disk }

-- the vote that is out stands
abbrev pub finished : StoreView → Option Out → DiskView → StoreView
finished s None disk = on_disk s disk
finished s (Some o) disk = record { history = added s.history o.transaction; end = s.end + o.size; limit = s.limit; out = None; undecided = s.undecided; stale = s.stale; disk = disk }

-- the store once its disk was opened again: without the undecided transaction, or with it
abbrev pub settled : StoreView → Option Out → DiskView → StoreView
settled s None disk = record { history = s.history; end = s.end; limit = s.limit; out = s.out; undecided = None; stale = false; disk = disk }
settled s (Some o) disk = record { history = added s.history o.transaction; end = s.end + o.size; limit = s.limit; out = s.out; undecided = None; stale = false; disk = disk }

-- The store isn't stale any more. Its history is the known one, or that and the undecided transaction. A store that wasn't
-- stale stays as it was.
abbrev pub Settles : StoreView → StoreView → Type 0
Settles old new = (new ≡ settled old None new.disk) ⊎ ((o : Out) × (old.undecided ≡ Some o) × (new ≡ settled old (Some o) new.disk))

-- nothing but the disk changed, or the store was opened again
abbrev pub Stands : StoreView → StoreView → Type 0
Stands old new = (new ≡ on_disk old new.disk) ⊎ Settles old new

-- What a vote leaves whose disk failed: nothing but the disk changed, since it wasn't opened again; or the store is stale
-- behind its opening.
abbrev pub Loses : StoreView → StoreView → Type 0
Loses old new = (new ≡ on_disk old new.disk) ⊎ ((opened : StoreView) × Settles old opened × (new ≡ staled opened new.disk))

-- the vote that is out is this one
abbrev pub IsVoteOf : StoreView → ℕ → Type 0
IsVoteOf s tid = (o : Out) × (s.out ≡ Some o) × (o.transaction.tid ≡ tid)

-- the draft keeps the rules of a change, over something that is known
abbrev pub IsDraft : Draft → Type 0
IsDraft d = (known : Ask → Option Fact) × IsChange known d

-- a call that only reads: nothing is changed but the counts of the disk
pub record Stays (old new : StoreView) : Type 0 where
  pub same : new ≡ on_disk old new.disk
  pub told : new.disk.told ≡ old.disk.told
  pub spare : (new.disk.spare_calls ≡ old.disk.spare_calls) × (new.disk.spare_bytes ≡ old.disk.spare_bytes)
