-- What the states of a request are seen as.
use Rattle.std.specs.Prelude.{ℕ, ◌≡◌, All, List, [], ◌∷◌, map, Option, Some, None}
use Rattle.zbase.specs.declared.ids.Clash.{Clash}
use Rattle.evaluator.specs.declared.draft.Draft.{Draft}
use Rattle.evaluator.specs.declared.fact.Fact.{Fact}
use Rattle.evaluator.specs.declared.reply.Reply.{Reply}
use Rattle.schedule.specs.Moments.{Attempt}
use Rattle.fs_store.specs.declared.reads.Seen.{Seen}
use Rattle.fs_store.specs.Seeing.{IsSeen}
use Rattle.fs_store.specs.Stores.{StoreView}
use Rattle.connection.specs.declared.conflicts.Conflicts.{Conflicts}

-- the conflicts of a request so far, from the first
abbrev pub clashes_of : Conflicts → List Clash
clashes_of Conflicts.None = []
clashes_of (Conflicts.One a) = a ∷ []
clashes_of (Conflicts.Two a b) = a ∷ b ∷ []
clashes_of (Conflicts.Three a b c) = a ∷ b ∷ c ∷ []

-- a request with no attempt under way
pub record FreshView (R : Type 0) : Type 0 where
  pub request : R
  pub conflicts : Conflicts

-- an attempt, the objects that it fetched, and its reply and change once these are ready
pub record ActiveView (R : Type 0) : Type 0 where
  pub attempt : Attempt R
  pub reads : List Seen
  pub ready : Option (Reply × Draft)

-- an attempt that a request begins at this snapshot: it knows nothing yet
abbrev pub begun : {R : Type 0} → FreshView R → ℕ → ActiveView R
begun f at = record { attempt = record { request = f.request; clashes = clashes_of f.conflicts; snapshot = at; facts = [] }; reads = []; ready = None }

-- an attempt that has voted, with the reply that its commit gives
pub record PendingView (R : Type 0) : Type 0 where
  pub attempt : Attempt R
  pub reply : Reply
  pub tid : ℕ

-- the objects among the facts, with their serials
abbrev pub reads_of : List Fact → List (ℕ × ℕ)
reads_of [] = []
reads_of (Fact.Object o v s ∷ facts) = (o, s) ∷ reads_of facts
reads_of (Fact.Transaction t ps ∷ facts) = reads_of facts
reads_of (Fact.Log rows ∷ facts) = reads_of facts

-- an object that was read, with its serial
abbrev pub serial_seen : Seen → ℕ × ℕ
serial_seen seen = (seen.oid, seen.serial)

-- what was read are the objects among the facts
abbrev pub AreReads : List Seen → List Fact → Type 0
AreReads reads facts = map serial_seen reads ≡ reads_of facts

-- all of them were read so at some time of the store's history
abbrev pub AreSeen : StoreView → List Seen → Type 0
AreSeen s reads = All (IsSeen s) reads

-- a list of at most one object
abbrev pub listed : Option Seen → List Seen
listed None = []
listed (Some s) = s ∷ []
