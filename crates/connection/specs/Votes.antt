-- What a vote makes of an attempt whose change is ready.
use Rattle.std.specs.Prelude.{ℕ, ◌≡◌, ◌<◌, ◌⊎◌, false, [], ◌∷◌, ◌++◌, length, Option, Some, None}
use Rattle.zbase.specs.declared.ids.Clash.{Clash}
use Rattle.evaluator.specs.declared.draft.Draft.{Draft}
use Rattle.evaluator.specs.declared.reply.Reply.{Reply}
use Rattle.schedule.specs.Moments.{Attempt}
use Rattle.schedule.specs.Stepping.{first_clash}
use Rattle.fs_store.specs.declared.refusal.VoteRefusal.{VoteRefusal}
use Rattle.fs_store.specs.Stores.{IsTold, Loses, Out, Settles, Stands, StoreView, idle}
use Rattle.fs_store.specs.Verdicts.{validation, tid_at, voted_out}
use Rattle.connection.specs.declared.refusal.CommitRefusal.{CommitRefusal}
use Rattle.connection.specs.States.{ActiveView, PendingView, clashes_of}

-- the refusal that applies to an attempt, by its facts: every object that it fetched is validated
abbrev pub ruling_of : Option Out → StoreView → Option Clash → Draft → Option VoteRefusal
ruling_of (Some o) s c d = Some (VoteRefusal.Busy o.holder)
ruling_of None s c d = validation s d c

abbrev pub ruling : {R : Type 0} → StoreView → Attempt R → Draft → Option VoteRefusal
ruling s a d = ruling_of s.out s (first_clash s.history a.facts) d

-- where the store tells, it was opened again where it was stale, and this is the ruling over what it then holds
abbrev pub IsRuled : {R : Type 0} → StoreView → StoreView → Attempt R → Draft → VoteRefusal → Type 0
IsRuled old new a d e = IsTold old → Settles old new × (ruling new a d ≡ Some e)

-- this worker's vote is out
abbrev pub IsHeldBy : StoreView → ℕ → Type 0
IsHeldBy s w = (o : Out) × (s.out ≡ Some o) × (o.holder ≡ w)

-- A refusal of the store, over an attempt: want of memory, a fault, or the ruling over the store once it is settled.
pub record WasRefused {R : Type 0} (old new : StoreView) (a : Attempt R) (d : Draft) (e : VoteRefusal) : Type 0 where
  pub none : (e ≡ VoteRefusal.Memory) ⊎ (e ≡ VoteRefusal.Disk) → old.out ≡ None
  pub holder : (w : ℕ) → e ≡ VoteRefusal.Busy w → IsHeldBy old w
  pub stands : e ≡ VoteRefusal.Memory → IsTold old → Stands old new
  pub loses : e ≡ VoteRefusal.Disk → IsTold old → Loses old new
  pub ruled : (e ≡ VoteRefusal.Memory → ⊥) → (e ≡ VoteRefusal.Disk → ⊥) → IsRuled old new a d e

-- the attempt without its reply and its change
abbrev pub unready : {R : Type 0} → ActiveView R → ActiveView R
unready a = record { attempt = a.attempt; reads = a.reads; ready = None }

-- what is left of an attempt whose vote met want of memory or a failing disk: its reply and its change may be used up
abbrev pub IsLeftOf : {R : Type 0} → ActiveView R → ActiveView R → Type 0
IsLeftOf a back = (back ≡ a) ⊎ (back ≡ unready a)

-- the attempt as it was, or, behind want of memory or a failing disk, what is left of it
abbrev pub ComesBack : {R : Type 0} → ActiveView R → VoteRefusal → ActiveView R → Type 0
ComesBack a e back = (back ≡ a) ⊎ ((back ≡ unready a) × ((e ≡ VoteRefusal.Memory) ⊎ (e ≡ VoteRefusal.Disk)))

-- Each refusal has its cause, where the store tells in the store once that is settled, and hands the state back: the
-- attempt as it was, or the request with its conflict kept. At the fourth conflict it is given up. Behind want of memory or
-- a failing disk the request ends, and the attempt may come back without its reply and its change.
abbrev pub IsRefused : {E R S : Type 0} → StoreView → StoreView → ActiveView R → Draft → CommitRefusal E R S → Type 0
IsRefused old new a d (CommitRefusal.Busy w back) = (back ≡ a) × IsHeldBy old w × IsRuled old new a.attempt d (VoteRefusal.Busy w)
IsRefused old new a d (CommitRefusal.Conflict c back) = (length a.attempt.clashes < 3) × (back.request ≡ a.attempt.request) × (clashes_of back.conflicts ≡ a.attempt.clashes ++ c ∷ []) × IsRuled old new a.attempt d (VoteRefusal.Conflict c)
IsRefused old new a d (CommitRefusal.GivenUp cs) = (c : Clash) × (length a.attempt.clashes ≡ 3) × (cs ≡ a.attempt.clashes ++ c ∷ []) × IsRuled old new a.attempt d (VoteRefusal.Conflict c)
IsRefused old new a d (CommitRefusal.Spent k back) = (back ≡ a) × IsRuled old new a.attempt d (VoteRefusal.Spent k)
IsRefused old new a d (CommitRefusal.Disk back) = IsLeftOf a back × (old.out ≡ None) × (IsTold old → Loses old new)
IsRefused old new a d (CommitRefusal.Memory back) = IsLeftOf a back × (old.out ≡ None) × (IsTold old → Stands old new)

abbrev pub IsDiskRefusal : {E R S : Type 0} → CommitRefusal E R S → Type 0
IsDiskRefusal (CommitRefusal.Disk back) = Unit {0}
IsDiskRefusal _ = ⊥

-- The vote is out. Where the store tells, its transaction is the one that settling gives over what the store holds once it
-- was opened again, and stands once it is finished.
pub record IsVoted {R : Type 0} (old new : StoreView) (holder now : ℕ) (a : Attempt R) (x : Reply) (d : Draft) (p : PendingView R) : Type 0 where
  pub attempt : p.attempt ≡ a
  pub reply : p.reply ≡ x
  pub none : old.out ≡ None
  pub held : (o : Out) × (new.out ≡ Some o) × (o.holder ≡ holder) × (o.transaction.tid ≡ p.tid) × (new.stale ≡ false)
  pub settles : IsTold old → Settles old (idle new)
  pub free : IsTold old → ruling (idle new) a d ≡ None
  pub tid : IsTold old → p.tid ≡ tid_at new.history now
  pub out : IsTold old → new.out ≡ Some (voted_out (idle new) holder d p.tid)
