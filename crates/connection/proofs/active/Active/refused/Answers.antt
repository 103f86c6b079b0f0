use Rattle.std.proofs.Common.{inl, inr, subst, sym}
use Rattle.connection.specs.States.{ActiveView}
use Rattle.connection.specs.Votes.{IsRefused, IsRuled}
use Rattle.fs_store.specs.declared.refusal.VoteRefusal.{VoteRefusal}
use Rattle.connection.proofs.Validating.{came_left, came_whole, ruled_as}
use Rattle.connection.proofs.active.Active.refused.Goals as goal

pub returns-in-Busy-clause-refused : goal.returns-in-Busy-clause-refused
returns-in-Busy-clause-refused g c = λ old new a d back why.
    (came_whole a _ c.args.refusal (VoteRefusal.Busy c.in-Busy.holder) c.in-Busy.is (λ e. cc) (λ e. cc) back, why.holder c.in-Busy.holder c.in-Busy.is, ruled_as old new a.attempt d c.args.refusal (VoteRefusal.Busy c.in-Busy.holder) c.in-Busy.is (λ e. cc) (λ e. cc) why)

pub returns-in-Conflict-clause-refused : goal.returns-in-Conflict-clause-refused
returns-in-Conflict-clause-refused g c = λ old new a d back why.
    (let it : ActiveView _ = c.args.self in
    let conflict = VoteRefusal.Conflict c.in-Conflict.clash in
    let whole = came_whole a it c.args.refusal conflict c.in-Conflict.is (λ e. cc) (λ e. cc) back in
    let ruled = ruled_as old new a.attempt d c.args.refusal conflict c.in-Conflict.is (λ e. cc) (λ e. cc) why in
    subst (λ k. IsRefused old new k d c.again.result) whole (c.again.ensures.refused old new d (subst (λ (k : ActiveView _). IsRuled old new k.attempt d conflict) (sym whole) ruled)))

pub returns-in-Spent-clause-refused : goal.returns-in-Spent-clause-refused
returns-in-Spent-clause-refused g c = λ old new a d back why.
    (came_whole a _ c.args.refusal (VoteRefusal.Spent c.in-Spent.spent) c.in-Spent.is (λ e. cc) (λ e. cc) back, ruled_as old new a.attempt d c.args.refusal (VoteRefusal.Spent c.in-Spent.spent) c.in-Spent.is (λ e. cc) (λ e. cc) why)

pub returns-in-Disk-clause-refused : goal.returns-in-Disk-clause-refused
returns-in-Disk-clause-refused g c = λ old new a d back why. (came_left a _ c.args.refusal back, why.none (inr c.in-Disk.is), why.loses c.in-Disk.is)

pub returns-in-Memory-clause-refused : goal.returns-in-Memory-clause-refused
returns-in-Memory-clause-refused g c = λ old new a d back why. (came_left a _ c.args.refusal back, why.none (inl c.in-Memory.is), why.stands c.in-Memory.is)
