use Rattle.std.proofs.Common.{Result, Ok, Err}
use Rattle.std.specs.Prelude.{OnErr}
use Rattle.fs_store.proofs.CutOff.{history_cut, kept_cut, moments_cut}
use Rattle.fs_store.proofs.Unsettling.{cut_read, cut_unsettled}
use Rattle.fs_store.proofs.file.OpenFile.abort_on.Goals as goal

pub returns-clause-kept : goal.returns-clause-kept
returns-clause-kept g c = kept_cut (g.D.Disk.told c.args.disk.now) (g.D.Disk.told c.cut_and_sync.new.disk) c.args.self.now c.args.waiting c.args.limit _ _ _ _ c.requires c.in_ok-cut_and_sync.ensures.cut

on_err : {T E : Type 0} (r : Result T E) (P : Type 0) → P → OnErr r P
on_err (Ok x) P p = tt
on_err (Err e) P p = p

pub returns-in_err-cut_and_sync-clause-unsettled : goal.returns-in_err-cut_and_sync-clause-unsettled
returns-in_err-cut_and_sync-clause-unsettled g c = on_err c.from_residual.result _ (cut_unsettled (g.D.Disk.told c.args.disk.now) (g.D.Disk.told c.cut_and_sync.new.disk) c.args.self.now c.args.waiting _ _ _ c.requires c.in_err-cut_and_sync.ensures.any_moment)

pub returns-clause-history : goal.returns-clause-history
returns-clause-history g c = history_cut (g.D.Disk.told c.args.disk.now) (g.D.Disk.told c.cut_and_sync.new.disk) c.args.self.now c.args.waiting _ _ _ c.requires c.in_ok-cut_and_sync.ensures.any_moment

pub returns-clause-any_moment : goal.returns-clause-any_moment
returns-clause-any_moment g c = moments_cut (g.D.Disk.told c.args.disk.now) (g.D.Disk.told c.cut_and_sync.new.disk) c.args.self.now c.args.waiting _ _ _ c.requires c.in_ok-cut_and_sync.ensures.any_moment

pub returns-clause-read : goal.returns-clause-read
returns-clause-read g c = λ oid s seen. cut_read (g.D.Disk.told c.args.disk.now) (g.D.Disk.told c.cut_and_sync.new.disk) c.args.self.now c.args.waiting _ _ _ oid s c.requires c.in_ok-cut_and_sync.ensures.any_moment seen

pub returns-in_err-cut_and_sync-clause-history : goal.returns-in_err-cut_and_sync-clause-history
returns-in_err-cut_and_sync-clause-history g c = history_cut (g.D.Disk.told c.args.disk.now) (g.D.Disk.told c.cut_and_sync.new.disk) c.args.self.now c.args.waiting _ _ _ c.requires c.in_err-cut_and_sync.ensures.any_moment

pub returns-in_err-cut_and_sync-clause-any_moment : goal.returns-in_err-cut_and_sync-clause-any_moment
returns-in_err-cut_and_sync-clause-any_moment g c = moments_cut (g.D.Disk.told c.args.disk.now) (g.D.Disk.told c.cut_and_sync.new.disk) c.args.self.now c.args.waiting _ _ _ c.requires c.in_err-cut_and_sync.ensures.any_moment

pub returns-in_err-cut_and_sync-clause-read : goal.returns-in_err-cut_and_sync-clause-read
returns-in_err-cut_and_sync-clause-read g c = λ oid s seen. cut_read (g.D.Disk.told c.args.disk.now) (g.D.Disk.told c.cut_and_sync.new.disk) c.args.self.now c.args.waiting _ _ _ oid s c.requires c.in_err-cut_and_sync.ensures.any_moment seen
