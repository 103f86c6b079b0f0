use Rattle.std.proofs.Common.{Result, Ok, Err}
use Rattle.std.specs.Prelude.{OnErr}
use Rattle.fs_store.proofs.Counted.{history_undecided, kept_counted, knowable, moments_counted, read_counted, stands_counted, status_within}
use Rattle.fs_store.proofs.Unsettling.{undecided_records, undecided_read, undecided_unsettled}
use Rattle.fs_store.proofs.file.OpenFile.finish_on.Goals as goal

pub overwrite_and_sync-requires-clause-synced : goal.overwrite_and_sync-requires-clause-synced
overwrite_and_sync-requires-clause-synced g c = status_within _ c.args.self.now c.args.waiting.now _ _ _ c.requires.kept

pub returns-in_err-overwrite_and_sync-clause-any_moment : goal.returns-in_err-overwrite_and_sync-clause-any_moment
returns-in_err-overwrite_and_sync-clause-any_moment g c = moments_counted _ _ c.args.self.now c.args.waiting.now _ _ _ c.requires.kept c.in_err-overwrite_and_sync.ensures.any_moment

pub returns-clause-any_moment : goal.returns-clause-any_moment
returns-clause-any_moment g c = moments_counted _ _ c.args.self.now c.args.waiting.now _ _ _ c.requires.kept c.in_ok-overwrite_and_sync.ensures.any_moment

pub know-requires : goal.know-requires
know-requires g c = record { waits = knowable _ c.args.self.now c.args.waiting.now c.args.limit _ _ c.requires.limit c.requires.kept }

pub returns-clause-kept : goal.returns-clause-kept
returns-clause-kept g c = kept_counted (g.D.Disk.told c.args.disk.now) (g.D.Disk.told c.overwrite_and_sync.new.disk) c.args.self.now c.know.new.self c.args.waiting.now c.args.limit _ _ _ _ c.requires.kept c.in_ok-overwrite_and_sync.ensures.written
    (record { numbers = c.know.ensures.numbers; floor = c.know.ensures.floor; len = c.know.ensures.len; next = c.know.ensures.next; count = c.know.ensures.count; index = c.know.ensures.index })

pub returns-clause-stands : goal.returns-clause-stands
returns-clause-stands g c = stands_counted (g.D.Disk.told c.args.disk.now) (g.D.Disk.told c.overwrite_and_sync.new.disk) c.args.self.now c.know.new.self c.args.waiting.now c.args.limit _ _ c.requires.kept c.in_ok-overwrite_and_sync.ensures.written
    (record { numbers = c.know.ensures.numbers; floor = c.know.ensures.floor; len = c.know.ensures.len; next = c.know.ensures.next; count = c.know.ensures.count; index = c.know.ensures.index })

pub returns-clause-read : goal.returns-clause-read
returns-clause-read g c = λ oid s seen. read_counted (g.D.Disk.told c.args.disk.now) (g.D.Disk.told c.overwrite_and_sync.new.disk) c.args.self.now c.know.new.self c.args.waiting.now c.args.limit _ _ oid s c.requires.kept c.in_ok-overwrite_and_sync.ensures.written
    (record { numbers = c.know.ensures.numbers; floor = c.know.ensures.floor; len = c.know.ensures.len; next = c.know.ensures.next; count = c.know.ensures.count; index = c.know.ensures.index }) seen

on_err : {T E : Type 0} (r : Result T E) (P : Type 0) → P → OnErr r P
on_err (Ok x) P p = tt
on_err (Err e) P p = p

pub returns-in_err-overwrite_and_sync-clause-history : goal.returns-in_err-overwrite_and_sync-clause-history
returns-in_err-overwrite_and_sync-clause-history g c = on_err c.from_residual.result _ (history_undecided _ _ c.args.self.now c.args.waiting.now _ _ _ c.requires.kept c.in_err-overwrite_and_sync.ensures.any_moment)

pub returns-in_err-overwrite_and_sync-clause-unsettled : goal.returns-in_err-overwrite_and_sync-clause-unsettled
returns-in_err-overwrite_and_sync-clause-unsettled g c = on_err c.from_residual.result _ (undecided_unsettled (g.D.Disk.told c.args.disk.now) (g.D.Disk.told c.overwrite_and_sync.new.disk) c.args.self.now c.args.waiting.now _ _ _ c.requires.kept c.in_err-overwrite_and_sync.ensures.any_moment)

pub returns-in_err-overwrite_and_sync-clause-records : goal.returns-in_err-overwrite_and_sync-clause-records
returns-in_err-overwrite_and_sync-clause-records g c = on_err c.from_residual.result _ (undecided_records (g.D.Disk.told c.args.disk.now) (g.D.Disk.told c.overwrite_and_sync.new.disk) c.args.self.now c.args.waiting.now _ _ _ c.requires.kept c.in_err-overwrite_and_sync.ensures.any_moment)

pub returns-in_err-overwrite_and_sync-clause-read : goal.returns-in_err-overwrite_and_sync-clause-read
returns-in_err-overwrite_and_sync-clause-read g c = λ oid s seen. undecided_read (g.D.Disk.told c.args.disk.now) (g.D.Disk.told c.overwrite_and_sync.new.disk) c.args.self.now c.args.waiting.now _ _ _ oid s c.requires.kept c.in_err-overwrite_and_sync.ensures.any_moment seen
