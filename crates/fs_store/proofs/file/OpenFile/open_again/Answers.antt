use Rattle.std.proofs.Common.{Result, Ok, Err, ap, ◌∙◌}
use Rattle.std.specs.Prelude.{OnErr}
use Rattle.std.proofs.lemmas.Result.{err_from_is_err_and}
use Rattle.fs_store.proofs.Readings.{opened_kept}
use Rattle.fs_store.proofs.Stale.{again_opened, again_refused, again_undamaged, left_history, left_moments, left_records, left_read, left_unsettled, opened_read, opened_settles}
use Rattle.fs_store.proofs.file.OpenFile.open_again.Goals as goal

on_err : {T E : Type 0} (r : Result T E) (P : Type 0) → P → OnErr r P
on_err (Ok x) P p = tt
on_err (Err e) P p = p

pub returns-clause-kept : goal.returns-clause-kept
returns-clause-kept g c = opened_kept (g.D.Disk.told c.args.disk.now) (g.D.Disk.told c.open_file.new.disk) c.in_ok-again.field-0 c.args.limit _ _ c.in_ok-again.ensures.bound c.in_ok-again.ensures.long c.in_ok-again.ensures.reads c.in_ok-again.ensures.tidies

pub returns-clause-settled : goal.returns-clause-settled
returns-clause-settled g c =
    opened_settles (g.D.Disk.told c.args.disk.now) (g.D.Disk.told c.open_file.new.disk) c.args.self.now.end c.args.undecided.now c.in_ok-again.field-0 c.requires.unsettled c.in_ok-again.ensures.reads c.in_ok-again.ensures.tidies

pub returns-clause-read : goal.returns-clause-read
returns-clause-read g c = λ oid s.
    opened_read (g.D.Disk.told c.args.disk.now) (g.D.Disk.told c.open_file.new.disk) c.args.self.now.end c.args.undecided.now c.in_ok-again.field-0 oid s c.requires.unsettled c.in_ok-again.ensures.reads c.in_ok-again.ensures.tidies

pub returns-clause-any_moment : goal.returns-clause-any_moment
returns-clause-any_moment g c =
    left_moments (g.D.Disk.told c.args.disk.now) (g.D.Disk.told c.open_file.new.disk) c.args.self.now.end c.args.undecided.now c.requires.unsettled
    (again_opened (g.D.Disk.told c.args.disk.now) (g.D.Disk.told c.open_file.new.disk) c.args.self.now.end c.args.undecided.now c.in_ok-again.field-0 c.requires.unsettled c.in_ok-again.ensures.reads c.in_ok-again.ensures.tidies)

pub returns-in_err-again-clause-undamaged : goal.returns-in_err-again-clause-undamaged
returns-in_err-again-clause-undamaged g c =
    let p = err_from_is_err_and c.from_residual.result c.from_residual.ensures.1 in
    rw (p.1 ∙ ap (λ k. Err k) p.2) (again_undamaged (g.D.Disk.told c.args.disk.now) c.args.self.now.end c.args.undecided.now c.in_err-again.field-0.0 c.requires.unsettled c.in_err-again.ensures.refused)

pub returns-in_err-again-clause-unsettled : goal.returns-in_err-again-clause-unsettled
returns-in_err-again-clause-unsettled g c = on_err c.from_residual.result _
    (left_unsettled (g.D.Disk.told c.args.disk.now) (g.D.Disk.told c.open_file.new.disk) c.args.self.now.end c.args.undecided.now c.requires.unsettled
    (again_refused (g.D.Disk.told c.args.disk.now) (g.D.Disk.told c.open_file.new.disk) c.args.self.now.end c.args.undecided.now c.in_err-again.field-0.0 c.requires.unsettled c.in_err-again.ensures.left))

pub returns-in_err-again-clause-history : goal.returns-in_err-again-clause-history
returns-in_err-again-clause-history g c = on_err c.from_residual.result _
    (left_history (g.D.Disk.told c.args.disk.now) (g.D.Disk.told c.open_file.new.disk) c.args.self.now.end c.args.undecided.now c.requires.unsettled
    (again_refused (g.D.Disk.told c.args.disk.now) (g.D.Disk.told c.open_file.new.disk) c.args.self.now.end c.args.undecided.now c.in_err-again.field-0.0 c.requires.unsettled c.in_err-again.ensures.left))

pub returns-in_err-again-clause-records : goal.returns-in_err-again-clause-records
returns-in_err-again-clause-records g c = on_err c.from_residual.result _
    (left_records (g.D.Disk.told c.args.disk.now) (g.D.Disk.told c.open_file.new.disk) c.args.self.now.end c.args.undecided.now c.requires.unsettled
    (again_refused (g.D.Disk.told c.args.disk.now) (g.D.Disk.told c.open_file.new.disk) c.args.self.now.end c.args.undecided.now c.in_err-again.field-0.0 c.requires.unsettled c.in_err-again.ensures.left))

pub returns-in_err-again-clause-read : goal.returns-in_err-again-clause-read
returns-in_err-again-clause-read g c = λ oid s.
    left_read (g.D.Disk.told c.args.disk.now) (g.D.Disk.told c.open_file.new.disk) c.args.self.now.end c.args.undecided.now oid s c.requires.unsettled
    (again_refused (g.D.Disk.told c.args.disk.now) (g.D.Disk.told c.open_file.new.disk) c.args.self.now.end c.args.undecided.now c.in_err-again.field-0.0 c.requires.unsettled c.in_err-again.ensures.left)

pub returns-in_err-again-clause-any_moment : goal.returns-in_err-again-clause-any_moment
returns-in_err-again-clause-any_moment g c =
    left_moments (g.D.Disk.told c.args.disk.now) (g.D.Disk.told c.open_file.new.disk) c.args.self.now.end c.args.undecided.now c.requires.unsettled
    (again_refused (g.D.Disk.told c.args.disk.now) (g.D.Disk.told c.open_file.new.disk) c.args.self.now.end c.args.undecided.now c.in_err-again.field-0.0 c.requires.unsettled c.in_err-again.ensures.left)
