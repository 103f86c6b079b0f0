use Rattle.fs_scan.proofs.StepsRead.{first_of, skips_all}
use Rattle.std.proofs.Common.{arith}
use Rattle.std.proofs.lemmas.Result.{err_from_is_err_and}
use Rattle.fs_scan.proofs.Pacing.{paces_forward, piece_on}
use Rattle.fs_scan.proofs.StepsPaced.{paces_err, paces_step, piece_step}
use Rattle.fs_scan.proofs.step.take_one.Goals as goal

pub returns-then-frame-eq-STATUS_UNDONE-clause-says : goal.returns-then-frame-eq-STATUS_UNDONE-clause-says
returns-then-frame-eq-STATUS_UNDONE-clause-says g c =
    let o = g.D.Disk.told c.args.disk.now in
    let f = c.in_ok-frame_in.ensures in
    skips_all o (g.D.Disk.told c.frame_in.new.disk) c.args.at c.args.last c.args.kept.now c.in-Whole.frame c.skip_records.result f.only_reads.same (rw c.in-Whole.is at f.fits).here
    (first_of _ _ o (rw c.in-Whole.is at f.says)) c.requires.keeps c.skip_records.ensures.leads

pub returns-in_err-frame_in-clause-paces : goal.returns-in_err-frame_in-clause-paces
returns-in_err-frame_in-clause-paces g c = λ p le.
    let o = g.D.Disk.told c.args.disk.now in
    let e = err_from_is_err_and c.from_residual.result c.from_residual.ensures.1 in
    paces_err o c.args.len c.args.at c.args.at c.args.ahead.now c.frame_in.new.ahead _ _ c.from_residual.result e.0 e.1 (paces_forward o c.args.at c.args.at c.args.at c.args.ahead.now c.frame_in.new.ahead _ _ (c.in_err-frame_in.ensures.forward p) (omega arith) (omega arith)) le

pub returns-in-End-clause-piece : goal.returns-in-End-clause-piece
returns-in-End-clause-piece g c = λ p le. piece_on c.args.len c.args.at c.args.len c.frame_in.new.ahead (c.in_ok-frame_in.ensures.piece p) le

pub returns-in-Bad-clause-piece : goal.returns-in-Bad-clause-piece
returns-in-Bad-clause-piece g c = λ p le. piece_on c.args.len c.args.at c.args.len c.frame_in.new.ahead (c.in_ok-frame_in.ensures.piece p) le

pub returns-in-End-clause-paces : goal.returns-in-End-clause-paces
returns-in-End-clause-paces g c = λ p le. paces_forward (g.D.Disk.told c.args.disk.now) c.args.at c.args.len c.args.at c.args.ahead.now c.frame_in.new.ahead _ _ (c.in_ok-frame_in.ensures.forward p) le le

pub returns-in-Bad-clause-paces : goal.returns-in-Bad-clause-paces
returns-in-Bad-clause-paces g c = λ p le. paces_forward (g.D.Disk.told c.args.disk.now) c.args.at c.args.len c.args.at c.args.ahead.now c.frame_in.new.ahead _ _ (c.in_ok-frame_in.ensures.forward p) le le

pub returns-then-frame-eq-STATUS_UNDONE-clause-piece : goal.returns-then-frame-eq-STATUS_UNDONE-clause-piece
returns-then-frame-eq-STATUS_UNDONE-clause-piece g c =
    piece_step c.args.len c.args.at c.in-Whole.frame.place c.args.ahead.now c.frame_in.new.ahead c.skip_records.new.ahead c.skip_records.result (rw c.in-Whole.is at c.in_ok-frame_in.ensures.fits).here c.in_ok-frame_in.ensures.piece c.skip_records.ensures.piece

pub returns-then-frame-eq-STATUS_UNDONE-clause-paces : goal.returns-then-frame-eq-STATUS_UNDONE-clause-paces
returns-then-frame-eq-STATUS_UNDONE-clause-paces g c = λ p le.
    let f = c.in_ok-frame_in.ensures in
    paces_step (g.D.Disk.told c.args.disk.now) (g.D.Disk.told c.frame_in.new.disk) c.args.len c.args.at c.in-Whole.frame.place c.args.ahead.now c.frame_in.new.ahead c.skip_records.new.ahead _ _ _ c.skip_records.result
    f.only_reads.same (rw c.in-Whole.is at f.fits).here (f.forward p) c.skip_records.ensures.paces (f.piece p) le

pub returns-clause-piece : goal.returns-clause-piece
returns-clause-piece g c =
    piece_step c.args.len c.args.at c.in-Whole.frame.place c.args.ahead.now c.frame_in.new.ahead c.take_records.new.ahead c.take_records.result (rw c.in-Whole.is at c.in_ok-frame_in.ensures.fits).here c.in_ok-frame_in.ensures.piece c.take_records.ensures.piece

pub returns-clause-paces : goal.returns-clause-paces
returns-clause-paces g c = λ p le.
    let f = c.in_ok-frame_in.ensures in
    paces_step (g.D.Disk.told c.args.disk.now) (g.D.Disk.told c.frame_in.new.disk) c.args.len c.args.at c.in-Whole.frame.place c.args.ahead.now c.frame_in.new.ahead c.take_records.new.ahead _ _ _ c.take_records.result
    f.only_reads.same (rw c.in-Whole.is at f.fits).here (f.forward p) c.take_records.ensures.paces (f.piece p) le
