use Rattle.std.proofs.Common.{◌+◌, subst, sym, arith}
use Rattle.fs_scan.specs.declared.extent.Extent.{Extent}
use Rattle.fs_scan.specs.Stepped.{RightFits}
use Rattle.fs_scan.proofs.StepsRead.{skipped_fits, skips, skips_not}
use Rattle.std.proofs.lemmas.Result.{err_from_is_err_and}
use Rattle.fs_scan.proofs.Pacing.{paces_forward, piece_on}
use Rattle.fs_scan.proofs.StepsPaced.{paces_err}
use Rattle.fs_scan.proofs.step.skip_records.Goals as goal

pub returns-then-tail-frame-clause-leads : goal.returns-then-tail-frame-clause-leads
returns-then-tail-frame-clause-leads g c =
    skips_not (g.D.Disk.told c.args.disk.now) c.args.len c.args.frame.now c.in_ok-tail.tail c.requires.len c.requires.fits c.requires.frame c.in_ok-tail.ensures.tail c.in_ok-tail.ensures.bound c.requires.undone c.if-tail-frame.true

pub returns-clause-leads : goal.returns-clause-leads
returns-clause-leads g c =
    rw c.with_tail.ensures (skips (g.D.Disk.told c.args.disk.now) c.args.len c.args.frame.now c.in_ok-tail.tail c.requires.len c.requires.fits c.requires.frame c.in_ok-tail.ensures.tail c.in_ok-tail.ensures.bound c.requires.undone c.if-tail-frame.false)

pub returns-clause-fits : goal.returns-clause-fits
returns-clause-fits g c = λ last kept before.
    subst (λ (w : Extent). RightFits c.args.len c.args.frame.now.place last kept w) (sym c.with_tail.ensures) (skipped_fits c.args.len last c.in_ok-tail.tail c.args.frame.now kept c.requires.fits before c.requires.undone)

pub returns-in_err-tail-clause-paces : goal.returns-in_err-tail-clause-paces
returns-in_err-tail-clause-paces g c = λ p le.
    let o = g.D.Disk.told c.args.disk.now in
    let f = c.args.frame.now in
    let e = err_from_is_err_and c.from_residual.result c.from_residual.ensures.1 in
    let on = c.in_err-tail.ensures.forward (piece_on c.args.len f.place (f.place + f.long) c.args.ahead.now p (omega arith)) in
    paces_err o c.args.len f.place (f.place + f.long) c.args.ahead.now c.tail_at.new.ahead _ _ c.from_residual.result e.0 e.1 (paces_forward o f.place (f.place + f.long) (f.place + f.long) c.args.ahead.now c.tail_at.new.ahead _ _ on (omega arith) (omega arith)) (omega (arith, c.requires.fits.room, le))

pub returns-then-tail-frame-clause-piece : goal.returns-then-tail-frame-clause-piece
returns-then-tail-frame-clause-piece g c = λ p le.
    let f = c.args.frame.now in
    piece_on c.args.len (f.place + f.long) c.args.len c.tail_at.new.ahead (c.in_ok-tail.ensures.piece (piece_on c.args.len f.place (f.place + f.long) c.args.ahead.now p (omega arith))) (omega (arith, c.requires.fits.room))

pub returns-then-tail-frame-clause-paces : goal.returns-then-tail-frame-clause-paces
returns-then-tail-frame-clause-paces g c = λ p le.
    let f = c.args.frame.now in
    let on = c.in_ok-tail.ensures.forward (piece_on c.args.len f.place (f.place + f.long) c.args.ahead.now p (omega arith)) in
    paces_forward (g.D.Disk.told c.args.disk.now) f.place c.args.len (f.place + f.long) c.args.ahead.now c.tail_at.new.ahead _ _ on le (omega (arith, c.requires.fits.room, le))

pub returns-clause-piece : goal.returns-clause-piece
returns-clause-piece g c = λ p le.
    let f = c.args.frame.now in
    rw c.with_tail.ensures (piece_on c.args.len (f.place + f.long) (f.place + (f.long + 8)) c.tail_at.new.ahead (c.in_ok-tail.ensures.piece (piece_on c.args.len f.place (f.place + f.long) c.args.ahead.now p (omega arith))) (omega arith))

pub returns-clause-paces : goal.returns-clause-paces
returns-clause-paces g c = λ p le.
    let f = c.args.frame.now in
    let on = c.in_ok-tail.ensures.forward (piece_on c.args.len f.place (f.place + f.long) c.args.ahead.now p (omega arith)) in
    rw c.with_tail.ensures (paces_forward (g.D.Disk.told c.args.disk.now) f.place (f.place + (f.long + 8)) (f.place + f.long) c.args.ahead.now c.tail_at.new.ahead _ _ on (omega arith) (omega arith))
