use Rattle.std.proofs.Common.{refl, arith}
use Rattle.fs_scan.proofs.AheadRead.{piece_is}
use Rattle.fs_scan.proofs.StepsRead.{none_left, said_there}
use Rattle.fs_scan.proofs.Pacing.{no_piece}
use Rattle.fs_scan.proofs.step.frame_in.Goals as goal

pub returns-then-len-at-clause-says : goal.returns-then-len-at-clause-says
returns-then-len-at-clause-says g c = none_left (g.D.Disk.told c.args.disk.now) c.args.len c.args.at c.requires.len c.if-len-at.true

pub returns-clause-says : goal.returns-clause-says
returns-clause-says g c =
    let o = g.D.Disk.told c.args.disk.now in
    said_there o c.args.len c.args.at _ c.min-size.result c.piece.result.now c.frame_at.result c.requires.len refl (omega (arith, c.min-size.ensures))
    (piece_is o c.show.new.self c.args.at c.min-size.result c.piece.result.now c.in_ok-show.ensures.ahead c.in_ok-show.ensures.covers c.piece.ensures) c.frame_at.ensures.says

pub returns-then-len-at-clause-forward : goal.returns-then-len-at-clause-forward
returns-then-len-at-clause-forward g c = λ p. no_piece c.args.at c.args.ahead.now _ p.begins

pub returns-in_err-show-clause-forward : goal.returns-in_err-show-clause-forward
returns-in_err-show-clause-forward g c = λ p. c.in_err-show.ensures.forward p (omega (arith, c.min-size.ensures))

pub returns-clause-forward : goal.returns-clause-forward
returns-clause-forward g c = λ p. c.in_ok-show.ensures.forward p (omega (arith, c.min-size.ensures))
