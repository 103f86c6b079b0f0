use Rattle.std.proofs.Common.{arith}
use Rattle.fs_scan.proofs.AheadRead.{piece_is, piece_long}
use Rattle.fs_scan.proofs.StepsRead.{tail_told}
use Rattle.fs_scan.proofs.step.tail_at.Goals as goal

pub u64_at-requires : goal.u64_at-requires
u64_at-requires g c = omega (arith, piece_long c.show.new.self c.args.at 8 c.piece.result.now c.in_ok-show.ensures.covers c.piece.ensures)

pub returns-clause-tail : goal.returns-clause-tail
returns-clause-tail g c =
    let o = g.D.Disk.told c.args.disk.now in
    let covers = c.in_ok-show.ensures.covers in
    let piece = c.piece.result.now in
    tail_told o c.args.at c.u64_at.result piece (piece_is o c.show.new.self c.args.at 8 piece c.in_ok-show.ensures.ahead covers c.piece.ensures) (piece_long c.show.new.self c.args.at 8 piece covers c.piece.ensures) c.u64_at.ensures

pub returns-in_err-show-clause-forward : goal.returns-in_err-show-clause-forward
returns-in_err-show-clause-forward g c = λ p. c.in_err-show.ensures.forward p (omega arith)

pub returns-clause-forward : goal.returns-clause-forward
returns-clause-forward g c = λ p. c.in_ok-show.ensures.forward p (omega arith)
