use Rattle.std.proofs.Common.{◌≡◌, ℕ, IfSome, sym, subst, arith}
use Rattle.zdisk.specs.Disk.{bytes_at}
use Rattle.fs_scan.proofs.AheadRead.{piece_is, piece_long}
use Rattle.fs_scan.proofs.TransactionsRead.{reads_head, short_head}
use Rattle.fs_scan.proofs.ahead.Ahead.head_at.Goals as goal

pub returns-then-not-branch-clause-head : goal.returns-then-not-branch-clause-head
returns-then-not-branch-clause-head g c = short_head (g.D.Disk.told c.args.disk.now) c.args.at (c.in_ok-reach.ensures.short c.if-not-branch.true)

pub unreachable-requires : goal.unreachable-requires
unreachable-requires g c = omega (arith, c.in-Err.ensures.head, piece_long c.reach.new.self c.args.at 23 c.piece.result.now (c.in_ok-reach.ensures.covers c.if-not-branch.false) c.piece.ensures)

pub returns-clause-head : goal.returns-clause-head
returns-clause-head g c =
    let o = g.D.Disk.told c.args.disk.now in
    let piece = c.piece.result.now in
    let covers = c.in_ok-reach.ensures.covers c.if-not-branch.false in
    let long = piece_long c.reach.new.self c.args.at 23 piece covers c.piece.ensures in
    let there = piece_is o c.reach.new.self c.args.at 23 piece c.in_ok-reach.ensures.ahead covers c.piece.ensures in
    reads_head o c.args.at piece c.in-Ok.head (subst (λ (n : ℕ). IfSome o (λ told. piece ≡ bytes_at told c.args.at n)) (sym long) there) c.in-Ok.ensures.head long c.in-Ok.ensures.fits
