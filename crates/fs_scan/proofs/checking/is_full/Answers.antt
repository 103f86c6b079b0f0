use Rattle.std.proofs.Common.{◌≡◌, ℕ, IfSome, sym, subst, arith}
use Rattle.zdisk.specs.Disk.{bytes_at}
use Rattle.fs_scan.proofs.AheadRead.{piece_is, piece_long}
use Rattle.fs_scan.proofs.Present.{full_at, short_at}
use Rattle.fs_scan.proofs.checking.is_full.Goals as goal

pub returns-then-saturating_sub-size-clause-full : goal.returns-then-saturating_sub-size-clause-full
returns-then-saturating_sub-size-clause-full g c = λ yes. short_at (g.D.Disk.told c.args.disk.now) c.args.len c.args.at c.saturating_sub.result c.requires.len (omega (arith, c.saturating_sub.ensures)) (omega (arith, c.if-saturating_sub-size.true))

pub returns-then-u64_at-ne0-clause-full : goal.returns-then-u64_at-ne0-clause-full
returns-then-u64_at-ne0-clause-full g c = λ yes.
    let o = g.D.Disk.told c.args.disk.now in
    let piece = c.piece.result.now in
    let covers = c.in_ok-show.ensures.covers in
    let long = piece_long c.show.new.self c.args.at 50 piece covers c.piece.ensures in
    let there = piece_is o c.show.new.self c.args.at 50 piece c.in_ok-show.ensures.ahead covers c.piece.ensures in
    full_at o c.args.at c.u64_at.result piece long (subst (λ (n : ℕ). IfSome o (λ told. piece ≡ bytes_at told c.args.at n)) (sym long) there) c.u64_at.ensures c.u64_at.type_inv c.if-u64_at-ne0.true

pub u64_at-requires : goal.u64_at-requires
u64_at-requires g c = omega (arith, piece_long c.show.new.self c.args.at 50 c.piece.result.now c.in_ok-show.ensures.covers c.piece.ensures)
