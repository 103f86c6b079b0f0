use Rattle.std.proofs.Common.{◌∙◌, arith}
use Rattle.fs_scan.proofs.AheadRead.{piece_is, piece_long}
use Rattle.fs_scan.proofs.Present.{id_told, last_full, last_has, not_last, not_there}
use Rattle.fs_scan.proofs.StepsRead.{tail_told}
use Rattle.fs_scan.proofs.checking.is_present.Goals as goal

pub u64_at-requires : goal.u64_at-requires
u64_at-requires g c = omega (arith, piece_long c.show.new.self c.args.place 8 c.piece.result.now c.in_ok-show.ensures.covers c.piece.ensures)

pub returns-then-saturating_sub-lt8-clause-present : goal.returns-then-saturating_sub-lt8-clause-present
returns-then-saturating_sub-lt8-clause-present g c = not_there (g.D.Disk.told c.args.disk.now) c.args.len c.args.place c.saturating_sub.result c.args.kept.now.newest c.requires.len (omega (arith, c.saturating_sub.ensures)) (omega (arith, c.if-saturating_sub-lt8.true))

pub returns-then-last_place-place-clause-present : goal.returns-then-last_place-place-clause-present
returns-then-last_place-place-clause-present g c =
    let o = g.D.Disk.told c.args.disk.now in
    let piece = c.piece.result.now in
    let covers = c.in_ok-show.ensures.covers in
    let id = id_told o c.args.place c.u64_at.result (tail_told o c.args.place c.u64_at.result piece (piece_is o c.show.new.self c.args.place 8 piece c.in_ok-show.ensures.ahead covers c.piece.ensures) (piece_long c.show.new.self c.args.place 8 piece covers c.piece.ensures) c.u64_at.ensures) c.u64_at.type_inv in
    not_last o c.args.kept.now.newest c.args.place c.u64_at.result id (rw c.last_place.ensures at c.if-last_place-place.true)

pub returns-then-branch-clause-present : goal.returns-then-branch-clause-present
returns-then-branch-clause-present g c =
    let o = g.D.Disk.told c.args.disk.now in
    let piece = c.piece.result.now in
    let s = c.in_ok-show.ensures in
    let id = id_told o c.args.place c.u64_at.result (tail_told o c.args.place c.u64_at.result piece (piece_is o c.show.new.self c.args.place 8 piece s.ahead s.covers c.piece.ensures) (piece_long c.show.new.self c.args.place 8 piece s.covers c.piece.ensures) c.u64_at.ensures) c.u64_at.type_inv in
    last_full o (g.D.Disk.told c.show.new.disk) c.args.kept.now.newest c.args.place c.u64_at.result s.only_reads.same id (rw c.last_place.ensures at c.if-last_place-place.false) (c.in_ok-is_full.ensures.full c.if-branch.true)

pub returns-clause-present : goal.returns-clause-present
returns-clause-present g c =
    let o = g.D.Disk.told c.args.disk.now in
    let piece = c.piece.result.now in
    let s = c.in_ok-show.ensures in
    let id = id_told o c.args.place c.u64_at.result (tail_told o c.args.place c.u64_at.result piece (piece_is o c.show.new.self c.args.place 8 piece s.ahead s.covers c.piece.ensures) (piece_long c.show.new.self c.args.place 8 piece s.covers c.piece.ensures) c.u64_at.ensures) c.u64_at.type_inv in
    last_has o (g.D.Disk.told c.is_full.new.disk) c.args.kept.now.newest c.args.place c.u64_at.result c.in_ok-has.has (c.in_ok-is_full.ensures.only_reads.same ∙ s.only_reads.same) id (rw c.last_place.ensures at c.if-last_place-place.false) c.in_ok-has.ensures.value
