use Rattle.fs_scan.proofs.AheadRead.{piece_is}
use Rattle.fs_scan.proofs.TransactionsRead.{no_texts, reads_texts}
use Rattle.fs_scan.proofs.ahead.Ahead.texts_at.Goals as goal

pub returns-then-not-branch-clause-texts : goal.returns-then-not-branch-clause-texts
returns-then-not-branch-clause-texts g c = no_texts (g.D.Disk.told c.args.disk.now) c.args.at c.texts_end-size.result c.args.head.now (c.in_ok-reach.ensures.short c.if-not-branch.true) c.texts_end-size.ensures

pub returns-clause-texts : goal.returns-clause-texts
returns-clause-texts g c =
    let o = g.D.Disk.told c.args.disk.now in
    let piece = c.piece.result.now in
    let there = piece_is o c.reach.new.self c.args.at c.texts_end-size.result piece c.in_ok-reach.ensures.ahead (c.in_ok-reach.ensures.covers c.if-not-branch.false) c.piece.ensures in
    reads_texts o c.args.at c.texts_end-size.result c.args.head.now piece c.in_ok-texts.texts there c.texts_end-size.ensures c.in_ok-texts.ensures
