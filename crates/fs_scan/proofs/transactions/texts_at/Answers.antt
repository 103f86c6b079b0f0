use Rattle.fs_scan.proofs.TransactionsRead.{no_texts, reads_texts}
use Rattle.fs_scan.proofs.transactions.texts_at.Goals as goal

pub returns-in_default-clause-texts : goal.returns-in_default-clause-texts
returns-in_default-clause-texts g c = no_texts (g.D.Disk.told c.args.disk.now) c.args.at c.texts_end-end.result c.args.head.now (rw c.in_default.is at c.in_ok-front.ensures.piece) c.texts_end-end.ensures

pub returns-clause-texts : goal.returns-clause-texts
returns-clause-texts g c =
    reads_texts (g.D.Disk.told c.args.disk.now) c.args.at c.texts_end-end.result c.args.head.now c.in-Some.front.items c.in_ok-texts.texts (rw c.in-Some.is at c.in_ok-front.ensures.piece) c.texts_end-end.ensures (rw c.deref.ensures.value at c.in_ok-texts.ensures)
