use Rattle.schedule.proofs.writer.put_fetch.Goals as goal

pub returns-in-Transaction : goal.returns-in-Transaction
returns-in-Transaction c =
    let written = rw c.number-in-Transaction.ensures at c.put_row-in-Transaction.ensures in
    rw (c.in-Transaction.is, ← c.tid.view_is) written
