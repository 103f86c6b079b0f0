use Rattle.schedule.specs.Lines.{line_text}
use Rattle.schedule.proofs.writer.put_line.Goals as goal

pub returns-in-PackUnreadable : goal.returns-in-PackUnreadable
unfolding line_text
returns-in-PackUnreadable c = rw (c.in-PackUnreadable.is, ← c.oid-in-PackUnreadable.view_is) c.put_row-in-PackUnreadable.ensures

pub returns-in-PackMemory : goal.returns-in-PackMemory
unfolding line_text
returns-in-PackMemory c = rw c.in-PackMemory.is c.put_row-in-PackMemory.ensures
