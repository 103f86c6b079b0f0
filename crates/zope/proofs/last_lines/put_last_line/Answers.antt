use Rattle.std.specs.Prelude.{string_bytes}
use Rattle.zope.proofs.LastLines.{put_is}
use Rattle.zope.proofs.last_lines.put_last_line.Goals as goal

pub returns-in-Damaged-clause-ok : goal.returns-in-Damaged-clause-ok
returns-in-Damaged-clause-ok g c = rw c.in-Damaged.is (put_is c.put_text.result c.format.result string_bytes _ _ _ c.put_text.ensures.ok (rw c.number-number.ensures at c.format.ensures.ok))

pub returns-in-BadLine-clause-ok : goal.returns-in-BadLine-clause-ok
returns-in-BadLine-clause-ok g c = rw c.in-BadLine.is (put_is c.put_text-in-BadLine.result c.format-in-BadLine.result string_bytes _ _ _ c.put_text-in-BadLine.ensures.ok c.format-in-BadLine.ensures.ok)

pub returns-in-Memory-clause-ok : goal.returns-in-Memory-clause-ok
returns-in-Memory-clause-ok g c = rw c.in-Memory.is c.write_all-in-Memory.ensures.ok

pub returns-in-Missing-clause-ok : goal.returns-in-Missing-clause-ok
returns-in-Missing-clause-ok g c = rw c.in-Missing.is (put_is c.put_text-in-Missing.result c.format-in-Missing.result string_bytes _ _ _ c.put_text-in-Missing.ensures.ok c.format-in-Missing.ensures.ok)

pub returns-in-InputTooLarge-clause-ok : goal.returns-in-InputTooLarge-clause-ok
returns-in-InputTooLarge-clause-ok g c = rw c.in-InputTooLarge.is (put_is c.put_text-in-InputTooLarge.result c.format-in-InputTooLarge.result string_bytes _ _ _ c.put_text-in-InputTooLarge.ensures.ok c.format-in-InputTooLarge.ensures.ok)

pub returns-in-FileTooLarge-clause-ok : goal.returns-in-FileTooLarge-clause-ok
returns-in-FileTooLarge-clause-ok g c = rw c.in-FileTooLarge.is (put_is c.put_text-in-FileTooLarge.result c.format-in-FileTooLarge.result string_bytes _ _ _ c.put_text-in-FileTooLarge.ensures.ok c.format-in-FileTooLarge.ensures.ok)

pub returns-in-TooLong-clause-ok : goal.returns-in-TooLong-clause-ok
returns-in-TooLong-clause-ok g c = rw c.in-TooLong.is (put_is c.put_text-in-TooLong.result c.format-in-TooLong.result string_bytes _ _ _ c.put_text-in-TooLong.ensures.ok c.format-in-TooLong.ensures.ok)

pub returns-in-MissingIndex-clause-ok : goal.returns-in-MissingIndex-clause-ok
returns-in-MissingIndex-clause-ok g c = rw c.in-MissingIndex.is (put_is c.put_text-in-MissingIndex.result c.format-in-MissingIndex.result string_bytes _ _ _ c.put_text-in-MissingIndex.ensures.ok c.format-in-MissingIndex.ensures.ok)

pub returns-in-NamesSpent-clause-ok : goal.returns-in-NamesSpent-clause-ok
returns-in-NamesSpent-clause-ok g c = rw c.in-NamesSpent.is c.write_all-in-NamesSpent.ensures.ok

pub returns-in-Unreadable-clause-ok : goal.returns-in-Unreadable-clause-ok
returns-in-Unreadable-clause-ok g c = rw c.in-Unreadable.is (put_is c.put_text-in-Unreadable.result c.unreadable_line.result string_bytes _ _ _ c.put_text-in-Unreadable.ensures.ok c.unreadable_line.ensures)

pub returns-in-PackExists-clause-ok : goal.returns-in-PackExists-clause-ok
returns-in-PackExists-clause-ok g c = rw c.in-PackExists.is (put_is c.put_text-in-PackExists.result c.format-in-PackExists.result string_bytes _ _ _ c.put_text-in-PackExists.ensures.ok c.format-in-PackExists.ensures.ok)

pub returns-in-Full-clause-ok : goal.returns-in-Full-clause-ok
returns-in-Full-clause-ok g c = rw c.in-Full.is (put_is c.put_text-in-Full.result c.format-in-Full.result string_bytes _ _ _ c.put_text-in-Full.ensures.ok c.format-in-Full.ensures.ok)
