use Rattle.std.proofs.Common.{rules}
use Rattle.std.specs.Prelude.{string_bytes}
use Rattle.zope.proofs.LastLines.{front_is, put_is}
use Rattle.zope.proofs.checking.put_numbers.Goals as goal

pub returns-in-Ok-clause-ok : goal.returns-in-Ok-clause-ok
returns-in-Ok-clause-ok g c = rw c.in-Ok.is at (put_is c.put_text.result c.lines_of.result string_bytes _ _ _ c.put_text.ensures.ok c.lines_of.ensures)

pub returns-in-Err-Failed-clause-cause : goal.returns-in-Err-Failed-clause-cause
returns-in-Err-Failed-clause-cause g c = (search rules, front_is c.lines_of.result string_bytes _ _ _ (c.put_text.ensures.failed (rw c.in-Err-Failed.field-0-is at c.in-Err-Failed.is)) c.lines_of.ensures)
