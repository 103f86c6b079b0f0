use Rattle.std.proofs.Common.{sym}
use Rattle.report_tally.proofs.RowParts.{after_none, after_split, before_all, before_split}
use Rattle.report_tally.proofs.rows.cut.Goals as goal

pub returns-in-Some-clause-front : goal.returns-in-Some-clause-front
returns-in-Some-clause-front c = before_split c.args.byte c.args.bytes.now _ _ c.in-Some.ensures.parts c.in-Some.ensures.first

pub returns-in-Some-clause-rest : goal.returns-in-Some-clause-rest
returns-in-Some-clause-rest c = after_split c.args.byte c.args.bytes.now _ _ c.in-Some.ensures.parts c.in-Some.ensures.first

pub returns-in-None-clause-front : goal.returns-in-None-clause-front
returns-in-None-clause-front c = sym (before_all c.args.byte c.args.bytes.now c.in-None.ensures.parts)

pub returns-in-None-clause-rest : goal.returns-in-None-clause-rest
returns-in-None-clause-rest c = sym (after_none c.args.byte c.args.bytes.now c.in-None.ensures.parts)
