use Rattle.std.proofs.Common.{sym, subst}
use Rattle.evaluator.specs.Exec.{IsLawful}
use Rattle.schedule.specs.AskLaws.{none_twice}
use Rattle.schedule.proofs.Unhindered.{AsksFew, is_decided, keeps_pace, read_count, write_count}
use Rattle.schedule.proofs.laws.requests_keep_pace.Goals as goal

pub returns-clause-steps : goal.returns-clause-steps
returns-clause-steps g c = λ terms h0 s r e same is w q during unhindered. keeps_pace terms h0 e.trace e.end (subst IsLawful (sym same) g.met.E.Evaluator.lawful) (subst AsksFew (sym same) g.met.E.Evaluator.few_asks) is e.course w q during unhindered

pub returns-clause-reads : goal.returns-clause-reads
returns-clause-reads g c = read_count

pub returns-clause-writes : goal.returns-clause-writes
returns-clause-writes g c = write_count

pub returns-clause-one_or_other : goal.returns-clause-one_or_other
returns-clause-one_or_other g c = λ h q. is_decided g.E.Evaluator.meaning h q g.met.E.Evaluator.lawful g.met.E.Evaluator.few_asks

pub returns-clause-once : goal.returns-clause-once
returns-clause-once g c = λ h q. none_twice g.E.Evaluator.meaning h q g.met.E.Evaluator.lawful
