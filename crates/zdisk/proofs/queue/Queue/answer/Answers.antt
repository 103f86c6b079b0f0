use Rattle.std.proofs.Common.{subst}
use Rattle.zdisk.specs.Meeting.{Answers}
use Rattle.zdisk.specs.declared.queue.Met.{Met}
use Rattle.zdisk.proofs.Following.{answers_counts, answers_once}
use Rattle.zdisk.proofs.queue.Queue.answer.Goals as goal

pub returns-clause-answers : goal.returns-clause-answers
returns-clause-answers c = subst (λ (m : Met). Answers m c.answer.result) c.call-meets.ensures.met c.answer.ensures

pub returns-clause-once : goal.returns-clause-once
returns-clause-once c = answers_once c.args.self.now c.call-meets.new.self c.call-meets.result c.answer.result c.answer.ensures c.call-meets.ensures.once

pub returns-clause-counts : goal.returns-clause-counts
returns-clause-counts c = answers_counts c.args.self.now c.call-meets.new.self c.call-meets.result c.answer.result c.answer.ensures c.call-meets.ensures.counts
