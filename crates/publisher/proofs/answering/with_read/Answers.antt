use Rattle.std.proofs.Common.{Ok, Err}
use Rattle.publisher.specs.declared.stage.Met.TheVariants as met
use Rattle.publisher.specs.Site.{request}
use Rattle.publisher.proofs.Stages.{answers_on, meets_behind}
use Rattle.publisher.proofs.answering.with_read.Goals as goal

pub returns-in-Ok-Answered-clause-answers : goal.returns-in-Ok-Answered-clause-answers
returns-in-Ok-Answered-clause-answers c =
    meets_behind c.args.known.now c.args.read c.args.request.now (Ok (met.Answered c.in-Ok-Answered.answer)) c.requires.read (rw c.in-Ok-Answered.field-0-is at c.in-Ok-Answered.ensures)

pub returns-in-Ok-Begun-clause-answers : goal.returns-in-Ok-Begun-clause-answers
returns-in-Ok-Begun-clause-answers c =
    let under = meets_behind c.args.known.now c.args.read c.args.request.now (Ok (met.Begun c.in-Ok-Begun.underway)) c.requires.read (rw c.in-Ok-Begun.field-0-is at c.in-Ok-Begun.ensures) in
    answers_on c.args.known.now c.in-Ok-Begun.underway (request c.args.request.now) c.go_on.result under c.go_on.ensures.answers

pub returns-in-Ok-Begun-clause-stage : goal.returns-in-Ok-Begun-clause-stage
returns-in-Ok-Begun-clause-stage c =
    let under = meets_behind c.args.known.now c.args.read c.args.request.now (Ok (met.Begun c.in-Ok-Begun.underway)) c.requires.read (rw c.in-Ok-Begun.field-0-is at c.in-Ok-Begun.ensures) in
    c.go_on.ensures.stage c.args.request.now c.requires.stage under

pub returns-clause-answers : goal.returns-clause-answers
returns-clause-answers c = meets_behind c.args.known.now c.args.read c.args.request.now (Err c.in-Err.refusal) c.requires.read c.in-Err.ensures
