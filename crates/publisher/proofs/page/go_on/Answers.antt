use Rattle.std.proofs.Common.{◌∙◌, ap, sym, subst, List, Ok}
use Rattle.evaluator.specs.declared.reply.Shown.{Shown}
use Rattle.zknown.specs.Seen.{objects}
use Rattle.publisher.specs.declared.answer.Answer.TheVariants as answer
use Rattle.publisher.specs.Replies.{page_reply}
use Rattle.publisher.specs.Site.{request}
use Rattle.publisher.specs.Underway.{IsStage}
use Rattle.publisher.proofs.Stages.{on_done, on_halts, on_needs}
use Rattle.publisher.proofs.page.go_on.Goals as goal
use Rattle.publisher.proofs.page.go_on.Goals.{then-is_need, else-is_need}

pub returns-in-Ok-clause-answers : goal.returns-in-Ok-clause-answers
returns-in-Ok-clause-answers c =
    on_done c.args.known.now c.args.underway c.on-stack.result c.in-Ok.text _ _ c.on-stack.ensures c.in-Ok.ensures.is
    ∙ ap (λ (shown : List Shown). Ok (answer.Page (page_reply c.in-Ok.text shown))) (sym c.into_shown.ensures)
    ∙ ap (λ r. Ok (answer.Page r)) (sym c.page_reply.ensures)

pub returns-after-is_need-clause-answers : goal.returns-after-is_need-clause-answers
returns-after-is_need-clause-answers c = on_halts c.args.known.now c.args.underway c.on-stack.result c.in-Err.refusal c.on-stack.ensures c.in-Err.ensures.is

pub returns-after-is_need-clause-stage : goal.returns-after-is_need-clause-stage
returns-after-is_need-clause-stage c = λ q was under.
    elim c.if-is_need.branch [
      | then-is_need w ↦ subst (λ stage. IsStage (objects c.args.known.now) stage q) (sym w.stage-is)
          (on_needs c.args.known.now c.args.underway (request q) c.on-stack.result c.go_on.new.stack c.go_on.new.self c.in-Err.refusal w.rest-resting.result c.on-stack.ensures under
          (sym c.is_need.ensures ∙ w.if-is_need.true) c.in-Err.ensures.leads c.in-Err.ensures.stands w.rest-resting.ensures)
      | else-is_need w ↦ subst (λ stage. IsStage (objects c.args.known.now) stage q) (sym w.stage-is) was
    ]
