use Rattle.std.proofs.Common.{[], ◌∷◌, ◌∙◌, refl, replicate}
use Rattle.std.proofs.lemmas.Result.{IfOk-weaker}
use Rattle.zbase.specs.Faults.{counts_none}
use Rattle.schedule.specs.declared.item.Item2.{Item2}
use Rattle.replay.specs.Printed.{terms_of}
use Rattle.replay.proofs.Giving.{refused}
use Rattle.replay.proofs.ItemSteps.{given_goes_needed}
use Rattle.replay.proofs.LineRefusals.{same_line}
use Rattle.replay.proofs.NoIdle.{needed_then}
use Rattle.replay.proofs.RunAlone.{rest_idle}
use Rattle.replay.proofs.alone.run_request.Goals as goal

pub run_to_reply-requires-clause-alone : goal.run_to_reply-requires-clause-alone
run_to_reply-requires-clause-alone g c = λ v lt other. c.give.ensures.others v other ∙ rest_idle g.E.Evaluator.meaning 16 v c.args.run.core.slots c.requires.rest.1 lt

pub returns-in-Ok-true-clause-ok : goal.returns-in-Ok-true-clause-ok
returns-in-Ok-true-clause-ok g c =
    let old = c.args.run.core in
    let mid = c.give.new.core in
    let now = c.args.run.clock in
    let w = c.args.worker in
    let bytes = c.args.bytes.now in
    IfOk-weaker c.run_to_reply.result _ _
    (λ new r. (
      r.0,
      λ links. needed_then g.E.Evaluator.takes g.E.Evaluator.meaning links c.args.run.limit old mid new.core now now new.clock (Item2.Request w bytes ∷ []) (replicate r.0 (Item2.Step w)) _ _ _
          (given_goes_needed g.E.Evaluator.takes g.E.Evaluator.meaning links c.args.run.limit now w bytes old mid _ c.in-Ok-true.ensures.store (λ at limit end. c.in-Ok-true.ensures.given c.in-Ok-true.field-0-test links at limit end)) (r.1 links),
    ))
    c.run_to_reply.ensures.ok

pub returns-in-Ok-false-clause-bad_line : goal.returns-in-Ok-false-clause-bad_line
returns-in-Ok-false-clause-bad_line g c = λ n links end is.
    let core = c.args.run.core in
    let terms = terms_of g.E.Evaluator.takes g.E.Evaluator.meaning links c.args.run.limit end in
    (same_line c.broken_off.result c.args.number n c.broken_off.ensures is, refused terms g.E.Evaluator.meaning core c.args.run.clock c.args.worker c.args.bytes.now (c.in-Ok-false.ensures.refused c.in-Ok-false.field-0-test), refl)

pub returns-in-Ok-false-clause-counts : goal.returns-in-Ok-false-clause-counts
returns-in-Ok-false-clause-counts g c = rw c.broken_off.ensures (counts_none _ _ (λ is. cc))

pub returns-in-Err-clause-counts : goal.returns-in-Err-clause-counts
returns-in-Err-clause-counts g c = rw c.broken_off-in-Err.ensures (counts_none _ _ (λ is. cc))
