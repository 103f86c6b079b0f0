use Rattle.std.proofs.Common.{◌≡◌, ◌+◌, [], ◌∷◌, ◌++◌, ◌∙◌, ap, sym, subst, refl, arith, take}
use Rattle.std.proofs.lemmas.List.{take_all, take_more}
use Rattle.std.proofs.lemmas.Result.{err_from_is_err_and}
use Rattle.zbase.specs.Faults.{counts_as, counts_then}
use Rattle.zio.specs.Sinks.{due}
use Rattle.schedule.specs.Alone.{IsSerial, serial_then}
use Rattle.replay.specs.Printed.{Prints, opening, terms_of}
use Rattle.replay.proofs.AloneReports.{broken_alone}
use Rattle.replay.proofs.Keeping.{kept_first}
use Rattle.replay.proofs.LineRefusals.{handed_line, no_line, outside_counts, run_counts}
use Rattle.replay.proofs.NoIdle.{both}
use Rattle.replay.proofs.PrintSteps.{prints_then}
use Rattle.replay.proofs.alone.run_each.Goals as goal

pub returns-in-Err-clause-bad_line : goal.returns-in-Err-clause-bad_line
returns-in-Err-clause-bad_line g c n is = absurd (no_line c.broken_off.result c.from.result c.in-Err.refusal n c.broken_off.ensures c.from.ensures is)

pub returns-in-Err-clause-counts : goal.returns-in-Err-clause-counts
returns-in-Err-clause-counts g c = outside_counts _ _ c.put_opening.result c.broken_off.result c.in-Err.refusal c.from.result c.in-Err.is c.broken_off.ensures c.from.ensures c.put_opening.ensures.counts

pub loop-item-init : goal.loop-item-init
loop-item-init g c = record {
  told = c.requires.opened.1.told;
  unarmed = (c.requires.opened.1.unarmed, c.requires.opened.1.running);
  rest = c.requires.opened.1.rest;
  limit = (refl, sym c.requires.limit.0);
  ran = λ given is. ([], [], refl, kept_first g.E.Evaluator.meaning (terms_of g.E.Evaluator.takes g.E.Evaluator.meaning g.L.Links.linked c.args.limit c.args.core.store.end) given c.args.core is refl, rw c.store-2.ensures at c.in-Ok.ensures.ok, tt);
  number = refl;
  counts = counts_as c.in-Ok.ensures.counts (λ e. cc) (λ none. absurd none);
}

pub loop-item-preserved : goal.loop-item-preserved
loop-item-preserved g c =
    let first = c.args.core in
    let items = c.args.items.now in
    let i = c.loop-item.item-index in
    let item = c.item-item.result in
    let more : take i items ++ item ∷ [] ≡ take (i + 1) items = sym (take_more items i item c.loop-item-test.true ∙ ap (λ x. take i items ++ x ∷ []) (sym c.item-item.is)) in
    let limit = c.loop-item.invariant.limit in
    let ok = rw limit.0 at c.in_ok-run.ensures.ok in
    record {
      told = c.in_ok-run.ensures.told;
      unarmed = c.in_ok-run.ensures.unarmed;
      rest = c.in_ok-run.ensures.rest;
      limit = (c.in_ok-run.ensures.limit.0 ∙ limit.0, c.in_ok-run.ensures.limit.1 ∙ limit.0);
      ran = λ given is.
          (let ran = c.loop-item.invariant.ran given is in
          let did = ok.1.1 first.store.end given first.store.history ran.0 ran.1 ran.3 in (
            ran.0 ++ ok.0,
            ran.1 ++ did.0,
            subst (λ xs. IsSerial xs (ran.0 ++ ok.0)) more (serial_then (take i items) (item ∷ []) ran.0 ok.0 ran.2 ok.1.0),
            did.1,
            prints_then _ _ _ (opening first.store.history ++ ran.1) did.0 ran.4 did.2,
            both ran.1 did.0 ran.5 did.3,
          ));
      number = omega (arith, c.saturating_add-number.ensures, c.loop-item.invariant.number, c.loop-item-test.true);
      counts = counts_then c.loop-item.invariant.counts (λ none. none) (counts_as c.in_ok-run.ensures.counts (λ e. cc) (λ none. absurd none));
    }

pub returns-in_err-run-clause-bad_line : goal.returns-in_err-run-clause-bad_line
returns-in_err-run-clause-bad_line g c n is =
    let p = err_from_is_err_and c.from_residual.result c.from_residual.ensures.1 in
    let first = c.args.core in
    let terms = terms_of g.E.Evaluator.takes g.E.Evaluator.meaning g.L.Links.linked c.args.limit first.store.end in
    let opened = c.requires.opened in
    let ran = c.loop-item.invariant.ran opened.0 opened.1 in
    let bad = rw c.loop-item.invariant.limit.0 at (c.in_err-run.ensures.bad_line n first.store.end (handed_line _ c.in_err-run.field-0.0 c.from_residual.result n p.1 p.2 is)) in
    let grew = subst (λ w. Prints (due (g.K.Sink.written c.args.out.now) c.args.held.now) w (opening first.store.history ++ ran.1)) (sym bad.2) ran.4 in
    broken_alone g.E.Evaluator.meaning terms opened.0 first.store.history c.args.items.now c.loop-item.item-index c.item-item.result n ran.0 ran.1 c.loop-item.run.core c.loop-item.run.clock _ _
    c.runs_are_serial.ensures g.met.E.Evaluator.lawful ((rw c.store.ensures at c.is_sound-2.ensures.history) opened.1.told) c.loop-item-test.true c.item-item.is (bad.0 ∙ c.loop-item.invariant.number) ran.2 ran.3 grew bad.1

pub returns-in_err-run-clause-counts : goal.returns-in_err-run-clause-counts
returns-in_err-run-clause-counts g c =
    let p = err_from_is_err_and c.from_residual.result c.from_residual.ensures.1 in
    counts_then c.loop-item.invariant.counts (λ none. none) (run_counts _ _ _ c.in_err-run.field-0.0 c.from_residual.result p.1 p.2 c.in_err-run.ensures.counts)

pub returns-clause-rest : goal.returns-clause-rest
returns-clause-rest g c = c.loop-item.invariant.rest

pub returns-clause-ran : goal.returns-clause-ran
returns-clause-ran g c = λ given is.
    (let ran = c.loop-item.invariant.ran given is in
    (c.loop-item.run.clock, ran.0, ran.1, rw (take_all c.loop-item.item-index c.args.items.now c.loop-item-test.false) at ran.2, ran.3, ran.4, ran.5))

pub returns-clause-counts : goal.returns-clause-counts
returns-clause-counts g c = counts_as c.loop-item.invariant.counts (λ none. absurd none) (λ e. cc)
