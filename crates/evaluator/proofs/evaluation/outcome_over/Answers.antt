use Rattle.std.proofs.Common.{◌≡◌, ◌≤◌, ◌∙◌, [], ◌∷◌, ◌++◌, sym, subst, arith, length, length-append}
use Rattle.evaluator.specs.Exec.{IsDecided, most_asks}
use Rattle.evaluator.specs.Facts.{look}
use Rattle.evaluator.proofs.Asking.{AreAsked, asked_more, decided_else}
use Rattle.evaluator.proofs.evaluation.outcome_over.Goals as goal

pub asking-preserved : goal.asking-preserved
asking-preserved g c =
    let f = c.in_ok-fact.field-0 in
    rw c.in_ok-push.ensures.ok (record {
      fits = c.in_ok-outcome.ensures.fits (f ∷ []);
      asked = asked_more g.E.Evaluator.meaning (g.S.Snapshot.history c.args.snapshot.now) c.args.request.now c.asking.facts c.in-Need.ask f g.met.E.Evaluator.lawful c.asking.invariant.asked (sym c.in_ok-outcome.ensures.value ∙ c.in-Need.is) c.in_ok-fact.ensures;
    })

pub asking-smaller : goal.asking-smaller
asking-smaller g c =
    let f = c.in_ok-fact.field-0 in
    let more : AreAsked g.E.Evaluator.meaning (g.S.Snapshot.history c.args.snapshot.now) c.args.request.now (c.asking.facts ++ f ∷ []) = asked_more g.E.Evaluator.meaning (g.S.Snapshot.history c.args.snapshot.now) c.args.request.now c.asking.facts c.in-Need.ask f g.met.E.Evaluator.lawful c.asking.invariant.asked (sym c.in_ok-outcome.ensures.value ∙ c.in-Need.is) c.in_ok-fact.ensures in
    let few : length (c.asking.facts ++ f ∷ []) ≤ most_asks = g.met.E.Evaluator.few_asks (c.asking.facts ++ f ∷ []) c.args.request.now more.trail in
    rw c.in_ok-push.ensures.ok (omega (arith, few, length-append c.asking.facts (f ∷ [])))

pub returns-in_default : goal.returns-in_default
returns-in_default g c =
    let h = g.S.Snapshot.history c.args.snapshot.now in
    let facts = c.asking.facts in
    let request = c.args.request.now in
    let asked = c.asking.invariant.asked in
    let value : c.in_ok-outcome.outcome ≡ g.E.Evaluator.meaning (look facts) request = c.in_ok-outcome.ensures.value in
    let decided : IsDecided c.in_ok-outcome.outcome = decided_else c.in_ok-outcome.outcome c.in_default.not-Need in
    record {
      whole = value ∙ sym (g.met.E.Evaluator.lawful.whole facts h request asked.true_facts (subst IsDecided value decided));
      decided = decided;
      told = value;
      trail = asked.trail;
      true_facts = asked.true_facts;
      few = g.met.E.Evaluator.few_asks facts request asked.trail;
      once = asked.once;
      lasting = λ reply draft e. g.met.E.Evaluator.lawful.lasting facts request reply draft (sym value ∙ e);
      change = λ reply draft taken e. g.met.E.Evaluator.changes facts request reply draft taken (sym value ∙ e);
      reply = λ reply e. g.met.E.Evaluator.replies (look facts) request reply (sym value ∙ e);
    }
