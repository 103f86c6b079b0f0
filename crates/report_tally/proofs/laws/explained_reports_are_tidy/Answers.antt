use Rattle.std.proofs.Common.{ap, sym, ◌∙◌}
use Rattle.evaluator.specs.Facts.{look}
use Rattle.report_tally.proofs.Tame.{tidy_report}
use Rattle.report_tally.proofs.laws.explained_reports_are_tidy.Goals as goal

pub returns : goal.returns
returns g c = λ terms h items report takes eval it.
    tidy_report terms (record {
      answers = λ known q x e. g.met.E.Evaluator.replies known q x (ap (λ meaning. meaning known q) (sym eval) ∙ e);
      changes = λ facts q x d taken e. (g.met.E.Evaluator.changes facts q x d (taken.0, ap (λ read. read taken.0) (sym takes) ∙ taken.1) (ap (λ meaning. meaning (look facts) q) (sym eval) ∙ e)).1;
    }) h items report it
