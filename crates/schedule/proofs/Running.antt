-- Every course of moments is right, each place by the history that ends its section.
use Rattle.std.proofs.Common.{◌≡◌, Bool, true, false, cond, List, [], ◌∷◌, refl, sym, subst}
use Rattle.zbase.specs.History.{History, IsHistory, IsPrefixOf}
use Rattle.evaluator.specs.Exec.{IsLawful}
use Rattle.schedule.specs.Moments.{Terms, Moment, start}
use Rattle.schedule.specs.Courses.{Place, Course, items_of}
use Rattle.schedule.specs.Right.{AreRight, ends_section, history_after}
use Rattle.schedule.specs.Explained.{report, Explains}
use Rattle.zbase.specs.HistoryLaws.{prefix_refl, prefix_trans}
use Rattle.schedule.proofs.Good.{Good, good_start}
use Rattle.schedule.proofs.Proper.{happens_rightly}

-- The run law: a course is right, each of its places by the history that ends its section; and the history of its first
-- moment is a prefix of the one that ends the first section.
pub record Runs {R : Type 0} (terms : Terms R) (old : Moment R) (ps : List (Place R)) (new : Moment R) : Type 0 where
  pub good : Good terms new
  pub whole : IsHistory (history_after ps new)
  pub grows : IsPrefixOf old.standing (history_after ps new)
  pub right : AreRight terms ps new

pub course_is_right : {R : Type 0} (terms : Terms R) (old : Moment R) (ps : List (Place R)) (new : Moment R) → IsLawful terms.eval → Good terms old → Course terms old ps new → Runs terms old ps new
course_is_right terms old [] new lawful good c = record {
  good = subst (Good terms) c good;
  whole = (subst (Good terms) c good).history;
  grows = subst (λ k. IsPrefixOf old.standing k.standing) c (prefix_refl old.standing);
  right = tt;
}
course_is_right {R} terms old (p ∷ ps) new lawful good c =
    let before : Good terms p.before = subst (Good terms) c.0 good in
    let step = happens_rightly terms p.before p.item p.lines p.after lawful before c.1 in
    let rest = course_is_right terms p.after ps new lawful step.good c.2 in
    let here = step.right (history_after ps new) rest.whole rest.grows in
    let first = section_goes_on p.before.standing (history_after ps new) before.history rest.whole (ends_section p.item p.lines) (λ more. prefix_trans (step.grows more) rest.grows) in
    record {
      good = rest.good;
      whole = first.0;
      grows = subst (λ (k : Moment R). IsPrefixOf k.standing (history_after (p ∷ ps) new)) (sym c.0) first.1;
      right = (record { reply = here.0; growth = here.1; grows = step.grows; stands = rest.grows }, rest.right);
    }
  where
    section_goes_on : (now h : History) → IsHistory now → IsHistory h → (b : Bool) → (b ≡ false → IsPrefixOf now h) → IsHistory (cond b now h) × IsPrefixOf now (cond b now h)
    section_goes_on now h is whole true more = (is, prefix_refl now)
    section_goes_on now h is whole false more = (whole, more refl)

-- What a loop has to show is the course and the faults alone: the rest follows, by that course.
pub explained_by : {R : Type 0} (terms : Terms R) (licence : List (Place R) → Type 0) (h0 : History) (ps : List (Place R)) (end : Moment R) → IsLawful terms.eval → IsHistory h0 → Course terms (start terms h0) ps end → licence ps
    → (e : Explains terms licence h0 (items_of ps) (report h0 ps end)) × (e.trace ≡ ps) × (e.end ≡ end)
explained_by terms licence h0 ps end lawful is c faults =
    let run = course_is_right terms (start terms h0) ps end lawful (good_start terms h0 is) c in (
      record {
        trace = ps;
        end = end;
        items = refl;
        lines = refl;
        course = c;
        first = run.grows;
        right = run.right;
        faults = faults;
      },
      refl,
      refl,
    )

pub explained : {R : Type 0} (terms : Terms R) (licence : List (Place R) → Type 0) (h0 : History) (ps : List (Place R)) (end : Moment R) → IsLawful terms.eval → IsHistory h0 → Course terms (start terms h0) ps end → licence ps → Explains terms licence h0 (items_of ps) (report h0 ps end)
explained terms licence h0 ps end lawful is c faults = (explained_by terms licence h0 ps end lawful is c faults).0
