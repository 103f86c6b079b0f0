-- Where no section ends, all is right by the last history.
use Rattle.std.proofs.Common.{◌≡◌, true, false, List, [], ◌∷◌, ◌++◌, refl, sym, subst}
use Rattle.std.specs.List.{AllByRecursion}
use Rattle.zbase.specs.History.{History, IsPrefixOf}
use Rattle.schedule.specs.declared.item.Item2.{Item2}
use Rattle.schedule.specs.declared.line.Line.{Line}
use Rattle.schedule.specs.Courses.{Place, items_of}
use Rattle.schedule.specs.Explained.{Explains}
use Rattle.schedule.specs.Moments.{Terms, Moment}
use Rattle.schedule.specs.Right.{AreRight, IsRight, ends_section, history_after}
use Rattle.schedule.specs.Sections.{ExplainsInOne, IsNoPack, IsRightWithin}

no_end : (item : Item2) (lines : List Line) → IsNoPack item → ends_section item lines ≡ false
no_end (Item2.Request w bytes) lines without = refl
no_end (Item2.Step w) lines without = refl
no_end (Item2.Clock t) lines without = refl
no_end (Item2.Stop n seed) lines without = refl
no_end (Item2.Fail n seed) lines without = refl
no_end (Item2.Pack t) lines without = absurd without
no_end Item2.End lines without = refl

same_end : {R : Type 0} (ps : List (Place R)) (end : Moment R) → AllByRecursion IsNoPack (items_of ps) → history_after ps end ≡ end.standing
same_end [] end all = refl
same_end (p ∷ ps) end all = (let goes : ends_section p.item p.lines ≡ false = no_end p.item p.lines all.0 in rw goes (same_end ps end all.1))

within : {R : Type 0} (terms : Terms R) (h : History) (p : Place R) → ends_section p.item p.lines ≡ false → IsRight terms h p → IsRightWithin terms h p
within terms h p goes right = record { goes_on = goes; reply = right.reply; growth = right.growth goes; grows = right.grows goes; stands = right.stands }

all_within : {R : Type 0} (terms : Terms R) (ps : List (Place R)) (end : Moment R) → AllByRecursion IsNoPack (items_of ps) → AreRight terms ps end → AllByRecursion (IsRightWithin terms end.standing) ps
all_within terms [] end all right = tt
all_within terms (p ∷ ps) end all right = (within terms end.standing p (no_end p.item p.lines all.0) (subst (λ h. IsRight terms h p) (same_end ps end all.1) right.0), all_within terms ps end all.1 right.1)

all_right : {R : Type 0} (terms : Terms R) (ps : List (Place R)) (end : Moment R) → AllByRecursion IsNoPack (items_of ps) → AllByRecursion (IsRightWithin terms end.standing) ps → AreRight terms ps end
all_right terms [] end all right = tt
all_right terms (p ∷ ps) end all right =
    let here = right.0 in
    (subst (λ h. IsRight terms h p) (sym (same_end ps end all.1)) (record { reply = here.reply; growth = λ more. here.growth; grows = λ more. here.grows; stands = here.stands }), all_right terms ps end all.1 right.1)

pub in_one : {R : Type 0} (terms : Terms R) (licence : List (Place R) → Type 0) (h0 : History) (s : List Item2) (r : List Line) → AllByRecursion IsNoPack s → Explains terms licence h0 s r → ExplainsInOne terms licence h0 s r
in_one terms licence h0 s r all e =
    let none : AllByRecursion IsNoPack (items_of e.trace) = subst (AllByRecursion IsNoPack) (sym e.items) all in
    record { trace = e.trace; end = e.end; items = e.items; lines = e.lines; course = e.course; first = subst (IsPrefixOf h0) (same_end e.trace e.end none) e.first; right = all_within terms e.trace e.end none e.right; faults = e.faults }

pub from_one : {R : Type 0} (terms : Terms R) (licence : List (Place R) → Type 0) (h0 : History) (s : List Item2) (r : List Line) → AllByRecursion IsNoPack s → ExplainsInOne terms licence h0 s r → Explains terms licence h0 s r
from_one terms licence h0 s r all e =
    let none : AllByRecursion IsNoPack (items_of e.trace) = subst (AllByRecursion IsNoPack) (sym e.items) all in
    record { trace = e.trace; end = e.end; items = e.items; lines = e.lines; course = e.course; first = subst (IsPrefixOf h0) (sym (same_end e.trace e.end none)) e.first; right = all_right terms e.trace e.end none e.right; faults = e.faults }

-- the first section of a report with a pack that is done: it is right by the history that the pack prints, and what follows is
-- right by itself
pub first_section : {R : Type 0} (terms : Terms R) (before : List (Place R)) (p : Place R) (behind : List (Place R)) (end : Moment R) → AllByRecursion (λ (q : Place R). ends_section q.item q.lines ≡ false) before → ends_section p.item p.lines ≡ true → AreRight terms (before ++ p ∷ behind) end
    → AllByRecursion (IsRightWithin terms p.before.standing) before × IsPrefixOf p.after.standing (history_after behind end) × AreRight terms behind end
first_section terms [] p behind end all ends right = (tt, right.0.stands, right.1)
first_section {R} terms (q ∷ before) p behind end all ends right =
    let rest = first_section terms before p behind end all.1 ends right.1 in
    ((within terms p.before.standing q all.0 (subst (λ h. IsRight terms h q) (ends_at before all.1) right.0), rest.0), rest.1, rest.2)
  where
    ends_at : (qs : List (Place R)) → AllByRecursion (λ (k : Place R). ends_section k.item k.lines ≡ false) qs → history_after (qs ++ p ∷ behind) end ≡ p.before.standing
    ends_at [] none = rw ends refl
    ends_at (k ∷ qs) none = (let goes : ends_section k.item k.lines ≡ false = none.0 in rw goes (ends_at qs none.1))
