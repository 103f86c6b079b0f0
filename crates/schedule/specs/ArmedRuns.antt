-- A run goes on by one item, with entries armed: what a loop over a schedule keeps, from its first item to its last.
use Rattle.std.proofs.Common.{◌≡◌, List, [], ◌∷◌, ◌++◌, Option, Some, refl, sym, ap, ◌∙◌, append-nil, subst, IsSome}
use Rattle.std.proofs.lemmas.Grind.{flat_map-append}
use Rattle.std.proofs.lemmas.List.{map-append}
use Rattle.schedule.specs.declared.item.Item2.{Item2}
use Rattle.schedule.specs.declared.line.Line.{Line}
use Rattle.schedule.specs.Armed.{Queue, IsArmed, nothing_armed, after_item, after_lines, after_place, after_places}
use Rattle.schedule.specs.CourseLaws.{after_places-append, course_more}
use Rattle.schedule.specs.Courses.{Happens, Place, Course, items_of, lines_of}
use Rattle.schedule.specs.Moments.{Terms, Moment}

-- the queue licenses the fault lines of the item, and is the next one behind them
abbrev pub Licenses : Queue → Item2 → List Line → Queue → Type 0
Licenses k item lines next = after_lines (Some (after_item k item)) lines ≡ Some next

-- these items printed these lines, this moment was reached, and this queue is left
pub record RanArmed {R : Type 0} (terms : Terms R) (first : Moment R) (items : List Item2) (lines : List Line) (now : Moment R) (queue : Queue) : Type 0 where
  pub trace : List (Place R)
  pub all_items : items_of trace ≡ items
  pub all_lines : lines_of trace ≡ lines
  pub course : Course terms first trace now
  pub armed : after_places (Some nothing_armed) trace ≡ Some queue

pub ran_none : {R : Type 0} (terms : Terms R) (first : Moment R) → RanArmed terms first [] [] first nothing_armed
ran_none terms first = record { trace = []; all_items = refl; all_lines = refl; course = refl; armed = refl }

pub ran_more : {R : Type 0} (terms : Terms R) (first old new : Moment R) (items : List Item2) (lines more : List Line) (item : Item2) (k next : Queue) → RanArmed terms first items lines old k → Happens terms old item more new → Licenses k item more next → RanArmed terms first (items ++ item ∷ []) (lines ++ more) new next
ran_more terms first old new items lines more item k next ran h arms =
    let place : Place _ = record { before = old; item = item; lines = more; after = new } in
    record {
      trace = ran.trace ++ place ∷ [];
      all_items = map-append (λ (p : Place _). p.item) ran.trace (place ∷ []) ∙ ap (λ xs. xs ++ item ∷ []) ran.all_items;
      all_lines = flat_map-append (λ (p : Place _). p.lines) ran.trace (place ∷ []) ∙ ap (λ xs. xs ++ (more ++ [])) ran.all_lines ∙ ap (λ xs. lines ++ xs) (append-nil more);
      course = course_more terms first old new ran.trace item more ran.course h;
      armed = after_places-append (Some nothing_armed) ran.trace (place ∷ []) ∙ ap (λ q. after_place q place) ran.armed ∙ arms;
    }

-- so each fault line is licensed
pub is_armed : {R : Type 0} (terms : Terms R) (first now : Moment R) (items : List Item2) (lines : List Line) (k : Queue) → (ran : RanArmed terms first items lines now k) → IsArmed ran.trace
is_armed terms first now items lines k ran = subst (λ (q : Option Queue). IsSome q) (sym ran.armed) refl
