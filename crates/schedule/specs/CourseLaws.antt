-- A course goes on by one item.
use Rattle.std.proofs.Common.{◌≡◌, List, [], ◌∷◌, ◌++◌, Option, refl}
use Rattle.schedule.specs.declared.item.Item2.{Item2}
use Rattle.schedule.specs.declared.line.Line.{Line}
use Rattle.schedule.specs.Armed.{Queue, after_place, after_places}
use Rattle.schedule.specs.Courses.{Happens, Place, Course}
use Rattle.schedule.specs.Moments.{Terms, Moment}

pub after_places-append : {R : Type 0} (k : Option Queue) (ps qs : List (Place R)) → after_places k (ps ++ qs) ≡ after_places (after_places k ps) qs
after_places-append k [] qs = refl
after_places-append k (p ∷ ps) qs = after_places-append (after_place k p) ps qs

pub course_more : {R : Type 0} (terms : Terms R) (first old new : Moment R) (ps : List (Place R)) (item : Item2) (lines : List Line) → Course terms first ps old → Happens terms old item lines new → Course terms first (ps ++ record { before = old; item = item; lines = lines; after = new } ∷ []) new
course_more terms first old new [] item lines c h = (c, h, refl)
course_more terms first old new (p ∷ ps) item lines c h = (c.0, c.1, course_more terms p.after old new ps item lines c.2 h)
