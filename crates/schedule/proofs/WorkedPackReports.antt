-- The worked reports with packs: which cells are kept, and what the run prints.
use Rattle.std.proofs.Common.{◌≡◌, ℕ, ◌+◌, ◌==◌, ◌||◌, ◌⊎◌, Bool, true, false, List, [], ◌∷◌, ◌++◌, Option, None, refl, sym, subst, inl, inr, map, arith, eqb-true}
use Rattle.evaluator.specs.declared.cells.CellRequest.{CellRequest}
use Rattle.evaluator.specs.CellLaws.{cells_lawful}
use Rattle.zbase.specs.History.{History}
use Rattle.packing.specs.Packed.{packed}
use Rattle.packing.specs.Reachable.{AreReadable, IsKeep}
use Rattle.schedule.specs.declared.item.Item2.{Item2}
use Rattle.schedule.specs.declared.line.Line.{Line}
use Rattle.schedule.specs.Armed.{IsArmed}
use Rattle.schedule.specs.Courses.{Place, Course}
use Rattle.schedule.specs.Explained.{Explained}
use Rattle.schedule.specs.Moments.{Moment, Terms, start}
use Rattle.schedule.specs.Packing.{Packs, PackTrouble, Pack_fails, Is_cut_off, pack_fails, packs_to}
use Rattle.schedule.specs.Stepping.{Told, Trouble}
use Rattle.schedule.specs.Worked.{first_tid, read_1}
use Rattle.schedule.specs.WorkedPacks.{copy_items, hindered_report, hindered_schedule, pack_report, pack_schedule, rooted, rooted_links, three_cells}
use Rattle.schedule.proofs.Oracle.{ran, trace_of, end_of}
use Rattle.schedule.proofs.OracleCourses.{ran_course}
use Rattle.schedule.proofs.Running.{explained}

abbrev plain : Item2 → Item2 × Option Trouble
plain item = (item, None)

-- a course, and another one from where it ended
joined : {R : Type 0} (terms : Terms R) (first mid last : Moment R) (ps qs : List (Place R)) → Course terms first ps mid → Course terms mid qs last → Course terms first (ps ++ qs) last
joined terms first mid last [] qs c d = subst (λ k. Course terms k qs last) (sym c) d
joined terms first mid last (p ∷ ps) qs c d = (c.0, c.1, joined terms p.after mid last ps qs c.2 d)

-- ---- a commit, a pack and a commit

abbrev first_run : Option (List (Place CellRequest) × Moment CellRequest)
first_run = ran rooted (start rooted three_cells) (map plain copy_items)

abbrev packing_at : Moment CellRequest
packing_at = end_of (start rooted three_cells) first_run

abbrev keep : ℕ → Bool
keep o = (o == 0) || (o == 1)

two_kept : (o : ℕ) → keep o ≡ true → (o ≡ 0) ⊎ (o ≡ 1)
two_kept o is = go (o == 0) (o == 1) refl refl is
  where
    go : (a b : Bool) → (o == 0) ≡ a → (o == 1) ≡ b → (a || b) ≡ true → (o ≡ 0) ⊎ (o ≡ 1)
    go true b e f k = inl (eqb-true o 0 e)
    go false true e f k = inr (eqb-true o 1 f)
    go false false e f k = absurd cc

abbrev stood : History
stood = packing_at.standing

kept : IsKeep rooted_links stood (first_tid + 1) keep
kept = record {
  closed = record {
    root = refl;
    written = tt;
    linked = λ o is. elim (two_kept o is) [ inl e ↦ rw e (((refl, tt), tt)) | inr e ↦ rw e ((tt, tt)) ];
  };
  least = λ other closed o is. elim (two_kept o is) [ inl e ↦ rw e closed.root | inr e ↦ rw e (closed.linked 0 closed.root).0.0 ];
}

readable : AreReadable rooted_links stood (first_tid + 1) keep
readable = λ o is. elim (two_kept o is) [ inl e ↦ rw e refl | inr e ↦ rw e refl ]

abbrev done : Told CellRequest
done = packs_to rooted packing_at (packed keep stood (first_tid + 1))

packs : Packs rooted packing_at (first_tid + 1) done.0 done.1
packs = record { keep = keep; kept = kept; told = inr (readable, refl) }

abbrev pack_place : Place CellRequest
pack_place = record { before = packing_at; item = Item2.Pack (first_tid + 1); lines = done.0; after = done.1 }

abbrev second_run : Option (List (Place CellRequest) × Moment CellRequest)
second_run = ran rooted done.1 (map plain copy_items)

abbrev all_places : List (Place CellRequest)
all_places = trace_of first_run ++ pack_place ∷ trace_of second_run

pub pack_is_explained : Explained rooted three_cells pack_schedule pack_report
pack_is_explained =
    explained rooted IsArmed three_cells all_places (end_of done.1 second_run) cells_lawful (omega arith, tt)
    (joined rooted (start rooted three_cells) packing_at (end_of done.1 second_run) (trace_of first_run) (pack_place ∷ trace_of second_run) (ran_course rooted (start rooted three_cells) (map plain copy_items) (trace_of first_run) packing_at refl)
    (refl, inr (refl, inl packs), ran_course rooted done.1 (map plain copy_items) (trace_of second_run) (end_of done.1 second_run) refl))
    refl

-- ---- a pack while a worker has a request, one that a stop cuts off, and one that a failure meets

abbrev given_run : Option (List (Place CellRequest) × Moment CellRequest)
given_run = ran rooted (start rooted three_cells) (plain (Item2.Request 0 read_1) ∷ [])

abbrev busy_at : Moment CellRequest
busy_at = end_of (start rooted three_cells) given_run

abbrev read_items : List Item2
read_items = Item2.Step 0 ∷ Item2.Step 0 ∷ Item2.Step 0 ∷ Item2.Stop 1 0 ∷ []

abbrev read_run : Option (List (Place CellRequest) × Moment CellRequest)
read_run = ran rooted busy_at (map plain read_items)

abbrev stopped_at : Moment CellRequest
stopped_at = end_of busy_at read_run

abbrev pack_told : Moment CellRequest → PackTrouble → Place CellRequest
pack_told m trouble = record { before = m; item = Item2.Pack first_tid; lines = (pack_fails m trouble).0; after = (pack_fails m trouble).1 }

abbrev restarted_at : Moment CellRequest
restarted_at = (pack_fails stopped_at (Is_cut_off [])).1

abbrev fail_run : Option (List (Place CellRequest) × Moment CellRequest)
fail_run = ran rooted restarted_at (plain (Item2.Fail 1 0) ∷ [])

abbrev busy_place : Place CellRequest
busy_place = record { before = busy_at; item = Item2.Pack first_tid; lines = Line.PackBusy ∷ []; after = busy_at }

abbrev last_places : List (Place CellRequest)
last_places = pack_told restarted_at Pack_fails ∷ []

abbrev stopped_places : List (Place CellRequest)
stopped_places = pack_told stopped_at (Is_cut_off []) ∷ (trace_of fail_run ++ last_places)

abbrev busy_places : List (Place CellRequest)
busy_places = busy_place ∷ (trace_of read_run ++ stopped_places)

last_course : Course rooted restarted_at last_places restarted_at
last_course = (refl, inr (refl, inr (Pack_fails, refl)), refl)

stopped_course : Course rooted stopped_at stopped_places restarted_at
stopped_course = (refl, inr (refl, inr (Is_cut_off [], refl)), joined rooted restarted_at restarted_at restarted_at (trace_of fail_run) last_places (ran_course rooted restarted_at (plain (Item2.Fail 1 0) ∷ []) (trace_of fail_run) restarted_at refl) last_course)

busy_course : Course rooted busy_at busy_places restarted_at
busy_course = (refl, inl (refl, refl), joined rooted busy_at stopped_at restarted_at (trace_of read_run) stopped_places (ran_course rooted busy_at (map plain read_items) (trace_of read_run) stopped_at refl) stopped_course)

pub hindered_is_explained : Explained rooted three_cells hindered_schedule hindered_report
hindered_is_explained =
    explained rooted IsArmed three_cells (trace_of given_run ++ busy_places) restarted_at cells_lawful (omega arith, tt)
    (joined rooted (start rooted three_cells) busy_at restarted_at (trace_of given_run) busy_places (ran_course rooted (start rooted three_cells) (plain (Item2.Request 0 read_1) ∷ []) (trace_of given_run) busy_at refl) busy_course)
    refl
