-- What a loop over requests that run alone kept, with what closes a report, is all that is promised of its report.
use Rattle.std.proofs.Common.{◌≡◌, ℕ, ◌+◌, ◌<◌, List, [], ◌∷◌, ◌++◌, length, replicate, take, drop, get_or, refl, sym, ap, ◌∙◌, subst, arith, inl}
use Rattle.std.proofs.lemmas.List.{drop_more, length-take, take-append-drop}
use Rattle.std.specs.List.{AllByRecursion, enumerate_from, filter_map}
use Rattle.std.specs.Prelude.{Option}
use Rattle.zbase.specs.History.{History, IsHistory}
use Rattle.zdisk.specs.Disk.{Told}
use Rattle.evaluator.specs.Exec.{Eval, IsLawful}
use Rattle.packing.specs.Reachable.{Linking}
use Rattle.schedule.specs.declared.item.Item2.{Item2}
use Rattle.schedule.specs.declared.line.Line.{Line}
use Rattle.schedule.specs.Alone.{IsNoIdle, IsSerial}
use Rattle.schedule.specs.ArmedRuns.{is_armed}
use Rattle.schedule.specs.Courses.{items_of, lines_of}
use Rattle.schedule.specs.Explained.{report}
use Rattle.schedule.specs.Moments.{Doing, Free, Moment, Terms, clocked, lost_line, lost_lines, start}
use Rattle.fs_store.specs.Moments.{OpensTo}
use Rattle.fs_store.specs.Stores.{StoreView}
use Rattle.connection.specs.Telling.{TellsOn, tells_forth}
use Rattle.txn_core.specs.Cores.{CoreView, IsAtRest}
use Rattle.txn_core.specs.Slots.{Possible, moment_of}
use Rattle.replay.specs.BrokenOff.{CannotRun}
use Rattle.replay.specs.Held.{HoldsFile}
use Rattle.replay.specs.Kept.{Kept}
use Rattle.replay.specs.Printed.{Prints, closing, opening, terms_of}
use Rattle.replay.specs.Serials.{BrokenAlone, Serials}
use Rattle.replay.proofs.Flushing.{flushed}
use Rattle.replay.proofs.Keeping.{RunLaw, kept_ended}
use Rattle.replay.proofs.PrintSteps.{prints_then}

pub broken_alone : {E R S : Type 0} (eval : Eval R) (terms : Terms R) (given : List ℕ) (h : History) (items : List Item2) (i : ℕ) (item : Item2) (n : ℕ) (run : List Item2) (lines : List Line) (core : CoreView E R S) (now : ℕ) (old new : Option (List ℕ))
    → RunLaw R → IsLawful terms.eval → IsHistory h → i < length items → item ≡ get_or items i item → n ≡ i + 2 → IsSerial (take i items) run → Kept eval terms given h run lines core now → Prints old new (opening h ++ lines)
    → CannotRun terms (clocked (moment_of eval core.store core.slots) now) item → BrokenAlone terms h items n old new
broken_alone {E} {R} {S} eval terms given h items i item n run lines core now old new law lawful history lt is number alone kept so_far cannot =
    let end : Moment R = clocked (moment_of eval core.store core.slots) now in
    let ran = kept.ran (moment_of eval core.store core.slots) (core.store, inl refl, refl) in
    let explained = law terms h ran.trace end lawful history ran.course (is_armed terms (start terms h) end run lines kept.queue ran) in
    let grew : Prints old new (opening h ++ lines_of ran.trace) = subst (λ xs. Prints old new (opening h ++ xs)) (sym ran.all_lines) so_far in
    record {
      before = take i items;
      item = item;
      after = drop (i + 1) items;
      all = sym (take-append-drop i items) ∙ ap (λ xs. take i items ++ xs) (drop_more items i item lt ∙ ap (λ x. x ∷ drop (i + 1) items) (sym is));
      number = omega (arith, number, lt, length-take i items);
      run = items_of ran.trace;
      serial = subst (λ xs. IsSerial (take i items) xs) (sym ran.all_items) alone;
      report = report h ran.trace end;
      explained = explained.0;
      printed = subst (λ t. Prints old new (opening h ++ lines_of t)) (sym explained.1) grew;
      cannot = subst (λ m. CannotRun terms m item) (sym explained.2) cannot;
    }

-- nobody's request is lost where nobody has one
nobody : (R : Type 0) → (let free : List (Doing R) = replicate 16 Free in filter_map lost_line (enumerate_from 0 free)) ≡ []
nobody R = refl

pub whole_alone : {E R S : Type 0} (takes : List ℕ → Option R) (eval : Eval R) (links : Linking) (limit end : ℕ) (given : List ℕ) (h0 : History) (items run : List Item2) (lines : List Line) (core : CoreView E R S) (now : ℕ) (may : StoreView) (disk : Option Told) (old mid new : Option (List ℕ))
    → RunLaw R → IsLawful eval → IsHistory h0 → OpensTo given h0 end → IsSerial items run → Kept eval (terms_of takes eval links limit end) given h0 run lines core now → AllByRecursion IsNoIdle lines → IsAtRest eval core → Possible core.store may → HoldsFile disk may.history → TellsOn core.store.disk.told disk
    → Prints old mid (opening h0 ++ lines) → Prints mid new (closing (moment_of eval may core.slots)) → Serials takes eval links limit given items disk old new
whole_alone {E} {R} {S} takes eval links limit end given h0 items run lines core now may disk old mid new law lawful history opens alone kept busy rest possible holds tells so_far closed =
    let e = kept_ended eval (terms_of takes eval links limit end) given h0 run lines core now law lawful history kept may possible in
    let lost : lost_lines (clocked (moment_of eval may core.slots) now) ≡ [] = ap (λ (ws : List (Doing R)). filter_map lost_line (enumerate_from 0 ws)) rest.1 ∙ nobody R in
    record {
      history = h0;
      end = end;
      opens = opens;
      run = run;
      serial = alone;
      report = opening h0 ++ (lines ++ closing (moment_of eval may core.slots));
      explained = e.0;
      needed = subst (AllByRecursion IsNoIdle) (sym e.2) busy;
      none_lost = ap (λ (m : Moment R). lost_lines m) e.1 ∙ lost;
      printed = prints_then old mid new (opening h0 ++ lines) (closing (moment_of eval may core.slots)) so_far closed;
      told = tells_forth core.store.disk.told disk tells kept.told;
      holds = subst (HoldsFile disk) (sym (ap (λ (m : Moment R). m.standing) e.1)) holds;
    }

-- what was due is what was written
pub flushed_alone : {R : Type 0} {takes : List ℕ → Option R} {eval : Eval R} {links : Linking} {limit : ℕ} {bytes : List ℕ} {items : List Item2} {disk : Option Told} (begun due old new : Option (List ℕ)) → begun ≡ old → new ≡ due → Serials takes eval links limit bytes items disk begun due → Serials takes eval links limit bytes items disk old new
flushed_alone {R} {takes} {eval} {links} {limit} {bytes} {items} {disk} begun due old new first end ran = flushed (λ o w. Serials takes eval links limit bytes items disk o w) begun due old new first end ran
