-- What the loop kept up to an item that can't be run.
use Rattle.std.proofs.Common.{◌≡◌, ℕ, ◌+◌, ◌<◌, List, ◌∷◌, ◌++◌, length, take, drop, get_or, refl, sym, ap, ◌∙◌, subst, arith, inl}
use Rattle.std.proofs.lemmas.List.{drop_more, length-take, take-append-drop}
use Rattle.std.specs.Prelude.{Option}
use Rattle.zbase.specs.History.{History, IsHistory}
use Rattle.evaluator.specs.Exec.{Eval, IsLawful}
use Rattle.schedule.specs.declared.item.Item2.{Item2}
use Rattle.schedule.specs.declared.line.Line.{Line}
use Rattle.schedule.specs.ArmedRuns.{is_armed}
use Rattle.schedule.specs.Courses.{items_of, lines_of}
use Rattle.schedule.specs.Explained.{report}
use Rattle.schedule.specs.Moments.{Moment, Terms, clocked, start}
use Rattle.txn_core.specs.Cores.{CoreView}
use Rattle.txn_core.specs.Slots.{moment_of}
use Rattle.replay.specs.BrokenOff.{BrokenOff, CannotRun}
use Rattle.replay.specs.Kept.{Kept}
use Rattle.replay.specs.Printed.{Prints, opening}
use Rattle.replay.proofs.Keeping.{RunLaw}

pub broken_off : {E R S : Type 0} (eval : Eval R) (terms : Terms R) (given : List ℕ) (h : History) (items : List Item2) (i : ℕ) (item : Item2) (n : ℕ) (lines : List Line) (core : CoreView E R S) (now : ℕ) (old new : Option (List ℕ))
    → RunLaw R → IsLawful terms.eval → IsHistory h → i < length items → item ≡ get_or items i item → n ≡ i + 2 → Kept eval terms given h (take i items) lines core now → Prints old new (opening h ++ lines)
    → CannotRun terms (clocked (moment_of eval core.store core.slots) now) item → BrokenOff terms h items n old new
broken_off {E} {R} {S} eval terms given h items i item n lines core now old new law lawful history lt is number kept so_far cannot =
    let end : Moment R = clocked (moment_of eval core.store core.slots) now in
    let ran = kept.ran (moment_of eval core.store core.slots) (core.store, inl refl, refl) in
    let explained = law terms h ran.trace end lawful history ran.course (is_armed terms (start terms h) end (take i items) lines kept.queue ran) in
    let grew : Prints old new (opening h ++ lines_of ran.trace) = subst (λ xs. Prints old new (opening h ++ xs)) (sym ran.all_lines) so_far in
    record {
      before = items_of ran.trace;
      item = item;
      after = drop (i + 1) items;
      all = sym (take-append-drop i items) ∙ ap (λ xs. take i items ++ xs) (drop_more items i item lt ∙ ap (λ x. x ∷ drop (i + 1) items) (sym is)) ∙ ap (λ xs. xs ++ item ∷ drop (i + 1) items) (sym ran.all_items);
      number = omega (arith, number, ap length ran.all_items, length-take i items);
      report = report h ran.trace end;
      explained = explained.0;
      printed = subst (λ t. Prints old new (opening h ++ lines_of t)) (sym explained.1) grew;
      cannot = subst (λ m. CannotRun terms m item) (sym explained.2) cannot;
    }
