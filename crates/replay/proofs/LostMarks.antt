-- The lines of lost requests, by the slots of a core and by marks.
use Rattle.std.proofs.Common.{◌≡◌, ℕ, ◌+◌, ◌<◌, Bool, false, List, [], ◌∷◌, ◌++◌, Option, Some, None, refl, sym, ap, ◌∙◌, map, drop, get_or, length, append_assoc}
use Rattle.std.specs.List.{enumerate_from, filter_map}
use Rattle.std.proofs.lemmas.List.{drop_more}
use Rattle.evaluator.specs.Exec.{Eval}
use Rattle.schedule.specs.declared.line.Line.{Line}
use Rattle.schedule.specs.Moments.{clocked, lost_line, lost_lines}
use Rattle.fs_store.specs.Stores.{StoreView}
use Rattle.connection.specs.States.{ActiveView}
use Rattle.txn_core.specs.declared.slot.Slot.{Slot}
use Rattle.txn_core.specs.Cores.{is_taken}
use Rattle.txn_core.specs.Slots.{computed_of, doing_of, moment_of}
use Rattle.replay.specs.Losing.{lost_mark, lost_marks, mark_lines}

computed_lost : {R : Type 0} (a : ActiveView R) (w : ℕ) → lost_line (w, computed_of a.attempt a.ready) ≡ Some (Line.Lost w)
computed_lost a w = (elim a.ready as (λ r. lost_line (w, computed_of a.attempt r) ≡ Some (Line.Lost w)) [ None ↦ refl | Some p ↦ refl ])

slot_lost : {E R S : Type 0} (eval : Eval R) (w : ℕ) (s : Slot E R S) → lost_line (w, doing_of eval s) ≡ lost_mark (w, is_taken s)
slot_lost eval w Slot.Idle = refl
slot_lost eval w (Slot.Fresh f) = refl
slot_lost eval w (Slot.Active a) = refl
slot_lost eval w (Slot.Computed a) = computed_lost a w
slot_lost eval w (Slot.Pending p) = refl

line_first : {X : Type 0} (line_of : ℕ × X → Option Line) (i : ℕ) (x : X) (xs : List X) → filter_map line_of (enumerate_from i (x ∷ xs)) ≡ mark_lines (line_of (i, x)) ++ filter_map line_of (enumerate_from (i + 1) xs)
line_first line_of i x xs = go (line_of (i, x)) refl
  where
    go : (o : Option Line) → line_of (i, x) ≡ o → filter_map line_of (enumerate_from i (x ∷ xs)) ≡ mark_lines (line_of (i, x)) ++ filter_map line_of (enumerate_from (i + 1) xs)
    go None e = rw e refl
    go (Some l) e = rw e refl

slots_lost : {E R S : Type 0} (eval : Eval R) (i : ℕ) (ss : List (Slot E R S)) → filter_map lost_line (enumerate_from i (map (doing_of eval) ss)) ≡ filter_map lost_mark (enumerate_from i (map is_taken ss))
slots_lost eval i [] = refl
slots_lost eval i (s ∷ ss) =
    line_first lost_line i (doing_of eval s) (map (doing_of eval) ss)
    ∙ ap (λ o. mark_lines o ++ filter_map lost_line (enumerate_from (i + 1) (map (doing_of eval) ss))) (slot_lost eval i s)
    ∙ ap (λ ls. mark_lines (lost_mark (i, is_taken s)) ++ ls) (slots_lost eval (i + 1) ss)
    ∙ sym (line_first lost_mark i (is_taken s) (map is_taken ss))

-- the marks of a core's slots say what is lost
pub marks_of_slots : {E R S : Type 0} (eval : Eval R) (store : StoreView) (now : ℕ) (ss : List (Slot E R S)) (marks : List Bool) → marks ≡ map is_taken ss → lost_marks marks ≡ lost_lines (clocked (moment_of eval store ss) now)
marks_of_slots eval store now ss marks is = ap lost_marks is ∙ sym (slots_lost eval 0 ss)

-- one mark more
pub one_mark : (marks : List Bool) (i w : ℕ) (mark : Bool) (done all : List Line) → i < length marks → mark ≡ get_or marks i false → w ≡ i
    → done ++ filter_map lost_mark (enumerate_from i (drop i marks)) ≡ all → (done ++ mark_lines (lost_mark (w, mark))) ++ filter_map lost_mark (enumerate_from (i + 1) (drop (i + 1) marks)) ≡ all
one_mark marks i w mark done all lt is at so =
    let here : drop i marks ≡ mark ∷ drop (i + 1) marks = drop_more marks i false lt ∙ ap (λ b. b ∷ drop (i + 1) marks) (sym is) in
    ap (λ k. (done ++ mark_lines (lost_mark (k, mark))) ++ filter_map lost_mark (enumerate_from (i + 1) (drop (i + 1) marks))) at
    ∙ append_assoc done (mark_lines (lost_mark (i, mark))) (filter_map lost_mark (enumerate_from (i + 1) (drop (i + 1) marks)))
    ∙ ap (λ ls. done ++ ls) (sym (ap (λ bs. filter_map lost_mark (enumerate_from i bs)) here ∙ line_first lost_mark i mark (drop (i + 1) marks)))
    ∙ so
