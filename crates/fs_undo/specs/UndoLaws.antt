-- An undo keeps the laws of an evaluation: it asks for nothing that passes, and what it writes keeps the rules of a change.
use Rattle.std.proofs.Common.{ℕ, suc, ◌<◌, ◌≤◌, ◌≡◌, ◌≢◌, ◌==◌, ◌||◌, ◌∙◌, ◌⊎◌, inr, refl, sym, ap, subst, arith, lit<, Bool, true, false, List, [], ◌∷◌, ◌++◌, length, map, Option, Some, None, Result, Ok, Err, eq-eqb}
use Rattle.std.specs.Prelude.{AllPairs, Contains, count_by}
use Rattle.std.specs.List.{AllByRecursion}
use Rattle.std.proofs.lemmas.List.Elements.{All-from_recursion}
use Rattle.std.proofs.lemmas.List.Kept.{AllPairs-cons}
use Rattle.zbase.specs.History.{Value}
use Rattle.zbase.specs.Query.{Halt, ◌>>=◌, or_else, run, go_on, and_then}
use Rattle.zbase.specs.QueryLaws.{run_then}
use Rattle.evaluator.specs.declared.ask.Ask.{Ask}
use Rattle.evaluator.specs.declared.draft.Draft.{Draft}
use Rattle.evaluator.specs.declared.draft.Entry.{Entry}
use Rattle.evaluator.specs.declared.draft.Name.{Name}
use Rattle.evaluator.specs.declared.fact.Fact.{Fact}
use Rattle.evaluator.specs.declared.fact.Part.{Part}
use Rattle.evaluator.specs.declared.reply.Reply.{Reply}
use Rattle.evaluator.specs.Change.{IsChange, IsEntry, WasSerial, is_new, longest_text, made, most_new, named}
use Rattle.evaluator.specs.Exec.{is_lasting}
use Rattle.evaluator.specs.Facts.{ask_of}
use Rattle.evaluator.specs.QuestionLaws.{object_lasts}
use Rattle.evaluator.specs.Questions.{Evaluation, IsCareful, NeverChanges}
use Rattle.fs_undo.specs.declared.planning.Restore.{Restore}
use Rattle.fs_undo.specs.Undo.{Fault, by_changed, entries_behind, entries_of, entry_of, first_changed, is_among, parts_told, planned, present, restore_of, undo, undo_parts, undone, value_told}

-- ---- it asks for nothing that passes

module _ {E : Type 0} (second : E → Reply) (first : Fault → E) (next : List Entry → Evaluation) (careful : (entries : List Entry) → IsCareful (next entries)) where
  planned_careful : (r : Result (List Restore) ℕ) → IsCareful (or_else second (or_else first (planned r)) >>= next)
  planned_careful (Ok restores) = careful (entries_of restores)
  planned_careful (Err o) = tt

  present_careful : (qs : List Part) (found : List Value) (ps : List Part) → IsCareful (or_else second (or_else first (present found ps >>= λ values. planned (undone qs values))) >>= next)
  unfolding present
  present_careful qs found [] = planned_careful (undone qs found)
  present_careful qs found (p ∷ ps) = λ f asked. (λ lasts. present_careful qs (found ++ value_told f ∷ []) ps, λ passes. absurd (let bad = object_lasts p.oid f asked in cc))

  at_fact : (t : ℕ) (f : Fact) → ask_of f ≡ Ask.Transaction t → (is_lasting f ≡ true → IsCareful (or_else second (or_else first (undo_parts t (parts_told f))) >>= next)) × (is_lasting f ≡ false → NeverChanges (or_else second (or_else first (undo_parts t (parts_told f))) >>= next))
  unfolding undo_parts
  at_fact t (Fact.Object o v s) asked = absurd (let bad = asked in cc)
  at_fact t (Fact.Transaction u None) asked = (λ lasts. tt, λ passes. tt)
  at_fact t (Fact.Transaction u (Some ps)) asked = (λ lasts. present_careful ps [] ps, λ passes. absurd (let bad = passes in cc))
  at_fact t (Fact.Log rows) asked = absurd (let bad = asked in cc)

  pub undo_careful : (t : ℕ) → IsCareful (or_else second (or_else first (undo t)) >>= next)
  unfolding undo
  undo_careful t = λ f asked. at_fact t f asked

-- ---- what it writes

-- every restore goes back to nothing, or to the serial before a known transaction
abbrev IsKnown : (Ask → Option Fact) → Restore → Type 0
IsKnown known r = (r.to ≡ 0) ⊎ WasSerial known r.oid r.to

entry_each : (known : Ask → Option Fact) (n : ℕ) (b : Bool) (r : Restore) (es : List Entry) → n ≡ 0 → IsKnown known r → AllByRecursion (IsEntry known n) es → AllByRecursion (IsEntry known n) (entry_of b r ++ es)
entry_each known n true r es none is all = all
entry_each known n false r es none is all = ((λ some. absurd (omega (arith, none, some)), is), all)

entries_each : (known : Ask → Option Fact) (n : ℕ) (earlier rs : List Restore) → n ≡ 0 → AllByRecursion (IsKnown known) rs → AllByRecursion (IsEntry known n) (entries_behind earlier rs)
entries_each known n earlier [] none all = tt
entries_each known n earlier (r ∷ rs) none all = entry_each known n (is_among r.oid earlier) r (entries_behind (earlier ++ r ∷ []) rs) none all.0 (entries_each known n (earlier ++ r ∷ []) rs none all.1)

entry_old : (b : Bool) (r : Restore) (es : List Entry) → count_by (λ e. is_new (named e)) es ≡ 0 → count_by (λ e. is_new (named e)) (entry_of b r ++ es) ≡ 0
entry_old true r es none = none
entry_old false r es none = none

entries_old : (earlier rs : List Restore) → count_by (λ e. is_new (named e)) (entries_behind earlier rs) ≡ 0
entries_old earlier [] = refl
entries_old earlier (r ∷ rs) = entry_old (is_among r.oid earlier) r (entries_behind (earlier ++ r ∷ []) rs) (entries_old (earlier ++ r ∷ []) rs)

-- no entry is about an object that had a restore
among_more : (o : ℕ) (earlier : List Restore) (r : Restore) → is_among o earlier ≡ true → is_among o (earlier ++ r ∷ []) ≡ true
among_more o [] r e = absurd (let bad = e in cc)
among_more o (q ∷ qs) r e = at (q.oid == o) e (among_more o qs r)
  where
    at : (b : Bool) → (b || is_among o qs) ≡ true → (is_among o qs ≡ true → is_among o (qs ++ r ∷ []) ≡ true) → (b || is_among o (qs ++ r ∷ [])) ≡ true
    at true e' deeper = refl
    at false e' deeper = deeper e'

among_last : (earlier : List Restore) (r : Restore) → is_among r.oid (earlier ++ r ∷ []) ≡ true
among_last [] r = rw (eq-eqb r.oid r.oid refl) refl
among_last (q ∷ qs) r = at (q.oid == r.oid) (among_last qs r)
  where
    at : (b : Bool) → is_among r.oid (qs ++ r ∷ []) ≡ true → (b || is_among r.oid (qs ++ r ∷ [])) ≡ true
    at true deeper = refl
    at false deeper = deeper

abbrev IsOther : ℕ → Entry → Type 0
IsOther o e = Name.Old o ≢ named e

entry_other : (o : ℕ) (earlier : List Restore) (b : Bool) (r : Restore) (es : List Entry) → is_among r.oid earlier ≡ b → is_among o earlier ≡ true → AllByRecursion (IsOther o) es → AllByRecursion (IsOther o) (entry_of b r ++ es)
entry_other o earlier true r es is own all = all
entry_other o earlier false r es is own all = (λ same. (let n : o ≡ r.oid = cc in let bad : true ≡ false = sym own ∙ ap (λ m. is_among m earlier) n ∙ is in cc), all)

entries_other : (o : ℕ) (earlier rs : List Restore) → is_among o earlier ≡ true → AllByRecursion (IsOther o) (entries_behind earlier rs)
entries_other o earlier [] own = tt
entries_other o earlier (r ∷ rs) own = entry_other o earlier (is_among r.oid earlier) r (entries_behind (earlier ++ r ∷ []) rs) refl own (entries_other o (earlier ++ r ∷ []) rs (among_more o earlier r own))

abbrev AreDistinct : List Entry → Type 0
AreDistinct entries = AllPairs (λ a b. named a ≢ named b) entries

entry_distinct : (b : Bool) (r : Restore) (es : List Entry) → AllByRecursion (IsOther r.oid) es → AreDistinct es → AreDistinct (entry_of b r ++ es)
entry_distinct true r es other distinct = distinct
entry_distinct false r es other distinct = AllPairs-cons (λ a b. named a ≢ named b) (Entry.Restore r.oid r.to) es (All-from_recursion (IsOther r.oid) es other) distinct

entries_distinct : (earlier rs : List Restore) → AreDistinct (entries_behind earlier rs)
entries_distinct earlier [] = λ i j d h k. absurd (omega arith)
entries_distinct earlier (r ∷ rs) = entry_distinct (is_among r.oid earlier) r (entries_behind (earlier ++ r ∷ []) rs) (entries_other r.oid (earlier ++ r ∷ []) rs (among_last earlier r)) (entries_distinct (earlier ++ r ∷ []) rs)

abbrev of_entries : List ℕ → List ℕ → List Entry → Draft
of_entries user description entries = record { user = user; description = description; entries = entries }

restores_are_change : (known : Ask → Option Fact) (user description : List ℕ) (rs : List Restore) → length user ≤ longest_text → length description ≤ longest_text → AllByRecursion (IsKnown known) rs → IsChange known (of_entries user description (entries_of rs))
restores_are_change known user description rs few short all = record {
  user = few;
  description = short;
  distinct = entries_distinct [] rs;
  numbered = λ k h. absurd (omega (arith, h, entries_old [] rs));
  few = subst (λ n. n < most_new) (sym (entries_old [] rs)) (lit< tt);
  each = entries_each known (made (of_entries user description (entries_of rs))) [] rs (entries_old [] rs) all;
}

-- ---- it is written only where all is known

parts_known : (known : Ask → Option Fact) (ps : List Part) → ((p : Part) → Contains ps p → IsKnown known (restore_of p)) → AllByRecursion (IsKnown known) (map restore_of ps)
parts_known known [] each = tt
parts_known known (p ∷ ps) each = (each p (0, omega arith, refl), parts_known known ps (λ q c. each q (suc c.0, omega (arith, c.1), c.2)))

-- what was planned puts back each part
planned_is : (known : Ask → Option Fact) (ps : List Part) (changed : Option ℕ) (entries : List Entry) → run known (planned (by_changed ps changed)) ≡ Ok entries → entries ≡ entries_of (map restore_of ps)
planned_is known ps None entries e = cc
planned_is known ps (Some o) entries e = absurd (let bad = e in cc)

pub written_is : (known : Ask → Option Fact) (t : ℕ) (ps : List Part) (entries : List Entry) → run known (undo_parts t (Some ps)) ≡ Ok entries → entries ≡ entries_of (map restore_of ps)
unfolding undo_parts
written_is known t ps entries e = at (run known (present [] ps)) (sym (run_then known (present [] ps) (λ values. planned (undone ps values))) ∙ e)
  where
    at : (r : Result (List Value) (Halt Ask Fault)) → and_then r (λ values. run known (planned (undone ps values))) ≡ Ok entries → entries ≡ entries_of (map restore_of ps)
    at (Ok values) e' = planned_is known ps (first_changed ps values) entries e'
    at (Err h) e' = absurd (let bad = e' in cc)

-- the transaction is known where something is undone
pub undone_from : (known : Ask → Option Fact) → ((ask : Ask) (f : Fact) → known ask ≡ Some f → ask_of f ≡ ask) → (t : ℕ) (entries : List Entry) → run known (undo t) ≡ Ok entries →
    (ps : List Part) × (known (Ask.Transaction t) ≡ Some (Fact.Transaction t (Some ps))) × (run known (undo_parts t (Some ps)) ≡ Ok entries)
unfolding undo undo_parts
undone_from known tells t entries e = at (known (Ask.Transaction t)) refl e
  where
    at : (o : Option Fact) → known (Ask.Transaction t) ≡ o → go_on (Ask.Transaction t) (λ f. run known (undo_parts t (parts_told f))) o ≡ Ok entries →
        (ps : List Part) × (known (Ask.Transaction t) ≡ Some (Fact.Transaction t (Some ps))) × (run known (undo_parts t (Some ps)) ≡ Ok entries)
    at None is e' = absurd (let bad = e' in cc)
    at (Some (Fact.Object o v s)) is e' = absurd (let bad = e' in cc)
    at (Some (Fact.Transaction u None)) is e' = absurd (let bad = e' in cc)
    at (Some (Fact.Transaction u (Some ps))) is e' = (let asked = tells (Ask.Transaction t) (Fact.Transaction u (Some ps)) is in let same : u ≡ t = cc in (ps, is ∙ ap (λ n. Some (Fact.Transaction n (Some ps))) same, e'))
    at (Some (Fact.Log rows)) is e' = absurd (let bad = e' in cc)

-- what undoes a transaction keeps the rules of a change
pub undo_is_change : (known : Ask → Option Fact) → ((ask : Ask) (f : Fact) → known ask ≡ Some f → ask_of f ≡ ask) → (t : ℕ) (entries : List Entry) (user description : List ℕ) → run known (undo t) ≡ Ok entries →
    length user ≤ longest_text → length description ≤ longest_text → IsChange known (record { user = user; description = description; entries = entries })
undo_is_change known tells t entries user description e few short =
    let from = undone_from known tells t entries e in
    subst (λ es. IsChange known (of_entries user description es)) (sym (written_is known t from.0 entries from.2))
    (restores_are_change known user description (map restore_of from.0) few short (parts_known known from.0 (λ p c. inr (t, from.0, p, from.1, c, refl, refl))))
