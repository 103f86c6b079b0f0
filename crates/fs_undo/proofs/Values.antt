-- Values that are the same, facts of objects, and what is known of the present values.
use Rattle.std.proofs.Common.{◌≡◌, ◌∙◌, ◌++◌, ◌∷◌, ℕ, Bool, true, false, cond, List, [], map, length, Option, Some, None, Result, Ok, Err, refl, sym, ap, append_assoc, append-nil}
use Rattle.std.specs.Prelude.{◌↔◌, IsTrue, is_some}
use Rattle.std.specs.Option.{option_and_then}
use Rattle.std.specs.Str.{bytes_eq}
use Rattle.std.proofs.lemmas.Slice.Eq.{bytes_eq-Decides}
use Rattle.std.proofs.lemmas.List.{length-map}
use Rattle.zbase.specs.History.{Value}
use Rattle.zbase.specs.Query.{Need, Cause, Told, run, go_on, and_then}
use Rattle.zbase.specs.QueryLaws.{run_then}
use Rattle.evaluator.specs.declared.ask.Ask.{Ask}
use Rattle.evaluator.specs.declared.draft.Entry.{Entry}
use Rattle.evaluator.specs.declared.fact.Fact.{Fact}
use Rattle.evaluator.specs.declared.fact.Part.{Part}
use Rattle.evaluator.specs.Facts.{ask_of, look}
use Rattle.evaluator.specs.FactLaws.{look_asked}
use Rattle.fs_undo.specs.declared.planning.Present.{Present}
use Rattle.fs_undo.specs.declared.planning.Restore.{Restore}
use Rattle.fs_undo.specs.declared.planning.UndoRefusal.{UndoRefusal}
use Rattle.fs_undo.specs.declared.planning.UndoRefusal.TheVariants as refusals
use Rattle.fs_undo.specs.Undo.{NoTransaction, Plans, entries_of, first_unknown, halt_of, object_value, or_none, parts_told, planned, present, same_value, told, undo, undo_parts, undone, value_now, value_told, values_of}

-- ---- the run over the present values

module _ (known : Ask → Option Fact) (tells : (ask : Ask) (f : Fact) → known ask ≡ Some f → ask_of f ≡ ask) where
  needs_at : (found : List Value) (ps : List Part) (o : ℕ) → first_unknown known ps ≡ Some o → run known (present found ps) ≡ Err (Need (Ask.Object o))
  unfolding present
  needs_at found [] o e = absurd (let bad = e in cc)
  needs_at found (p ∷ ps) o e = at (known (Ask.Object p.oid)) refl e (λ f. needs_at (found ++ value_told f ∷ []) ps o)
    where
      at : (k : Option Fact) → known (Ask.Object p.oid) ≡ k → cond (is_some (option_and_then object_value k)) (first_unknown known ps) (Some p.oid) ≡ Some o →
          ((f : Fact) → first_unknown known ps ≡ Some o → run known (present (found ++ value_told f ∷ []) ps) ≡ Err (Need (Ask.Object o))) →
          go_on (Ask.Object p.oid) (λ f. run known (present (found ++ value_told f ∷ []) ps)) k ≡ Err (Need (Ask.Object o))
      at None is e' deeper = (let same : p.oid ≡ o = cc in ap (λ n. Err (Need (Ask.Object n))) same)
      at (Some (Fact.Object q v s)) is e' deeper = deeper (Fact.Object q v s) e'
      at (Some (Fact.Transaction t qs)) is e' deeper = absurd (let bad = tells (Ask.Object p.oid) (Fact.Transaction t qs) is in cc)
      at (Some (Fact.Log rows)) is e' deeper = absurd (let bad = tells (Ask.Object p.oid) (Fact.Log rows) is in cc)

  values_at : (found : List Value) (ps : List Part) → first_unknown known ps ≡ None → run known (present found ps) ≡ Ok (found ++ map (value_now known) ps)
  unfolding present
  values_at found [] e = ap Ok (sym (append-nil found))
  values_at found (p ∷ ps) e = at (known (Ask.Object p.oid)) refl e (λ f. values_at (found ++ value_told f ∷ []) ps)
    where
      at : (k : Option Fact) → known (Ask.Object p.oid) ≡ k → cond (is_some (option_and_then object_value k)) (first_unknown known ps) (Some p.oid) ≡ None →
          ((f : Fact) → first_unknown known ps ≡ None → run known (present (found ++ value_told f ∷ []) ps) ≡ Ok ((found ++ value_told f ∷ []) ++ map (value_now known) ps)) →
          go_on (Ask.Object p.oid) (λ f. run known (present (found ++ value_told f ∷ []) ps)) k ≡ Ok (found ++ or_none (option_and_then object_value k) ∷ map (value_now known) ps)
      at None is e' deeper = absurd (let bad = e' in cc)
      at (Some (Fact.Object q v s)) is e' deeper = deeper (Fact.Object q v s) e' ∙ ap Ok (append_assoc found (v ∷ []) (map (value_now known) ps))
      at (Some (Fact.Transaction t qs)) is e' deeper = absurd (let bad = e' in cc)
      at (Some (Fact.Log rows)) is e' deeper = absurd (let bad = e' in cc)

pub needs_first : (facts : List Fact) (t : ℕ) (ps : List Part) (o : ℕ) → Some o ≡ first_unknown (look facts) ps → run (look facts) (undo_parts t (Some ps)) ≡ Err (Need (Ask.Object o))
unfolding undo_parts
needs_first facts t ps o e =
    run_then (look facts) (present [] ps) (λ values. planned (undone ps values))
    ∙ ap (λ r. and_then r (λ values. run (look facts) (planned (undone ps values)))) (needs_at (look facts) (look_asked facts) [] ps o (sym e))

pub all_known : (facts : List Fact) (t : ℕ) (ps : List Part) → None ≡ first_unknown (look facts) ps → run (look facts) (undo_parts t (Some ps)) ≡ run (look facts) (planned (undone ps (map (value_now (look facts)) ps)))
unfolding undo_parts
all_known facts t ps e =
    run_then (look facts) (present [] ps) (λ values. planned (undone ps values))
    ∙ ap (λ r. and_then r (λ values. run (look facts) (planned (undone ps values)))) (values_at (look facts) (look_asked facts) [] ps (sym e))

-- ---- the transaction

pub needs_transaction : (facts : List Fact) (t : ℕ) → None ≡ look facts (Ask.Transaction t) → run (look facts) (undo t) ≡ Err (Need (Ask.Transaction t))
unfolding undo
needs_transaction facts t e = ap (go_on (Ask.Transaction t) (λ f. run (look facts) (undo_parts t (parts_told f)))) (sym e)

pub goes_with : (facts : List Fact) (t u : ℕ) (ps : List Part) → Some (Fact.Transaction u (Some ps)) ≡ look facts (Ask.Transaction t) → run (look facts) (undo t) ≡ run (look facts) (undo_parts t (Some ps))
unfolding undo
goes_with facts t u ps e = ap (go_on (Ask.Transaction t) (λ f. run (look facts) (undo_parts t (parts_told f)))) (sym e)

pub no_parts : (facts : List Fact) (t u : ℕ) → Some (Fact.Transaction u None) ≡ look facts (Ask.Transaction t) → run (look facts) (undo t) ≡ Err (Cause (NoTransaction t))
unfolding undo undo_parts
no_parts facts t u e = ap (go_on (Ask.Transaction t) (λ f. run (look facts) (undo_parts t (parts_told f)))) (sym e)

pub other_fact : (facts : List Fact) (t : ℕ) (f : Fact) → parts_told f ≡ None → Some f ≡ look facts (Ask.Transaction t) → run (look facts) (undo t) ≡ Err (Cause (NoTransaction t))
unfolding undo undo_parts
other_fact facts t f none e =
    ap (go_on (Ask.Transaction t) (λ g. run (look facts) (undo_parts t (parts_told g)))) (sym e) ∙ ap (λ ps. run (look facts) (undo_parts t ps)) none

pub by_fact : (facts : List Fact) (o : ℕ) (f : Fact) (v : Option Value) → Some f ≡ look facts (Ask.Object o) → v ≡ object_value f → v ≡ option_and_then object_value (look facts (Ask.Object o))
by_fact facts o f v e is = is ∙ ap (option_and_then object_value) e

-- ---- values

by_test : (a b : List ℕ) (same : Bool) → (IsTrue same ↔ (a ≡ b)) → same ≡ bytes_eq a b
by_test a b same is = go same (bytes_eq a b) refl refl
  where
    fails : same ≡ false → bytes_eq a b ≡ true → ⊥
    fails e t = (let own : same ≡ true = is.1 ((bytes_eq-Decides a b).0 t) in cc)

    go : (s t : Bool) → same ≡ s → bytes_eq a b ≡ t → same ≡ bytes_eq a b
    go true true p q = p ∙ sym q
    go false false p q = p ∙ sym q
    go true false p q = p ∙ sym ((bytes_eq-Decides a b).1 (is.0 p))
    go false true p q = absurd (fails p q)

pub same_some : (a b : List ℕ) (same : Bool) → (IsTrue same ↔ (a ≡ b)) → same ≡ same_value (Some a) (Some b)
same_some a b same is = by_test a b same is

-- ---- the plan

length_values : (known : Ask → Option Fact) (rows : List Present) (ps : List Part) → values_of rows ≡ map (value_now known) ps → length rows ≡ length ps
length_values known rows ps e = sym (length-map rows (λ (r : Present). r.value)) ∙ ap length e ∙ length-map ps (value_now known)

pub one_each : (known : Ask → Option Fact) (rows shown : List Present) (ps given : List Part) → values_of rows ≡ map (value_now known) given → shown ≡ rows → given ≡ ps → length shown ≡ length ps
one_each known rows shown ps given e same is = ap length same ∙ length_values known rows given e ∙ ap length is

pub writes_so : (known : Ask → Option Fact) (r : Result (List Restore) ℕ) (restores shown : List Restore) (entries : List Entry) → r ≡ Ok restores → shown ≡ restores → entries ≡ entries_of shown → run known (planned r) ≡ Ok entries
writes_so known r restores shown entries e same is = ap (λ s. run known (planned s)) e ∙ ap (λ rs. Ok (entries_of rs)) (sym same) ∙ ap Ok (sym is)

pub refuses_so : (known : Ask → Option Fact) (r : Result (List Restore) ℕ) (refusal : UndoRefusal) → Plans (Err refusal) r → Told (told (halt_of refusal)) (run known (planned r))
refuses_so known r refusals.Memory h = tt
refuses_so known r (refusals.Changed o) h = ap (λ s. run known (planned s)) h
