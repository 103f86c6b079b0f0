-- The present values of a whole history, and what of them has changed.
use Rattle.std.proofs.Common.{ℕ, ◌≡◌, ◌∙◌, ◌++◌, ◌∷◌, ◌==◌, ◌||◌, [], refl, sym, ap, Bool, true, false, cond, List, map, Option, Some, None, Ok, Err, append_assoc, append-nil, eq-eqb}
use Rattle.std.proofs.lemmas.Slice.Eq.{bytes_eq-Decides}
use Rattle.zbase.specs.History.{Value, History}
use Rattle.zbase.specs.Query.{Cause, run, and_then}
use Rattle.zbase.specs.QueryLaws.{run_then}
use Rattle.zbase.specs.Values.{value}
use Rattle.evaluator.specs.declared.draft.Entry.{Entry}
use Rattle.evaluator.specs.declared.fact.Part.{Part}
use Rattle.fs_undo.specs.Undo.{Changed, by_changed, first_changed, planned, present, same_value, undo_parts, undone}
use Rattle.fs_undo.specs.Undone.{AreUnchanged, has_part, in_history}

abbrev now_of : History → Part → Value
now_of h p = value h p.oid

present_of : (h : History) (found : List Value) (ps : List Part) → run (in_history h) (present found ps) ≡ Ok (found ++ map (now_of h) ps)
unfolding present
present_of h found [] = ap Ok (sym (append-nil found))
present_of h found (p ∷ ps) = present_of h (found ++ value h p.oid ∷ []) ps ∙ ap Ok (append_assoc found (value h p.oid ∷ []) (map (now_of h) ps))

pub planned_run : (h : History) (t : ℕ) (ps : List Part) → run (in_history h) (undo_parts t (Some ps)) ≡ run (in_history h) (planned (undone ps (map (now_of h) ps)))
unfolding undo_parts
planned_run h t ps =
    run_then (in_history h) (present [] ps) (λ values. planned (undone ps values)) ∙ ap (λ r. and_then r (λ values. run (in_history h) (planned (undone ps values)))) (present_of h [] ps)

same_is : (a b : Value) → same_value a b ≡ true → b ≡ a
same_is None None e = refl
same_is None (Some b) e = absurd (let bad = e in cc)
same_is (Some a) None e = absurd (let bad = e in cc)
same_is (Some a) (Some b) e = ap (λ (c : List ℕ). Some c) (sym ((bytes_eq-Decides a b).0 e))

is_same : (a b : Value) → b ≡ a → same_value a b ≡ true
is_same None b e = rw e refl
is_same (Some a) b e = rw e ((bytes_eq-Decides a a).1 refl)

unchanged_by : (h : History) (ps : List Part) → first_changed ps (map (now_of h) ps) ≡ None → AreUnchanged h ps
unchanged_by h [] e = tt
unchanged_by h (p ∷ ps) e = at (same_value p.after (value h p.oid)) refl e (unchanged_by h ps)
  where
    at : (b : Bool) → same_value p.after (value h p.oid) ≡ b → cond b (first_changed ps (map (now_of h) ps)) (Some p.oid) ≡ None → (first_changed ps (map (now_of h) ps) ≡ None → AreUnchanged h ps) → AreUnchanged h (p ∷ ps)
    at true is e' deeper = (same_is p.after (value h p.oid) is, deeper e')
    at false is e' deeper = absurd (let bad = e' in cc)

-- where something was planned, nothing has changed
pub unchanged_is : (h : History) (ps : List Part) (entries : List Entry) → run (in_history h) (planned (undone ps (map (now_of h) ps))) ≡ Ok entries → AreUnchanged h ps
unchanged_is h ps entries e = at (first_changed ps (map (now_of h) ps)) refl e
  where
    at : (c : Option ℕ) → first_changed ps (map (now_of h) ps) ≡ c → run (in_history h) (planned (by_changed ps c)) ≡ Ok entries → AreUnchanged h ps
    at None is e' = unchanged_by h ps is
    at (Some o) is e' = absurd (let bad = e' in cc)

-- ---- what has changed

changed_by : (h : History) (ps : List Part) (o : ℕ) → first_changed ps (map (now_of h) ps) ≡ Some o → (has_part o ps ≡ true) × (AreUnchanged h ps → ⊥)
changed_by h [] o e = absurd (let bad = e in cc)
changed_by h (p ∷ ps) o e = at (same_value p.after (value h p.oid)) refl e (changed_by h ps o)
  where
    or_true : (b : Bool) → (b || true) ≡ true
    or_true true = refl
    or_true false = refl

    at : (b : Bool) → same_value p.after (value h p.oid) ≡ b → cond b (first_changed ps (map (now_of h) ps)) (Some p.oid) ≡ Some o → (first_changed ps (map (now_of h) ps) ≡ Some o → (has_part o ps ≡ true) × (AreUnchanged h ps → ⊥)) → (has_part o (p ∷ ps) ≡ true) × (AreUnchanged h (p ∷ ps) → ⊥)
    at true is e' deeper = (let rest = deeper e' in (ap (λ b. (p.oid == o) || b) rest.0 ∙ or_true (p.oid == o), λ all. rest.1 all.1))
    at false is e' deeper =
        let own : p.oid ≡ o = cc in
        (ap (λ b. b || has_part o ps) (eq-eqb p.oid o own), λ all. (let bad : true ≡ false = sym (is_same p.after (value h p.oid) all.0) ∙ is in cc))

pub changed_is : (h : History) (ps : List Part) (o : ℕ) → run (in_history h) (planned (undone ps (map (now_of h) ps))) ≡ Err (Cause (Changed o)) → (has_part o ps ≡ true) × (AreUnchanged h ps → ⊥)
changed_is h ps o e = at (first_changed ps (map (now_of h) ps)) refl e
  where
    at : (c : Option ℕ) → first_changed ps (map (now_of h) ps) ≡ c → run (in_history h) (planned (by_changed ps c)) ≡ Err (Cause (Changed o)) → (has_part o ps ≡ true) × (AreUnchanged h ps → ⊥)
    at None is e' = absurd (let bad = e' in cc)
    at (Some n) is e' = (let same : n ≡ o = cc in changed_by h ps o (is ∙ ap Some same))
