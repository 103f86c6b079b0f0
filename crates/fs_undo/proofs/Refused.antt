-- What is refused has changed.
use Rattle.std.proofs.Common.{ℕ, ◌≡◌, ◌∙◌, refl, sym, ap, subst, List, true, Some, None, Err}
use Rattle.zbase.specs.History.{History}
use Rattle.zbase.specs.Query.{Cause, run}
use Rattle.evaluator.specs.declared.ask.Ask.{Ask}
use Rattle.evaluator.specs.declared.fact.Fact.{Fact}
use Rattle.evaluator.specs.declared.fact.Part.{Part}
use Rattle.evaluator.specs.Facts.{fact}
use Rattle.fs_undo.specs.Undo.{Changed, parts_told, undo, undo_parts}
use Rattle.fs_undo.specs.Undone.{AreUnchanged, ChangedIsRefused, HasChanged, has_part, in_history}
use Rattle.fs_undo.proofs.Back.{told_parts}
use Rattle.fs_undo.proofs.PresentValues.{changed_is, planned_run}

parts_changed : (h : History) (t o : ℕ) (f : Fact) → fact h (Ask.Transaction t) ≡ f → run (in_history h) (undo_parts t (parts_told f)) ≡ Err (Cause (Changed o)) → HasChanged h t o
unfolding undo_parts
parts_changed h t o (Fact.Object p v s) is e = absurd (let bad = e in cc)
parts_changed h t o (Fact.Transaction u None) is e = absurd (let bad = e in cc)
parts_changed h t o (Fact.Log rows) is e = absurd (let bad = e in cc)
parts_changed h t o (Fact.Transaction u (Some ps)) is e =
    let own : u ≡ t = cc in
    let told = told_parts h t ps (is ∙ ap (λ n. Fact.Transaction n (Some ps)) own) in
    let has = changed_is h ps o (sym (planned_run h t ps) ∙ e) in
    record {
      x = told.0;
      is = told.1;
      has = subst (λ (qs : List Part). has_part o qs ≡ true) told.3 has.0;
      changed = subst (λ (qs : List Part). AreUnchanged h qs → ⊥) told.3 has.1;
    }

pub changed_is_refused : ChangedIsRefused
unfolding undo
changed_is_refused h t o e = parts_changed h t o (fact h (Ask.Transaction t)) refl e
