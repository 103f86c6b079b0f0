-- Loops over parts, restores and present values.
use Rattle.std.proofs.Common.{◌≡◌, ◌∙◌, ◌∷◌, ◌+◌, ◌<◌, ℕ, true, false, cond, List, length, drop, get_or, Some, sym, ap, ap₂, arith}
use Rattle.std.proofs.lemmas.List.{drop_more}
use Rattle.evaluator.specs.declared.fact.Part.{Part}
use Rattle.fs_undo.specs.declared.planning.Present.{Present}
use Rattle.fs_undo.specs.Undo.{first_changed, same_value, values_of}

changed_at : (ps : List Part) (rows : List Present) (i : ℕ) (p : Part) (r : Present) → i < length ps → i < length rows → p ≡ get_or ps i p → r ≡ get_or rows i r →
    first_changed (drop i ps) (values_of (drop i rows)) ≡ cond (same_value p.after r.value) (first_changed (drop (i + 1) ps) (values_of (drop (i + 1) rows))) (Some p.oid)
changed_at ps rows i p r lt lt' is is' =
    ap₂ (λ (qs : List Part) (ss : List Present). first_changed qs (values_of ss)) (drop_more ps i p lt ∙ ap (λ (q : Part). q ∷ drop (i + 1) ps) (sym is)) (drop_more rows i r lt' ∙ ap (λ (s : Present). s ∷ drop (i + 1) rows) (sym is'))

pub changed_stops : (ps : List Part) (rows : List Present) (i : ℕ) (p : Part) (r : Present) → i < length ps → length rows ≡ length ps → p ≡ get_or ps i p → r ≡ get_or rows i r → same_value p.after r.value ≡ false →
    first_changed (drop i ps) (values_of (drop i rows)) ≡ Some p.oid
changed_stops ps rows i p r lt same is is' other = changed_at ps rows i p r lt (omega (arith, lt, same)) is is' ∙ ap (λ b. cond b (first_changed (drop (i + 1) ps) (values_of (drop (i + 1) rows))) (Some p.oid)) other

pub changed_goes : (ps : List Part) (rows : List Present) (i : ℕ) (p : Part) (r : Present) → i < length ps → length rows ≡ length ps → p ≡ get_or ps i p → r ≡ get_or rows i r → same_value p.after r.value ≡ true →
    first_changed (drop i ps) (values_of (drop i rows)) ≡ first_changed (drop (i + 1) ps) (values_of (drop (i + 1) rows))
changed_goes ps rows i p r lt same is is' own = changed_at ps rows i p r lt (omega (arith, lt, same)) is is' ∙ ap (λ b. cond b (first_changed (drop (i + 1) ps) (values_of (drop (i + 1) rows))) (Some p.oid)) own
