-- A row's tests, and what stands behind them.
use Rattle.std.proofs.Common.{◌≡◌, ◌∙◌, Bool, true, false, List, [], ◌∷◌, Some, Ok, Err, refl, subst, sym, if◌then◌else◌}
use Rattle.std.specs.List.{find, AllByRecursion}
use Rattle.zobject.specs.declared.version.Kind.{Kind}
use Rattle.manage.specs.declared.call.Call.{Call}
use Rattle.manage.specs.Becoming.{Situation}
use Rattle.manage.specs.Changing.{judged, tested}
use Rattle.manage.specs.Fields.{Checked, Test, ◌>>=◌, fields_kept}
use Rattle.manage.specs.Laws.{IsRightRow}
use Rattle.manage.specs.Table.{Row, row_of, table}

pick : {A : Type 0} → Test → A → Checked A
pick (Ok x) v = Ok v
pick (Err refusal) v = Err refusal

tested_is : {A : Type 0} (tests : List (Situation → Test)) (s : Situation) (v : A) → tested tests s (Ok v) ≡ pick (tested tests s (Ok (tt {0}))) v
unfolding pick
tested_is [] s v = refl
tested_is (test ∷ tests) s v = at (test s) (tested_is tests s v)
  where
    at : (r : Test) → tested tests s (Ok v) ≡ pick (tested tests s (Ok (tt {0}))) v → (r >>= λ passed. tested tests s (Ok v)) ≡ pick (r >>= λ passed. tested tests s (Ok (tt {0}))) v
    at (Ok x) more = more
    at (Err refusal) more = refl

-- a value behind a row's tests is given where they pass
judged_is : {A : Type 0} (row : Row) (s : Situation) (v : A) → judged row s (Ok v) ≡ pick (judged row s (Ok (tt {0}))) v
unfolding judged pick
judged_is row s v = at (fields_kept (row.fields s.form) s.form)
  where
    at : (r : Test) → (r >>= λ kept. tested row.further s (Ok v)) ≡ pick (r >>= λ kept. tested row.further s (Ok (tt {0}))) v
    at (Ok x) = tested_is row.further s v
    at (Err refusal) = refl

picked : {A : Type 0} (r : Test) (v x : A) → pick r v ≡ Ok x → (r ≡ Ok tt) × (v ≡ x)
unfolding pick
picked {A = A} (Ok u) v x e = (refl, (let same : ◌≡◌ {A = Checked A} (Ok v) (Ok x) = e in cc))
picked {A = A} (Err refusal) v x e = absurd (let bad = e in cc)

-- it was given, so they passed
pub judged_so : {A : Type 0} (row : Row) (s : Situation) (v x : A) → judged row s (Ok v) ≡ Ok x → (◌≡◌ {A = Test} (judged row s (Ok (tt {0}))) (Ok (tt {0}))) × (v ≡ x)
judged_so row s v x e = picked (judged row s (Ok (tt {0}))) v x (sym (judged_is row s v) ∙ e)

-- ---- the row of a call on a kind

found_right : (k : Kind) (rows : List Row) (row : Row) → AllByRecursion IsRightRow rows → find (λ (r : Row). r.kinds k) rows ≡ Some row → IsRightRow row × (row.kinds k ≡ true)
found_right k [] row all e = absurd (let bad = e in cc)
found_right k (r ∷ rs) row all e = at (r.kinds k) refl e (found_right k rs row all.1)
  where
    at : (is : Bool) → r.kinds k ≡ is → (if is then Some r else find (λ (r : Row). r.kinds k) rs) ≡ Some row → (find (λ (r : Row). r.kinds k) rs ≡ Some row → IsRightRow row × (row.kinds k ≡ true)) → IsRightRow row × (row.kinds k ≡ true)
    at true named e' deeper = (let same : r ≡ row = cc in subst (λ (r : Row). IsRightRow r × (r.kinds k ≡ true)) same (all.0, named))
    at false named e' deeper = deeper e'

-- it keeps the rules of objects, and names the kind
pub row_right : ((c : Call) → AllByRecursion IsRightRow (table c)) → (c : Call) (k : Kind) (row : Row) → row_of c k ≡ Some row → IsRightRow row × (row.kinds k ≡ true)
row_right right c k row e = found_right k (table c) row (right c) e
