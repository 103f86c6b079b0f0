-- Rows that write the object alone.
use Rattle.std.proofs.Common.{◌≡◌, ℕ, Bool, true, false, List, [], ◌∷◌, Option, Some, None, Result, Ok, Err, refl, sym, subst, lit<, if◌then◌else◌}
use Rattle.std.specs.List.{find, AllByRecursion}
use Rattle.zbase.specs.Query.{Done, ◌>>=◌, run, Answers}
use Rattle.zobject.specs.declared.object.Object.{Object}
use Rattle.zobject.specs.declared.version.Kind.{Kind}
use Rattle.zobject.specs.Rules.{IsObject, kind_of}
use Rattle.zknown.specs.Seen.{Seen}
use Rattle.evaluator.specs.Questions.{as_ask}
use Rattle.evaluator.specs.declared.draft.Name.{Name}
use Rattle.form_fields.specs.declared.field.Field.{Field}
use Rattle.manage.specs.declared.call.Call.{Call}
use Rattle.manage.specs.declared.changes.Change.{Change}
use Rattle.manage.specs.declared.refusal.ManageRefusal.{ManageRefusal}
use Rattle.manage.specs.Becoming.{situation}
use Rattle.manage.specs.Calling.{told}
use Rattle.manage.specs.Changing.{WritesItself, IsItself, became, change_by, itself, itself_by, itself_written, settled, written}
use Rattle.manage.specs.Fields.{Checked, Gives}
use Rattle.manage.specs.Fields as tests
use Rattle.manage.specs.Laws.{IsRightRow, Rightly}
use Rattle.manage.specs.Table.{Adds, Itself, Renames, Row, Writes, row_of, table}
use Rattle.manage.specs.Written.{change_of, whole}
use Rattle.manage.proofs.Rows.{judged_so}
use Rattle.manage.proofs.Steps.{decided}

-- ---- the row of a call on a kind

found_itself : (k : Kind) (rows : List Row) → AllByRecursion (λ (r : Row). IsItself r.writes) rows → (r : Row) → find (λ (r : Row). r.kinds k) rows ≡ Some r → IsItself r.writes
found_itself k [] all r e = absurd (let bad = e in cc)
found_itself k (x ∷ xs) all r e = at (x.kinds k) e (found_itself k xs all.1 r)
  where
    at : (is : Bool) → (if is then Some x else find (λ (r : Row). r.kinds k) xs) ≡ Some r → (find (λ (r : Row). r.kinds k) xs ≡ Some r → IsItself r.writes) → IsItself r.writes
    at true e' deeper = (let same : x ≡ r = cc in subst (λ (r : Row). IsItself r.writes) same all.0)
    at false e' deeper = deeper e'

-- the row of a call of which each row writes the object alone
row_itself : (c : Call) (k : Kind) → WritesItself c → (r : Row) → row_of c k ≡ Some r → IsItself r.writes
row_itself c k all r e = found_itself k (table c) all r e

-- ---- what it becomes keeps the rules

by_writes : (row : Row) (w : Writes) (c : Call) (object : Object) (form : List Field) (new : Object) → row.writes ≡ w → IsRightRow row → IsObject object → row.kinds (kind_of object.part) ≡ true → itself_by w row c object form ≡ Ok new → IsObject new
by_writes row (Itself f) c object form new is right lawful named e =
    let p = judged_so row (situation object form) (f (situation object form)) new e in
    subst IsObject p.1 (subst (λ w. Rightly w 0 (situation object form)) is (right (situation object form) 0 lawful named (lit< tt) p.0))
by_writes row (Adds id title part) c object form new is right lawful named e = absurd (let bad = e in cc)
by_writes row Renames c object form new is right lawful named e = absurd (let bad = e in cc)

by_rows : (rows : List Row) (c : Call) (object : Object) (form : List Field) (new : Object) → AllByRecursion IsRightRow rows → IsObject object → itself (find (λ (r : Row). r.kinds (kind_of object.part)) rows) c object form ≡ Ok new → IsObject new
by_rows [] c object form new right lawful e = absurd (let bad = e in cc)
by_rows (r ∷ rs) c object form new right lawful e = at (r.kinds (kind_of object.part)) refl e (by_rows rs c object form new right.1 lawful)
  where
    at : (is : Bool) → r.kinds (kind_of object.part) ≡ is → itself (if is then Some r else find (λ (r : Row). r.kinds (kind_of object.part)) rs) c object form ≡ Ok new
        → (itself (find (λ (r : Row). r.kinds (kind_of object.part)) rs) c object form ≡ Ok new → IsObject new) → IsObject new
    at true named e' deeper = by_writes r r.writes c object form new refl right.0 lawful named e'
    at false named e' deeper = deeper e'

pub becomes_right : ((c : Call) → AllByRecursion IsRightRow (table c)) → (c : Call) (object : Object) (form : List Field) (new : Object) → IsObject object → itself (row_of c (kind_of object.part)) c object form ≡ Ok new → IsObject new
becomes_right right c object form new lawful e = by_rows (table c) c object form new (right c) lawful e

-- ---- as a question

went : (known : ℕ → Option (Seen Object)) (o : ℕ) (r : Checked Object) →
    run known ((settled r >>= λ object. Done (whole (Name.Old o) object ∷ [])) >>= λ ws. Done (change_of ws)) ≡ run known (settled (tests.◌>>=◌ r (λ new. Ok (change_of (whole (Name.Old o) new ∷ [])))))
went known o (Ok x) = refl
went known o (Err refusal) = refl

by_itself : (known : ℕ → Option (Seen Object)) (w : Writes) (row : Row) (c : Call) (o : ℕ) (object : Object) (form : List Field) → IsItself w →
    run known (written w row o object form >>= λ ws. Done (change_of ws)) ≡ run known (settled (tests.◌>>=◌ (itself_by w row c object form) (λ new. Ok (change_of (whole (Name.Old o) new ∷ [])))))
unfolding written
by_itself known (Itself f) row c o object form is = went known o (became row f object form)
by_itself known (Adds id title part) row c o object form is = absurd is
by_itself known Renames row c o object form is = absurd is

asks : (known : ℕ → Option (Seen Object)) (found : Option Row) (c : Call) (o : ℕ) (object : Object) (form : List Field) → ((r : Row) → found ≡ Some r → IsItself r.writes) →
    run known (change_by found c o object form) ≡ run known (settled (itself_written found c o object form))
asks known None c o object form is = refl
asks known (Some row) c o object form is = by_itself known row.writes row c o object form (is row refl)

pub answers_itself : (known : ℕ → Option (Seen Object)) (c : Call) (o : ℕ) (object : Object) (form : List Field) (result : Result Change ManageRefusal) → WritesItself c → Gives (λ x. x) result (itself_written (row_of c (kind_of object.part)) c o object form)
    → Answers told (λ x. x) result (as_ask (run known (change_by (row_of c (kind_of object.part)) c o object form)))
answers_itself known c o object form result alone g =
    subst (λ r. Answers told (λ x. x) result (as_ask r)) (sym (asks known (row_of c (kind_of object.part)) c o object form (row_itself c (kind_of object.part) alone)))
    (decided known result (itself_written (row_of c (kind_of object.part)) c o object form) g)
