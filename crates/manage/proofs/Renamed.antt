-- The row that renames a child.
use Rattle.std.proofs.Common.{◌≡◌, ℕ, ◌<◌, ◌^◌, List, Option, Some, Result, Ok, Err, refl, ap}
use Rattle.std.specs.List.{AllByRecursion}
use Rattle.zbase.specs.Query.{Done, ◌>>=◌, run, Answers, Told}
use Rattle.zobject.specs.declared.object.Object.{Object}
use Rattle.zobject.specs.declared.object.Part2.{Part2}
use Rattle.zobject.specs.declared.object.Part2.TheVariants as parts
use Rattle.zobject.specs.declared.version.Kind.TheVariants as kind
use Rattle.zobject.specs.Folders.{child_of}
use Rattle.zobject.specs.Rules.{IsObject, kind_of}
use Rattle.zobject.specs.Shapes as shapes
use Rattle.zknown.specs.Seen.{Seen}
use Rattle.evaluator.specs.Questions.{as_ask}
use Rattle.form_fields.specs.declared.field.Field.{Field}
use Rattle.manage.specs.declared.call.Call.{Call}
use Rattle.manage.specs.declared.call.Call.TheVariants as call
use Rattle.manage.specs.declared.changes.Change.{Change}
use Rattle.manage.specs.declared.refusal.FieldName.TheVariants as field
use Rattle.manage.specs.declared.refusal.ManageRefusal.{ManageRefusal}
use Rattle.manage.specs.Becoming.{children, children_in, situation, text}
use Rattle.manage.specs.Calling.{told}
use Rattle.manage.specs.Changing.{change_by, child_renamed, judged, renamed_child, settled, written}
use Rattle.manage.specs.Fields.{Fails, Test}
use Rattle.manage.specs.Laws.{IsRightRow, Rightly}
use Rattle.manage.specs.Table.{Renames, is_folder, rename_object, table}
use Rattle.manage.specs.Written.{change_of}
use Rattle.manage.proofs.Steps.{passes, settled_fails}

-- the child of a folder is looked for in its shape
pub child_is : (name : List ℕ) (part : Part2) → shapes.child_in name (shapes.form_of part) ≡ child_of name (children_in part)
child_is name (parts.Folder cs) = refl
child_is name (parts.Method source proxy) = refl
child_is name (parts.Document source proxy) = refl
child_is name (parts.UserFolder users) = refl

-- what is written keeps the rules
pub renames_right : ((c : Call) → AllByRecursion IsRightRow (table c)) → (o : ℕ) (folder : Object) (form : List Field) → IsObject folder → kind_of folder.part ≡ kind.Folder → o < 2 ^ 64
    → ◌≡◌ {A = Test} (judged rename_object (situation folder form) (Ok tt)) (Ok tt) → Rightly Renames o (situation folder form)
renames_right right o folder form lawful is few e = (right call.RenameObject).0 (situation folder form) o lawful (ap is_folder is) few e

module _ (k : ℕ → Option (Seen Object)) (o : ℕ) (folder : Object) (form : List Field) where
  -- where the names are right, the child is looked for
  pub answers_renaming : (result : Result Change ManageRefusal) → ◌≡◌ {A = Test} (judged rename_object (situation folder form) (Ok tt)) (Ok tt)
      → Answers told (λ x. x) result (as_ask (run k (child_renamed o (situation folder form) (child_of (text field.Id (situation folder form)) (children (situation folder form))))))
      → Answers told (λ x. x) result (as_ask (run k (change_by (Some rename_object) call.RenameObject o folder form)))
  unfolding written
  answers_renaming result e a = at (judged rename_object (situation folder form) (Ok tt)) e
    where
      at : (r : Test) → r ≡ Ok tt → Answers told (λ x. x) result (as_ask (run k ((settled r >>= λ passed. renamed_child o (situation folder form) (child_of (text field.Id (situation folder form)) (children (situation folder form)))) >>= λ ws. Done (change_of ws))))
      at (Ok x) e' = a
      at (Err refusal) e' = absurd (let bad = e' in cc)

  pub passes_renaming : (e : ManageRefusal) → Fails e (judged rename_object (situation folder form) (Ok (tt {0}))) → Told (told e) (as_ask (run k (change_by (Some rename_object) call.RenameObject o folder form)))
  unfolding written
  passes_renaming e f =
      passes k (settled (judged rename_object (situation folder form) (Ok (tt {0}))) >>= λ passed. renamed_child o (situation folder form) (child_of (text field.Id (situation folder form)) (children (situation folder form)))) (λ ws. Done (change_of ws)) (told e)
      (passes k (settled (judged rename_object (situation folder form) (Ok (tt {0})))) _ (told e) (settled_fails k (judged rename_object (situation folder form) (Ok (tt {0}))) e f))
