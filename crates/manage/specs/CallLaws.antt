-- Each call needs one of the permissions.
use Rattle.std.proofs.Common.{◌≡◌, ◌&&◌, ℕ, Bool, true, false, List, [], ◌∷◌, Option, Some, None, lit<, lit≤, subst, if◌then◌else◌}
use Rattle.std.specs.List.{find, AllByRecursion}
use Rattle.evaluator.specs.Change.{IsPermission}
use Rattle.zobject.specs.declared.version.Kind.{Kind}
use Rattle.zobject.specs.declared.version.Kind.TheVariants as kind
use Rattle.manage.specs.declared.call.Call.{Call}
use Rattle.manage.specs.declared.call.Call.TheVariants as call
use Rattle.manage.specs.Calls.{is_at, is_by}
use Rattle.manage.specs.Laws.{AreNumbered}
use Rattle.manage.specs.Table.{Row, its_permission, permission_of, table}

-- a permission, if any
abbrev Needs : Option ℕ → Type 0
Needs None = Unit {0}
Needs (Some n) = IsPermission n

abbrev Numbered : List Row → Type 0
Numbered rows = AllByRecursion (λ (r : Row). IsPermission r.permission) rows

found_needs : (k : Kind) (rows : List Row) → Numbered rows → Needs (its_permission (find (λ (r : Row). r.kinds k) rows))
found_needs k [] all = tt
found_needs k (r ∷ rows) all = at (r.kinds k) (found_needs k rows all.1)
  where
    at : (is : Bool) → Needs (its_permission (find (λ (r : Row). r.kinds k) rows)) → Needs (its_permission (if is then Some r else find (λ (r : Row). r.kinds k) rows))
    at true rest = all.0
    at false rest = rest

undo_needs : (k : Kind) → Needs (permission_of call.UndoTransactions k)
undo_needs kind.Folder = (lit< tt, lit≤ tt)
undo_needs kind.Method = tt
undo_needs kind.Document = tt
undo_needs kind.UserFolder = tt

rows : (c : Call) (k : Kind) → Needs (permission_of c k)
rows call.AddFolder k = found_needs k (table call.AddFolder) ((lit< tt, lit≤ tt), tt)
rows call.AddMethod k = found_needs k (table call.AddMethod) ((lit< tt, lit≤ tt), tt)
rows call.AddDocument k = found_needs k (table call.AddDocument) ((lit< tt, lit≤ tt), tt)
rows call.AddUserFolder k = found_needs k (table call.AddUserFolder) ((lit< tt, lit≤ tt), tt)
rows call.Edit k = found_needs k (table call.Edit) ((lit< tt, lit≤ tt), ((lit< tt, lit≤ tt), ((lit< tt, lit≤ tt), tt)))
rows call.DeleteObjects k = found_needs k (table call.DeleteObjects) ((lit< tt, lit≤ tt), tt)
rows call.RenameObject k = found_needs k (table call.RenameObject) ((lit< tt, lit≤ tt), tt)
rows call.SetPermission k = found_needs k (table call.SetPermission) ((lit< tt, lit≤ tt), tt)
rows call.SetLocalRoles k = found_needs k (table call.SetLocalRoles) ((lit< tt, lit≤ tt), tt)
rows call.DeleteLocalRoles k = found_needs k (table call.DeleteLocalRoles) ((lit< tt, lit≤ tt), tt)
rows call.AddProperty k = found_needs k (table call.AddProperty) ((lit< tt, lit≤ tt), tt)
rows call.DeleteProperties k = found_needs k (table call.DeleteProperties) ((lit< tt, lit≤ tt), tt)
rows call.SetProxyRoles k = found_needs k (table call.SetProxyRoles) ((lit< tt, lit≤ tt), tt)
rows call.AddUser k = found_needs k (table call.AddUser) ((lit< tt, lit≤ tt), tt)
rows call.UndoTransactions k = undo_needs k
rows call.ListTransactions k = undo_needs k

number_if : (b : Bool) (found : Option ℕ) (n : ℕ) → Needs found → (if b then found else None) ≡ Some n → IsPermission n
number_if true (Some m) n is e = subst Needs e is
number_if true None n is e = absurd (let bad = e in cc)
number_if false found n is e = absurd (let bad = e in cc)

pub numbered : AreNumbered
numbered c verb o k n e = number_if (is_by c verb && is_at c o) (permission_of c k) n (rows c k) e
