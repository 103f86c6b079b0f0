-- Lists with one item more, or with the last one taken away.
use Rattle.std.proofs.Common.{ℕ, ◌≡◌, subst, List, [], ◌∷◌, ◌++◌}
use Rattle.std.specs.List.{AllByRecursion}
use Rattle.catalog.specs.declared.document.Entry.{Entry}
use Rattle.catalog.specs.declared.document.Index.{Index}
use Rattle.catalog.specs.Agreeing.{AreIndexes}
use Rattle.catalog.specs.Forms.{AreEntries, ArePostings, AreValues, IsEntry}

pub indexes_more : (xs : List Index) (x : Index) → AreIndexes xs → ArePostings x.postings → AreIndexes (xs ++ x ∷ [])
indexes_more [] x all one = (one, tt)
indexes_more (y ∷ ys) x all one = (all.0, indexes_more ys x all.1 one)

last_entry : (n : ℕ) (front : List Entry) (e : Entry) → AllByRecursion (IsEntry n) (front ++ e ∷ []) → IsEntry n e
last_entry n [] e all = all.0
last_entry n (x ∷ xs) e all = last_entry n xs e all.1

pub last_values : (n : ℕ) (entries front : List Entry) (e : Entry) → AreEntries n entries → entries ≡ front ++ e ∷ [] → AllByRecursion AreValues e.values
last_values n entries front e are is = (last_entry n front e (subst (λ (xs : List Entry). AllByRecursion (IsEntry n) xs) is are.each)).values
