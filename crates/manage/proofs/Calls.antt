-- The table of calls: each name is one call's.
use Rattle.std.proofs.Common.{◌≡◌, ℕ, ◌||◌, Bool, true, false, List, [], ◌∷◌, map, Some, refl, sym}
use Rattle.std.specs.List.{find, list_any}
use Rattle.std.specs.Str.{bytes_eq}
use Rattle.std.proofs.lemmas.Slice.Eq.{bytes_eq-Decides}
use Rattle.manage.specs.declared.call.Call.{Call}
use Rattle.manage.specs.declared.call.Call.TheVariants as call
use Rattle.manage.specs.Calls.{name_of, all_calls, call_named}

pub its_own : (c : Call) → call_named (name_of c) ≡ Some c
its_own call.AddFolder = refl
its_own call.AddMethod = refl
its_own call.AddDocument = refl
its_own call.AddUserFolder = refl
its_own call.Edit = refl
its_own call.DeleteObjects = refl
its_own call.RenameObject = refl
its_own call.SetPermission = refl
its_own call.SetLocalRoles = refl
its_own call.DeleteLocalRoles = refl
its_own call.AddProperty = refl
its_own call.DeleteProperties = refl
its_own call.SetProxyRoles = refl
its_own call.AddUser = refl
its_own call.UndoTransactions = refl
its_own call.ListTransactions = refl

-- one of these calls has that name, and is found by it
abbrev Found : List Call → List ℕ → Type 0
Found cs name = (c : Call) × (find (λ c. bytes_eq (name_of c) name) cs ≡ Some c) × (name ≡ name_of c)

found_at : (t : Bool) (c : Call) (cs : List Call) (name : List ℕ) → bytes_eq (name_of c) name ≡ t → (t || list_any (λ n. bytes_eq n name) (map name_of cs)) ≡ true
    → (list_any (λ n. bytes_eq n name) (map name_of cs) ≡ true → Found cs name) → Found (c ∷ cs) name
found_at true c cs name is e others = (c, rw is refl, sym ((bytes_eq-Decides (name_of c) name).0 is))
found_at false c cs name is e others = let f = others e in (f.0, rw is f.1, f.2)

found : (cs : List Call) (name : List ℕ) → list_any (λ n. bytes_eq n name) (map name_of cs) ≡ true → Found cs name
found [] name e = absurd (let bad = e in cc)
found (c ∷ cs) name e = found_at (bytes_eq (name_of c) name) c cs name refl e (found cs name)

pub is_named : (name : List ℕ) → list_any (λ n. bytes_eq n name) (map name_of all_calls) ≡ true → (c : Call) × (call_named name ≡ Some c) × (name ≡ name_of c)
is_named name e = found all_calls name e
