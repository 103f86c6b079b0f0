-- A draft that keeps the rules of a change, where ids are left for its new objects, fits.
use Rattle.std.proofs.Common.{◌≡◌, ℕ, ◌+◌, ◌<◌, ◌^◌, Bool, true, false, List, [], ◌∷◌, length, Option, arith}
use Rattle.std.specs.Prelude.{◌&&◌, nat_lt}
use Rattle.std.specs.List.{AllByRecursion}
use Rattle.std.proofs.lemmas.Bool.{ltb-false, lt-ltb}
use Rattle.zbase.specs.Limits.{greatest_number}
use Rattle.evaluator.specs.declared.ask.Ask.{Ask}
use Rattle.evaluator.specs.declared.draft.Draft.{Draft}
use Rattle.evaluator.specs.declared.draft.Entry.{Entry}
use Rattle.evaluator.specs.declared.draft.Hole.{Hole}
use Rattle.evaluator.specs.declared.draft.Name.{Name}
use Rattle.evaluator.specs.declared.fact.Fact.{Fact}
use Rattle.evaluator.specs.Change.{IsEntry, IsHole, IsKnownName, made}
use Rattle.fs_store.specs.Drafts.{FitsEntries, FitsEntry, FitsHole, FitsName}
use Rattle.fs_store.specs.Stores.{IsDraft}
use Rattle.fs_store.specs.Verdicts.{IsFree}

-- the ids of so many new objects, the first of which is this, have 64 bits
abbrev AreIds : ℕ → ℕ → Type 0
AreIds first new = (k : ℕ) → k < new → first + k < 2 ^ 64

fits_holes : (first new : ℕ) (bytes : List ℕ) (holes : List Hole) → AreIds first new → AllByRecursion (IsHole new bytes) holes → AllByRecursion (FitsHole first (length bytes)) holes
fits_holes first new bytes [] ids all = tt
fits_holes first new bytes (hole ∷ holes) ids all = ((all.0.0, ids hole.new all.0.1), fits_holes first new bytes holes ids all.1)

fits_name : (known : Ask → Option Fact) (first new : ℕ) (name : Name) → AreIds first new → IsKnownName known new name → FitsName first name
fits_name known first new (Name.Old o) ids is = tt
fits_name known first new (Name.New k) ids is = ids k is

fits_entry : (known : Ask → Option Fact) (first new : ℕ) (entry : Entry) → AreIds first new → IsEntry known new entry → FitsEntry first entry
fits_entry known first new (Entry.Write name bytes holes) ids e = (fits_name known first new name ids e.0, e.1, fits_holes first new bytes holes ids e.2)
fits_entry known first new (Entry.Restore o t) ids e = tt

fits_each : (known : Ask → Option Fact) (first new : ℕ) (entries : List Entry) → AreIds first new → AllByRecursion (IsEntry known new) entries → FitsEntries first entries
fits_each known first new [] ids all = tt
fits_each known first new (entry ∷ entries) ids all = (fits_entry known first new entry ids all.0, fits_each known first new entries ids all.1)

second_false : (a b : Bool) → (a && b) ≡ false → a ≡ true → b ≡ false
second_false true b e is = e
second_false false b e is = absurd cc

are_ids : (first new : ℕ) → (nat_lt 0 new && nat_lt greatest_number (first + new)) ≡ false → AreIds first new
are_ids first new free k lt =
    let few = ltb-false greatest_number (first + new) (second_false (nat_lt 0 new) (nat_lt greatest_number (first + new)) free (lt-ltb 0 new (omega (arith, lt)))) in
    omega (arith, few, lt)

pub fits_draft : (last_id above end limit : ℕ) (d : Draft) → IsDraft d → IsFree last_id above end limit d → FitsEntries above d.entries
fits_draft last_id above end limit d rules free = fits_each rules.0 above (made d) d.entries (are_ids above (made d) free.oids) rules.1.each
