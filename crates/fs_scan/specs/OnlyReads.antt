-- What a call leaves that only reads.
use Rattle.std.specs.Prelude.{◌≡◌, refl}
use Rattle.std.proofs.Common.{◌∙◌}
use Rattle.zbase.specs.Faults.{Counts, counts_as, counts_none, counts_then}
use Rattle.zdisk.specs.declared.disk.Disk.{Ghosts}

-- Of a disk nothing is changed but its counts: neither what it tells, nor for what it has room. The call tells this fault.
pub record OnlyReads {S : Type 0} (D : Ghosts S) (old new : S) (fault : Type 0) : Type 0 where
  pub same : D.told new ≡ D.told old
  pub spare : (D.spare_calls new ≡ D.spare_calls old) × (D.spare_bytes new ≡ D.spare_bytes old)
  pub counts : Counts (D.counter old) (D.counter new) fault

-- ---- laws

-- where nothing was called
pub reads_none : {S : Type 0} (D : Ghosts S) (s : S) → OnlyReads D s s ⊥
reads_none D s = record { same = refl; spare = (refl, refl); counts = counts_none (D.counter s) ⊥ (λ none. none) }

-- the same fault, told in other words
pub reads_as : {S : Type 0} {D : Ghosts S} {a b : S} {F G : Type 0} → OnlyReads D a b F → (F → G) → (G → F) → OnlyReads D a b G
reads_as h to from = record { same = h.same; spare = h.spare; counts = counts_as h.counts to from }

-- a call that told no fault, and then another
pub reads_then : {S : Type 0} {D : Ghosts S} {a b c : S} {F G : Type 0} → OnlyReads D a b F → (F → ⊥) → OnlyReads D b c G → OnlyReads D a c G
reads_then h none k = record { same = k.same ∙ h.same; spare = (k.spare.0 ∙ h.spare.0, k.spare.1 ∙ h.spare.1); counts = counts_then h.counts none k.counts }
