-- A disk that a steady store leaves is printed whole: it holds a file of the store's history, and can't fail.
use Rattle.std.proofs.Common.{◌≡◌, ℕ, ◌+◌, ◌≤◌, min, true, List, [], length, Option, Some, None, IfSome, IsSome, refl, sym, ap, subst, ◌∙◌, append-nil, arith}
use Rattle.zbase.specs.Faults.{Counter, Counts, IsFaultless}
use Rattle.zbase.specs.Limits.{greatest_number}
use Rattle.zbase.specs.History.{History}
use Rattle.zdisk.specs.Crashes.{IsSynced}
use Rattle.zdisk.specs.Disk.{Told, content}
use Rattle.fs_record.specs.declared.damage.Damage.{Damage as Kind}
use Rattle.fs_record.specs.File.{Front, IsFile}
use Rattle.fs_record.specs.Opening.{Cut, Damaged, is_end}
use Rattle.fs_record.specs.OpeningLaws.{not_both, one_cut}
use Rattle.fs_store.specs.Moments.{IsWhole}
use Rattle.fs_store.specs.Stores.{IsTold, StoreView}
use Rattle.replay.specs.Dumped.{Dumps, dump_lines}
use Rattle.replay.specs.Printed.{Prints}

-- a disk that tells tells something
told_none : (disk : Option Told) → disk ≡ None → IsSome disk → ⊥
told_none disk e is = cc

end_of_none : is_end [] ≡ true
unfolding is_end
end_of_none = refl

-- a file is cut at its end
pub file_cut : (bytes : List ℕ) (front : Front) → IsFile bytes front → Cut bytes front (length bytes)
file_cut bytes front file = ([], record { file = bytes; is_file = file; joined = sym (append-nil bytes); at = refl }, end_of_none)

pub prints_its_history : (disk : Option Told) (store : StoreView) (old new : Option (List ℕ)) → disk ≡ store.disk.told → IsTold store → IfSome disk (λ told. IsSynced told × IsWhole store (content told)) → IfSome disk (λ told. Dumps (content told) old new) → Prints old new (dump_lines store.history)
prints_its_history None store old new same told whole dumps = absurd (told_none store.disk.told (sym same) told)
prints_its_history (Some t) store old new same told whole dumps =
    let bytes = content t in
    let file = whole.1 in
    let front : dumps.front ≡ file.front = (one_cut bytes dumps.front file.front dumps.end (length bytes) dumps.opens (file_cut bytes file.front file.file)).0 in
    subst (λ (h : History). Prints old new (dump_lines h)) (ap (λ (f : Front). f.history) front ∙ file.is) dumps.printed

pub no_damage : (disk : Option Told) (store : StoreView) (kind : Kind) (place : ℕ) (X : Type 0) → disk ≡ store.disk.told → IsTold store → IfSome disk (λ told. IsSynced told × IsWhole store (content told)) → IfSome disk (λ told. Damaged (content told) place kind × X) → ⊥
no_damage None store kind place X same told whole damaged = told_none store.disk.told (sym same) told
no_damage (Some t) store kind place X same told whole damaged =
    let bytes = content t in
    let file = whole.1 in
    not_both bytes file.front (length bytes) place kind (file_cut bytes file.front file.file) damaged.0

-- what can't fail tells no fault
pub no_fault : (old new : Counter) (F : Type 0) → IsFaultless old → Counts old new F → F → ⊥
no_fault old new F calm counts fault =
    let rose : min (old.count + 1) greatest_number ≤ new.count = counts.cause fault in
    omega (arith, rose, calm.below, (counts.calm calm).1)
