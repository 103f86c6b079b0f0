-- Why a restore was refused, from what its parts were refused for.
use Rattle.std.proofs.Common.{◌≡◌, ◌∙◌, ℕ, List, length, map, Option, None, Some, Result, Ok, Err, IfSome, refl, sym, ap, subst}
use Rattle.std.proofs.lemmas.List.{length-map}
use Rattle.std.specs.Prelude.{IfErr, IsErrOf}
use Rattle.zdisk.specs.Disk.{Told}
use Rattle.zio.specs.Shelves.{Entry, file_at}
use Rattle.repozo.specs.declared.index.PieceRow.{PieceRow}
use Rattle.backups.specs.declared.indexes.Unread.{Unread}
use Rattle.backups.specs.declared.indexes.Unread.TheVariants as unread
use Rattle.backups.specs.declared.refusal.RestoreRefusal.{RestoreRefusal}
use Rattle.backups.specs.declared.refusal.RestoreRefusal.TheVariants as restore
use Rattle.backups.specs.Names.{index_name}
use Rattle.backups.specs.Refusals.{of_unread}
use Rattle.backups.specs.Restored.{IsOfJoining, RestoreCause}
use Rattle.backups.specs.Standing.{HasBadIndex, HasIndex, IsMissing, Stands, first_wrong}

pub same_length : {S : Type 0} (told : S → Option Told) (new old : List S) → map told new ≡ map told old → length new ≡ length old
same_length told new old same = sym (length-map new told) ∙ ap length same ∙ length-map old told

pub unread_cause : (repo out name : List ℕ) (files : Option (List Entry)) (failed : Type 0) (u : Unread) → name ≡ index_name repo → (u ≡ unread.Missing → IsMissing files name) → ((n : ℕ) → u ≡ unread.Bad n → IfSome files (λ all. HasBadIndex all name n)) → (u ≡ unread.Failed → failed)
    → RestoreCause repo out files failed (of_unread u)
unread_cause repo out name files failed unread.Missing named missing bad fault = subst (IsMissing files) named (missing refl)
unread_cause repo out name files failed (unread.Bad n) named missing bad fault = subst (λ (m : List ℕ). IfSome files (λ all. HasBadIndex all m n)) named (bad n refl)
unread_cause repo out name files failed unread.Failed named missing bad fault = fault refl
unread_cause repo out name files failed unread.Memory named missing bad fault = tt

with_rows : (files mid : Option (List Entry)) (repo name : List ℕ) (rows : List PieceRow) (P : List Entry → Type 0) → mid ≡ files → name ≡ index_name repo → IfSome files (λ all. HasIndex all name rows) → IfSome mid P → IfSome files (λ all. Stands all repo rows × P all)
with_rows None mid repo name rows P same named has is = tt
with_rows (Some all) mid repo name rows P same named has is = (subst (λ (m : List ℕ). HasIndex all m rows) named has, subst (λ (f : Option (List Entry)). IfSome f P) same is)

row_of_bad : (files : Option (List Entry)) (repo : List ℕ) (rows : List PieceRow) (P : List Entry → List PieceRow → Type 0) → IfSome files (λ all. Stands all repo rows × P all rows) → IfSome files (λ all. (rs : List PieceRow) × Stands all repo rs × P all rs)
row_of_bad None repo rows P is = tt
row_of_bad (Some all) repo rows P is = (rows, is.0, is.1)

exists_of : (files : Option (List Entry)) (repo out : List ℕ) (rows : List PieceRow) → IfSome files (λ all. Stands all repo rows × ((first_wrong all rows ≡ None) × (file_at all out ≡ None → ⊥)))
    → IfSome files (λ all. (rs : List PieceRow) × Stands all repo rs × (first_wrong all rs ≡ None) × (file_at all out ≡ None → ⊥))
exists_of None repo out rows is = tt
exists_of (Some all) repo out rows is = (rows, is.0, is.1.0, is.1.1)

pub rows_cause : (r : Result ℕ RestoreRefusal) (files mid : Option (List Entry)) (repo out name : List ℕ) (rows : List PieceRow) (failed : Type 0) → mid ≡ files → name ≡ index_name repo → IfSome files (λ all. HasIndex all name rows)
    → ((n : List ℕ) → IsErrOf r (restore.BadPiece n) → IfSome mid (λ all. first_wrong all rows ≡ Some n)) → (IsErrOf r restore.Exists → IfSome mid (λ all. (first_wrong all rows ≡ None) × (file_at all out ≡ None → ⊥)))
    → IfErr r IsOfJoining → (IsErrOf r restore.Disk → failed) → IfErr r (RestoreCause repo out files failed)
rows_cause (Ok size) files mid repo out name rows failed same named has bad there others fault = tt
rows_cause (Err (restore.BadPiece n)) files mid repo out name rows failed same named has bad there others fault =
    row_of_bad files repo rows (λ all rs. first_wrong all rs ≡ Some n) (with_rows files mid repo name rows (λ all. first_wrong all rows ≡ Some n) same named has (bad n refl))
rows_cause (Err restore.Exists) files mid repo out name rows failed same named has bad there others fault =
    exists_of files repo out rows (with_rows files mid repo name rows (λ all. (first_wrong all rows ≡ None) × (file_at all out ≡ None → ⊥)) same named has (there refl))
rows_cause (Err restore.Disk) files mid repo out name rows failed same named has bad there others fault = fault refl
rows_cause (Err restore.Memory) files mid repo out name rows failed same named has bad there others fault = tt
rows_cause (Err restore.Missing) files mid repo out name rows failed same named has bad there others fault = absurd others
rows_cause (Err (restore.BadIndex n)) files mid repo out name rows failed same named has bad there others fault = absurd others
