-- What a file is refused for, from what its reading was.
use Rattle.std.proofs.Common.{◌≡◌, ℕ, ◌<◌, ◌≤◌, List, length, Option, None, Some, Result, Ok, Err, refl, sym, ap, subst, ◌∙◌, arith}
use Rattle.std.specs.Prelude.{IfErr, IfOk, IfSome, IsErrOf}
use Rattle.std.specs.Option.{option_map}
use Rattle.zdisk.specs.Disk.{Told, content, synced}
use Rattle.zio.specs.Shelves.{Entry, file_at}
use Rattle.fs_record.specs.declared.damage.Damage.{Damage}
use Rattle.fs_record.specs.Opening.{Damaged}
use Rattle.zope.specs.declared.refusal.FileRefusal.{FileRefusal}
use Rattle.zope.specs.declared.refusal.Refusal.{Refusal}
use Rattle.fs_store.specs.Stores.{most_length}
use Rattle.fs_scan.specs.declared.opening.ScanRefusal.{ScanRefusal}
use Rattle.replay.specs.declared.dumping.DumpRefusal.{DumpRefusal}
use Rattle.zope.specs.DumpCauses.{DumpCause, IsOfDump, of_dump}
use Rattle.zope.specs.CheckCauses.{IsOfScan, ScanCause, of_scan}
use Rattle.zope.specs.Given.{IfKept, most_file}
use Rattle.zope.specs.ReplayCauses.{FileCause, of_file}
use Rattle.zope.specs.Shelved.{IsLength, IsMissing, IsPresent}

-- the length of a disk is that of the file which it was opened over
pub is_length : (files : Option (List Entry)) (name : List ℕ) (told : Option Told) (n : ℕ) → IfSome files (λ all. told ≡ option_map synced (file_at all name)) → IfSome files (λ all. file_at all name ≡ None → ⊥) → IfSome told (λ t. n ≡ length (content t)) → IsLength files name n
is_length None name told n found there long = tt
is_length (Some all) name told n found there long = go (file_at all name) refl
  where
    go : (f : Option (List ℕ)) → file_at all name ≡ f → option_map length (file_at all name) ≡ Some n
    go None e = absurd (there e)
    go (Some bytes) e =
        let same : told ≡ Some (synced bytes) = found ∙ ap (option_map synced) e in
        let counted : n ≡ length bytes = subst (λ (t : Option Told). IfSome t (λ u. n ≡ length (content u))) same long in
        ap (option_map length) e ∙ ap (λ (k : ℕ). Some k) (sym counted)

pub unread : {T : Type 0} (files : Option (List Entry)) (name : List ℕ) (failed : Type 0) (r : FileRefusal)
    → (IsErrOf {T = T} (Err r) FileRefusal.Missing → IsMissing files name)
    → ((n : ℕ) → IsErrOf {T = T} (Err r) (FileRefusal.TooLarge n) → (most_file < n) × IsLength files name n)
    → (IsErrOf {T = T} (Err r) FileRefusal.Disk → failed) → (IsErrOf {T = T} (Err r) FileRefusal.Disk → IsPresent files name) → FileCause files name failed (of_file r)
unread files name failed FileRefusal.Missing missing long disk there = missing refl
unread files name failed (FileRefusal.TooLarge n) missing long disk there = long n refl
unread files name failed FileRefusal.Disk missing long disk there = (disk refl, there refl)
unread files name failed FileRefusal.Memory missing long disk there = tt

-- what holds of the bytes of a disk holds of the file which it was opened over
pub kept : (files : Option (List Entry)) (name : List ℕ) (told : Option Told) (P : List ℕ → Type 0) → IfSome files (λ all. told ≡ option_map synced (file_at all name)) → IfSome files (λ all. file_at all name ≡ None → ⊥) → IfSome told (λ t. (length (content t) ≤ most_length) × P (content t)) → IfKept files name P
kept None name told P found there holds = tt
kept (Some all) name told P found there holds = go (file_at all name) refl
  where
    go : (f : Option (List ℕ)) → file_at all name ≡ f → IfKept (Some all) name P
    go None e = absurd (there e)
    go (Some bytes) e =
        let same : told ≡ Some (synced bytes) = found ∙ ap (option_map synced) e in
        let read : (length bytes ≤ most_length) × P bytes = subst (λ (t : Option Told). IfSome t (λ u. (length (content u) ≤ most_length) × P (content u))) same holds in
        (bytes, e, read.0, read.1)

pub kept_numbers : {T E : Type 0} (files : Option (List Entry)) (name : List ℕ) (told : Option Told) (P : T → List ℕ → Type 0) (r : Result T E) → IfSome files (λ all. told ≡ option_map synced (file_at all name)) → IfSome files (λ all. file_at all name ≡ None → ⊥)
    → IfOk r (λ x. IfSome told (λ t. (length (content t) ≤ most_length) × P x (content t))) → IfOk r (λ x. IfKept files name (P x))
kept_numbers files name told P (Ok x) found there holds = kept files name told (P x) found there holds
kept_numbers files name told P (Err e) found there holds = tt

pub unscanned : {T : Type 0} (files : Option (List Entry)) (name : List ℕ) (failed : Type 0) (r : Refusal) → (IsErrOf {T = T} (Err r) Refusal.Missing → IsMissing files name)
    → ((kind : Damage) (place : ℕ) → IsErrOf {T = T} (Err r) (Refusal.Damaged kind place) → IfKept files name (λ bytes. Damaged bytes place kind))
    → ((n : ℕ) → IsErrOf {T = T} (Err r) (Refusal.TooLong n) → (most_length < n) × IsLength files name n)
    → (IsErrOf {T = T} (Err r) Refusal.Disk → failed) → (IsErrOf {T = T} (Err r) Refusal.Disk → IsPresent files name) → IsOfScan r → ScanCause files name failed r
unscanned files name failed Refusal.Missing missing damaged long disk there others = missing refl
unscanned files name failed (Refusal.Damaged kind place) missing damaged long disk there others = damaged kind place refl
unscanned files name failed (Refusal.TooLong n) missing damaged long disk there others = long n refl
unscanned files name failed Refusal.Disk missing damaged long disk there others = (disk refl, there refl)
unscanned files name failed Refusal.Memory missing damaged long disk there others = tt
unscanned files name failed Refusal.Usage missing damaged long disk there others = absurd others
unscanned files name failed Refusal.NotLegible missing damaged long disk there others = absurd others
unscanned files name failed Refusal.Exists missing damaged long disk there others = absurd others
unscanned files name failed (Refusal.BadLine n) missing damaged long disk there others = absurd others
unscanned files name failed Refusal.Input missing damaged long disk there others = absurd others
unscanned files name failed Refusal.Output missing damaged long disk there others = absurd others
unscanned files name failed Refusal.InputTooLarge missing damaged long disk there others = absurd others
unscanned files name failed (Refusal.FileTooLarge n) missing damaged long disk there others = absurd others
unscanned files name failed Refusal.MissingIndex missing damaged long disk there others = absurd others
unscanned files name failed (Refusal.BadIndex n) missing damaged long disk there others = absurd others
unscanned files name failed (Refusal.BadPiece piece) missing damaged long disk there others = absurd others
unscanned files name failed (Refusal.Unreadable oid) missing damaged long disk there others = absurd others
unscanned files name failed Refusal.PackExists missing damaged long disk there others = absurd others
unscanned files name failed (Refusal.Full need most) missing damaged long disk there others = absurd others
unscanned files name failed Refusal.NamesSpent missing damaged long disk there others = absurd others

-- the damage that a scan of the disk's bytes met is the command's
pub damaged_told : {T U : Type 0} (told : Option Told) (r : ScanRefusal) (result : Result U Refusal) → result ≡ Err (of_scan r) → IfSome told (λ t. length (content t) ≤ most_length) → ((kind : Damage) (place : ℕ) → IsErrOf {T = T} (Err r) (ScanRefusal.Damaged kind place) → IfSome told (λ t. Damaged (content t) place kind))
    → (kind : Damage) (place : ℕ) → IsErrOf result (Refusal.Damaged kind place) → IfSome told (λ t. (length (content t) ≤ most_length) × Damaged (content t) place kind)
damaged_told None r result same short scanned kind place is = tt
damaged_told (Some t) (ScanRefusal.Damaged k p) result same short scanned kind place is =
    let both : k ≡ kind = cc in
    let places : p ≡ place = cc in
    (short, subst (λ (n : ℕ). Damaged (content t) n kind) places (subst (λ (d : Damage). Damaged (content t) p d) both (scanned k p refl)))
damaged_told (Some t) ScanRefusal.Disk result same short scanned kind place is = absurd cc
damaged_told (Some t) ScanRefusal.Memory result same short scanned kind place is = absurd cc

pub short_enough : (told : Option Told) (n : ℕ) → (most_length < n → ⊥) → IfSome told (λ t. n ≡ length (content t)) → IfSome told (λ t. length (content t) ≤ most_length)
short_enough None n le is = tt
short_enough (Some t) n le is = subst (λ (k : ℕ). k ≤ most_length) is (omega (arith, le))

-- the damage that a dump of the disk's bytes met is the command's
pub dump_damaged : {T U : Type 0} (told : Option Told) (r : DumpRefusal) (result : Result U Refusal) (X : Type 0) → result ≡ Err (of_dump r) → IfSome told (λ t. length (content t) ≤ most_length) → ((kind : Damage) (place : ℕ) → IsErrOf {T = T} (Err r) (DumpRefusal.Damaged kind place) → IfSome told (λ t. Damaged (content t) place kind × X))
    → (kind : Damage) (place : ℕ) → IsErrOf result (Refusal.Damaged kind place) → IfSome told (λ t. (length (content t) ≤ most_length) × (Damaged (content t) place kind × X))
dump_damaged None r result X same short dumped kind place is = tt
dump_damaged (Some t) (DumpRefusal.Damaged k p) result X same short dumped kind place is =
    let both : k ≡ kind = cc in
    let places : p ≡ place = cc in
    let d = dumped k p refl in
    (short, (subst (λ (n : ℕ). Damaged (content t) n kind) places (subst (λ (x : Damage). Damaged (content t) p x) both d.0), d.1))
dump_damaged (Some t) DumpRefusal.Disk result X same short dumped kind place is = absurd cc
dump_damaged (Some t) DumpRefusal.Output result X same short dumped kind place is = absurd cc
dump_damaged (Some t) DumpRefusal.Memory result X same short dumped kind place is = absurd cc

module _ {T : Type 0} (files : Option (List Entry)) (name : List ℕ) (told : Option Told) (sink disk : Type 0) (old new : Option (List ℕ)) (found : IfSome files (λ all. told ≡ option_map synced (file_at all name))) (there : IfSome files (λ all. file_at all name ≡ None → ⊥)) where
  pub undumped : (r : Result T Refusal) → ((kind : Damage) (place : ℕ) → IsErrOf r (Refusal.Damaged kind place) → IfSome told (λ t. (length (content t) ≤ most_length) × (Damaged (content t) place kind × (new ≡ old))))
      → ((n : ℕ) → IsErrOf r (Refusal.TooLong n) → (most_length < n) × IfSome told (λ t. n ≡ length (content t)) × (new ≡ old))
      → (IsErrOf r Refusal.Missing → ⊥) → (IsErrOf r Refusal.Disk → disk) → (IsErrOf r Refusal.Output → sink) → IfErr r IsOfDump → IfErr r (DumpCause name files sink disk old new)
  undumped (Ok x) damaged long missing failed rose others = tt
  undumped (Err (Refusal.Damaged kind place)) damaged long missing failed rose others = kept files name told (λ bytes. Damaged bytes place kind × (new ≡ old)) found there (damaged kind place refl)
  undumped (Err (Refusal.TooLong n)) damaged long missing failed rose others = ((long n refl).0, is_length files name told n found there (long n refl).1, (long n refl).2)
  undumped (Err Refusal.Missing) damaged long missing failed rose others = absurd (missing refl)
  undumped (Err Refusal.Disk) damaged long missing failed rose others = (failed refl, there)
  undumped (Err Refusal.Output) damaged long missing failed rose others = rose refl
  undumped (Err Refusal.Memory) damaged long missing failed rose others = tt
  undumped (Err Refusal.Usage) damaged long missing failed rose others = absurd others
  undumped (Err Refusal.NotLegible) damaged long missing failed rose others = absurd others
  undumped (Err Refusal.Exists) damaged long missing failed rose others = absurd others
  undumped (Err (Refusal.BadLine n)) damaged long missing failed rose others = absurd others
  undumped (Err Refusal.Input) damaged long missing failed rose others = absurd others
  undumped (Err Refusal.InputTooLarge) damaged long missing failed rose others = absurd others
  undumped (Err (Refusal.FileTooLarge n)) damaged long missing failed rose others = absurd others
  undumped (Err Refusal.MissingIndex) damaged long missing failed rose others = absurd others
  undumped (Err (Refusal.BadIndex n)) damaged long missing failed rose others = absurd others
  undumped (Err (Refusal.BadPiece piece)) damaged long missing failed rose others = absurd others
  undumped (Err (Refusal.Unreadable oid)) damaged long missing failed rose others = absurd others
  undumped (Err Refusal.PackExists) damaged long missing failed rose others = absurd others
  undumped (Err (Refusal.Full need most)) damaged long missing failed rose others = absurd others
  undumped (Err Refusal.NamesSpent) damaged long missing failed rose others = absurd others
