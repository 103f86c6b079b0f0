-- A file that is only read while a piece is made of it.
use Rattle.std.proofs.Common.{◌≡◌, ◌<◌, ◌∙◌, ℕ, Bool, List, length, Option, None, Some, Result, Ok, Err, IfSome, inl, inr, refl, sym, subst}
use Rattle.std.specs.Prelude.{IfErr, IfOk, IsErrOf, OnErr, OnOk}
use Rattle.zdisk.specs.Disk.{Told, content}
use Rattle.fs_record.specs.declared.damage.Damage.{Damage as Kind}
use Rattle.fs_record.specs.declared.layout.TheConstants.{MAX_LENGTH}
use Rattle.fs_record.specs.Opening.{Damaged}
use Rattle.zio.specs.Shelves.{Entry, Holds, Lasts, TakesBack, file_at}
use Rattle.repozo.specs.declared.index.PieceRow.{PieceRow}
use Rattle.repozo.specs.declared.planning.BackupPlan.{BackupPlan}
use Rattle.repozo.specs.Disks.{Reads}
use Rattle.backups.specs.declared.backed.Backed.TheVariants as backed
use Rattle.backups.specs.declared.backed.Made.{Made}
use Rattle.backups.specs.declared.backed.Made.TheVariants as made
use Rattle.backups.specs.declared.refusal.BackupRefusal.{BackupRefusal}
use Rattle.backups.specs.declared.refusal.BackupRefusal.TheVariants as refusals
use Rattle.backups.specs.BackedUp.{AddsPiece, Fits, HasFile, IsMade, LastsNext}
use Rattle.backups.specs.Putting.{FileCause, IsEarly, IsOfDisk, MakesDue, SpendsDue}
use Rattle.backups.specs.Restored.{Turns}
use Rattle.backups.proofs.Backing.{Makes}
use Rattle.backups.proofs.Closing.{at_more, unchanged}
use Rattle.backups.proofs.Turning.{if_held, of_held, still, still_held}

-- ---- it stays

stays_made : (a b : List Entry) (name bytes repo x : List ℕ) (rows : List PieceRow) (plan : BackupPlan) (it : Made) → IsMade a b repo x rows plan it → file_at a name ≡ Some bytes → file_at b name ≡ Some bytes
stays_made a b name bytes repo x rows plan made.Nothing (none, same) is = subst (λ (y : List Entry). file_at y name ≡ Some bytes) (sym same) is
stays_made a b name bytes repo x rows plan (made.Piece next done) (n, p, nexts, first, mids) is = subst (λ (y : List Entry). file_at y name ≡ Some bytes) (sym mids) (at_more a name bytes (n, p) is)

stays_due : (a b : List Entry) (name repo index : List ℕ) (asked : Bool) (it : Made) → HasFile a name (λ bytes. Fits bytes × MakesDue a b repo index asked bytes it) → (bytes : List ℕ) → file_at a name ≡ Some bytes → file_at b name ≡ Some bytes
stays_due a b name repo index asked it (x, there, (fits, due)) bytes is = stays_made a b name bytes repo x due.rows due.plan it due.made is

stays_piece : (a b : List Entry) (repo name : List ℕ) → AddsPiece repo a b → (bytes : List ℕ) → file_at a name ≡ Some bytes → file_at b name ≡ Some bytes
stays_piece a b repo name (inl same) bytes is = subst (λ (y : List Entry). file_at y name ≡ Some bytes) (sym same) is
stays_piece a b repo name (inr (n, p, first, mids)) bytes is = subst (λ (y : List Entry). file_at y name ≡ Some bytes) (sym mids) (at_more a name bytes (n, p) is)

-- ---- what is made of it

pub made_of : {T E : Type 0} (r : Result Made BackupRefusal) (q : Result T E) (old opens mid now : Option (List Entry)) (name repo index : List ℕ) (asked : Bool) (was told : Option Told) → IfSome old (λ all. Holds all name was) → opens ≡ old → told ≡ was
    → IfOk r (λ it. Turns opens mid (λ all n. (bytes : List ℕ) → Reads was bytes → Fits bytes × MakesDue all n repo index asked bytes it)) → OnOk q (TakesBack mid name told now) → OnErr q (now ≡ mid)
    → IfOk r (λ it. Makes old now name repo index asked it)
made_of (Err e) q old opens mid now name repo index asked was told held same reads turns back failed = tt
made_of (Ok it) q old opens mid now name repo index asked was told held same reads turns back failed =
    still old mid now name was told q (λ all n. HasFile all name (λ bytes. Fits bytes × MakesDue all n repo index asked bytes it)) held
    (of_held old mid name was (λ bytes all n. Fits bytes × MakesDue all n repo index asked bytes it) held
    (subst (λ (o : Option (List Entry)). Turns o mid (λ all n. (bytes : List ℕ) → Reads was bytes → Fits bytes × MakesDue all n repo index asked bytes it)) same turns))
    (λ a b p bytes is. stays_due a b name repo index asked it p bytes is) reads back failed

pub left_of : {T E : Type 0} (r : Result Made BackupRefusal) (q : Result T E) (old opens mid now : Option (List Entry)) (name repo : List ℕ) (was told : Option Told) → IfSome old (λ all. Holds all name was) → opens ≡ old → told ≡ was
    → OnErr r (Turns opens mid (AddsPiece repo)) → OnOk q (TakesBack mid name told now) → OnErr q (now ≡ mid) → OnErr r (Turns old now (AddsPiece repo))
left_of (Ok it) q old opens mid now name repo was told held same reads turns back failed = tt
left_of (Err e) q old opens mid now name repo was told held same reads turns back failed =
    still old mid now name was told q (AddsPiece repo) held (subst (λ (o : Option (List Entry)). Turns o mid (AddsPiece repo)) same turns) (λ a b p bytes is. stays_piece a b repo name p bytes is) reads back failed

pub unmade_of : {T E : Type 0} (r : Result Made BackupRefusal) (q : Result T E) (old opens mid now : Option (List Entry)) (name : List ℕ) (was told : Option Told) → IfSome old (λ all. Holds all name was) → opens ≡ old → told ≡ was
    → IfErr r (λ refusal. IsEarly refusal → mid ≡ opens) → OnOk q (TakesBack mid name told now) → OnErr q (now ≡ mid) → IfErr r (λ refusal. IsEarly refusal → now ≡ old)
unmade_of (Ok it) q old opens mid now name was told held same reads un back failed = tt
unmade_of (Err e) q old opens mid now name was told held same reads un back failed = λ early. unchanged old mid now name was told q held (un early ∙ same) reads back failed

-- ---- what lasts

lasts_next : (old new : List ℕ → Type 0) (it : Made) → Lasts old new → LastsNext old it → LastsNext new it
lasts_next old new made.Nothing keeps last = tt
lasts_next old new (made.Piece next backed.Nothing) keeps last = tt
lasts_next old new (made.Piece next (backed.Full name n)) keeps last = keeps name last
lasts_next old new (made.Piece next (backed.More name n)) keeps last = keeps name last

-- the piece that was made lasts still once the file is given back
pub lasting_of : (r : Result Made BackupRefusal) (old opens mid : Option (List Entry)) (name repo index : List ℕ) (asked : Bool) (was told : Option Told) (before now : List ℕ → Type 0) → IfSome old (λ all. Holds all name was) → opens ≡ old → told ≡ was
    → IfOk r (λ it. Turns opens mid (λ all n. (bytes : List ℕ) → Reads was bytes → Fits bytes × MakesDue all n repo index asked bytes it)) → (IfSome mid (λ all. Holds all name told) → Lasts before now)
    → IfOk r (LastsNext before) → IfOk r (LastsNext now)
lasting_of (Err e) old opens mid name repo index asked was told before now held same reads turns keeps lasts = tt
lasting_of (Ok it) old opens mid name repo index asked was told before now held same reads turns keeps lasts =
    lasts_next before now it
    (keeps (still_held old mid name was told (λ all n. HasFile all name (λ bytes. Fits bytes × MakesDue all n repo index asked bytes it)) held
    (of_held old mid name was (λ bytes all n. Fits bytes × MakesDue all n repo index asked bytes it) held
    (subst (λ (o : Option (List Entry)). Turns o mid (λ all n. (bytes : List ℕ) → Reads was bytes → Fits bytes × MakesDue all n repo index asked bytes it)) same turns))
    (λ a b p bytes is. stays_due a b name repo index asked it p bytes is) reads))
    lasts

-- ---- why it is not

file_has : (old : Option (List Entry)) (name : List ℕ) (was : Option Told) (P : List ℕ → Type 0) → IfSome old (λ all. Holds all name was) → IfSome was (λ t. P (content t)) → IfSome old (λ all. HasFile all name P)
file_has None name was P held is = tt
file_has (Some all) name was P held is = (held.0, held.1, subst (λ (o : Option Told). IfSome o (λ t. P (content t))) held.2 is)

pub cause_of : (r : Result Made BackupRefusal) (old opens : Option (List Entry)) (name repo index : List ℕ) (asked : Bool) (was : Option Told) → IfSome old (λ all. Holds all name was) → opens ≡ old
    → ((n : ℕ) → IsErrOf r (refusals.TooLong n) → (MAX_LENGTH < n) × IfSome was (λ t. n ≡ length (content t)))
    → ((kind : Kind) (place : ℕ) → IsErrOf r (refusals.Damaged kind place) → IfSome was (λ t. Fits (content t) × Damaged (content t) place kind))
    → (IsErrOf r refusals.NamesSpent → (bytes : List ℕ) → Reads was bytes → IfSome opens (λ all. Fits bytes × SpendsDue all repo index asked bytes))
    → IfErr r IsOfDisk → IfErr r (FileCause name repo index asked old)
cause_of (Ok it) old opens name repo index asked was held same long damaged spent of = tt
cause_of (Err refusals.Missing) old opens name repo index asked was held same long damaged spent of = absurd of
cause_of (Err (refusals.TooLong n)) old opens name repo index asked was held same long damaged spent of = ((long n refl).0, file_has old name was (λ bytes. n ≡ length bytes) held (long n refl).1)
cause_of (Err (refusals.Damaged kind place)) old opens name repo index asked was held same long damaged spent of = file_has old name was (λ bytes. Fits bytes × Damaged bytes place kind) held (damaged kind place refl)
cause_of (Err refusals.NamesSpent) old opens name repo index asked was held same long damaged spent of =
    if_held old name was (λ bytes all. Fits bytes × SpendsDue all repo index asked bytes) held (λ bytes reads. subst (λ (o : Option (List Entry)). IfSome o (λ all. Fits bytes × SpendsDue all repo index asked bytes)) same (spent refl bytes reads))
cause_of (Err refusals.Disk) old opens name repo index asked was held same long damaged spent of = tt
cause_of (Err refusals.Memory) old opens name repo index asked was held same long damaged spent of = tt
