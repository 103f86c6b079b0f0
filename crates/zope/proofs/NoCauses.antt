-- Where a command meets no cause, it ends well or for want of memory.
use Rattle.std.proofs.Common.{◌≡◌, ◌∙◌, ℕ, ◌≤◌, ◌<◌, List, length, Option, None, Some, refl, sym, ap, subst, arith, inl, inr}
use Rattle.std.specs.Prelude.{◌⊎◌, Bool, IfSome}
use Rattle.std.specs.Option.{option_map}
use Rattle.zbase.specs.Faults.{Counter, Rose}
use Rattle.zio.specs.Shelves.{Entry, file_at}
use Rattle.fs_record.specs.declared.damage.Damage.{Damage}
use Rattle.fs_record.specs.File.{Front}
use Rattle.fs_record.specs.Opening.{Cut, Damaged}
use Rattle.schedule.specs.declared.item.Item2.{Item2}
use Rattle.schedule.specs.BadLines.{IsBadAt}
use Rattle.schedule.specs.Items.{IsSchedule}
use Rattle.zope.specs.declared.refusal.Refusal.{Refusal}
use Rattle.fs_store.specs.Stores.{most_length}
use Rattle.repozo.specs.declared.index.PieceRow.{PieceRow}
use Rattle.repozo.specs.BadLines as Rows
use Rattle.repozo.specs.Index.{IsIndex}
use Rattle.backups.specs.BackedUp as Backing
use Rattle.backups.specs.Restored as Restoring
use Rattle.backups.specs.Names.{index_name}
use Rattle.backups.specs.Standing.{HasBadIndex, Stands, first_wrong}
use Rattle.backups.specs.declared.refusal.BackupRefusal.{BackupRefusal}
use Rattle.backups.specs.declared.refusal.BackupRefusal.TheVariants as backup
use Rattle.backups.specs.declared.refusal.RestoreRefusal.{RestoreRefusal}
use Rattle.backups.specs.declared.refusal.RestoreRefusal.TheVariants as restore
use Rattle.file_packer.specs.Packing as Packing
use Rattle.file_packer.specs.declared.refusal.FilePackRefusal.{FilePackRefusal}
use Rattle.file_packer.specs.declared.refusal.FilePackRefusal.TheVariants as pack
use Rattle.fs_pack.specs.Plans.{LacksObject, PassesLimit}
use Rattle.site_links.specs.Linked.{linked}
use Rattle.file_server.specs.Kept as Serving
use Rattle.file_server.specs.Shelved.{IsThere}
use Rattle.file_server.specs.declared.refusal.FileRefusal.{FileRefusal}
use Rattle.zope.specs.Causes.{Cause, CauseOf, NoCause, NoCauseOf, WordsCause}
use Rattle.zope.specs.MakeCauses.{LegibleCause, MakeCause, NewCause, NoMakeCause}
use Rattle.words.specs.Asking.{Asked, Backup, Check, Dump, Gen, Init, Pack, Replay, Restore, Serial, Serve, asked_of}
use Rattle.zope.specs.Outside.{DiskFailed, HubFailed, OutsideView, ShelfFailed, SinkFailed, SourceFailed, told}
use Rattle.zope.specs.ServeCauses.{NoServeCause, of_served}
use Rattle.zope.specs.BackupCauses.{BackupCause, NoBackupCause, of_backup}
use Rattle.zope.specs.PackCauses.{NoPackCause, PackCause, of_pack}
use Rattle.zope.specs.RestoreCauses.{NoRestoreCause, RestoreCause, of_restore}
use Rattle.zope.specs.CheckCauses.{CheckCause, PrintCause, ScanCause}
use Rattle.zope.specs.Drawn.{DrawnCause, NoDrawnCause, RunCause as DrawnRunCause}
use Rattle.zope.specs.DumpCauses.{DumpCause}
use Rattle.zope.specs.Given.{IfKept, IsSound, most_file, most_input}
use Rattle.zope.specs.ReplayCauses.{Breaking, Broke, BrokeAlone, FileCause, InputCause, NoReplayCause, ReplayCause, RunCause}
use Rattle.zope.specs.Shelved.{HasFile, IsLength, IsMissing, IsPresent}
use Rattle.zope.specs.Words.{IsCommand}

abbrev pub OneSchedule : Type 0
OneSchedule = (text : List ℕ) (a b : List Item2) → IsSchedule text a → IsSchedule text b → a ≡ b

abbrev pub NotBoth : Type 0
NotBoth = (text : List ℕ) (items : List Item2) (n : ℕ) → IsSchedule text items → IsBadAt text n → ⊥

abbrev pub NotDamaged : Type 0
NotDamaged = (bytes : List ℕ) (front : Front) (m n : ℕ) (kind : Damage) → Cut bytes front m → Damaged bytes n kind → ⊥

abbrev pub OneIndex : Type 0
OneIndex = (text : List ℕ) (a b : List PieceRow) → IsIndex text a → IsIndex text b → a ≡ b

abbrev pub NotBadIndex : Type 0
NotBadIndex = (text : List ℕ) (rows : List PieceRow) (n : ℕ) → IsIndex text rows → Rows.IsBadAt text n → ⊥

-- what is proved elsewhere: a text is one schedule, and one index, and none that has a bad line, and a file that opens has no damage
pub record Laws : Type 0 where
  pub schedule : OneSchedule
  pub line : NotBoth
  pub opening : NotDamaged
  pub index : OneIndex
  pub row : NotBadIndex

same_bytes : {X : Type 0} (o : Option X) (a b : X) → o ≡ Some a → o ≡ Some b → a ≡ b
same_bytes o a b p q = cc

not_none : {X : Type 0} (o : Option X) (a : X) → o ≡ Some a → o ≡ None → ⊥
not_none o a p q = cc

of_input : (input : Option (List ℕ)) (text : List ℕ) (failed : Type 0) (items : List Item2) → input ≡ Some text → length text ≤ most_input → IsSchedule text items → NotBoth → (failed → ⊥) → (e : Refusal) → InputCause input failed e → e ≡ Refusal.Memory
of_input input text failed items given within spells law calm Refusal.Memory cause = refl
of_input input text failed items given within spells law calm Refusal.Input cause = absurd (calm cause)
of_input input text failed items given within spells law calm Refusal.InputTooLarge cause =
    let long : most_input < length text = subst (λ i. IfSome i (λ t. most_input < length t)) given cause in
    absurd (omega arith)
of_input input text failed items given within spells law calm (Refusal.BadLine n) cause =
    let bad : (length text ≤ most_input) × IsBadAt text n = subst (λ i. IfSome i (λ t. (length t ≤ most_input) × IsBadAt t n)) given cause in
    absurd (law text items n spells bad.1)
of_input input text failed items given within spells law calm Refusal.Usage cause = absurd cause
of_input input text failed items given within spells law calm Refusal.NotLegible cause = absurd cause
of_input input text failed items given within spells law calm Refusal.Exists cause = absurd cause
of_input input text failed items given within spells law calm (Refusal.Damaged kind place) cause = absurd cause
of_input input text failed items given within spells law calm Refusal.Disk cause = absurd cause
of_input input text failed items given within spells law calm Refusal.Output cause = absurd cause
of_input input text failed items given within spells law calm Refusal.Missing cause = absurd cause
of_input input text failed items given within spells law calm (Refusal.FileTooLarge n) cause = absurd cause
of_input input text failed items given within spells law calm (Refusal.TooLong n) cause = absurd cause
of_input input text failed items given within spells law calm Refusal.MissingIndex cause = absurd cause
of_input input text failed items given within spells law calm (Refusal.BadIndex n) cause = absurd cause
of_input input text failed items given within spells law calm (Refusal.BadPiece piece) cause = absurd cause
of_input input text failed items given within spells law calm (Refusal.Unreadable oid) cause = absurd cause
of_input input text failed items given within spells law calm Refusal.PackExists cause = absurd cause
of_input input text failed items given within spells law calm (Refusal.Full need most) cause = absurd cause
of_input input text failed items given within spells law calm Refusal.NamesSpent cause = absurd cause

has_same : (files : Option (List Entry)) (entries : List Entry) (name a b : List ℕ) → files ≡ Some entries → file_at entries name ≡ Some a → HasFile files name b → a ≡ b
has_same files entries name a b shelf there has = same_bytes (file_at entries name) a b there (subst (λ f. HasFile f name b) shelf has)

of_file : (files : Option (List Entry)) (entries : List Entry) (name bytes : List ℕ) (failed : Type 0) → files ≡ Some entries → file_at entries name ≡ Some bytes → length bytes ≤ most_file → (failed → ⊥) → (e : Refusal) → FileCause files name failed e → e ≡ Refusal.Memory
of_file files entries name bytes failed shelf there fits calm Refusal.Memory cause = refl
of_file files entries name bytes failed shelf there fits calm Refusal.Missing cause = absurd (not_none (file_at entries name) bytes there (subst (λ f. IfSome f (λ all. file_at all name ≡ None)) shelf cause))
of_file files entries name bytes failed shelf there fits calm (Refusal.FileTooLarge n) cause =
    let long : option_map length (file_at entries name) ≡ Some n = subst (λ f. IsLength f name n) shelf cause.1 in
    let same : length bytes ≡ n = same_bytes (option_map length (file_at entries name)) (length bytes) n (ap (option_map length) there) long in
    absurd (omega (arith, cause.0, same))
of_file files entries name bytes failed shelf there fits calm Refusal.Disk cause = absurd (calm cause.0)
of_file files entries name bytes failed shelf there fits calm (Refusal.Damaged kind place) cause = absurd cause
of_file files entries name bytes failed shelf there fits calm Refusal.Usage cause = absurd cause
of_file files entries name bytes failed shelf there fits calm Refusal.NotLegible cause = absurd cause
of_file files entries name bytes failed shelf there fits calm Refusal.Exists cause = absurd cause
of_file files entries name bytes failed shelf there fits calm (Refusal.BadLine n) cause = absurd cause
of_file files entries name bytes failed shelf there fits calm Refusal.Input cause = absurd cause
of_file files entries name bytes failed shelf there fits calm Refusal.Output cause = absurd cause
of_file files entries name bytes failed shelf there fits calm Refusal.InputTooLarge cause = absurd cause
of_file files entries name bytes failed shelf there fits calm (Refusal.TooLong n) cause = absurd cause
of_file files entries name bytes failed shelf there fits calm Refusal.MissingIndex cause = absurd cause
of_file files entries name bytes failed shelf there fits calm (Refusal.BadIndex n) cause = absurd cause
of_file files entries name bytes failed shelf there fits calm (Refusal.BadPiece piece) cause = absurd cause
of_file files entries name bytes failed shelf there fits calm (Refusal.Unreadable oid) cause = absurd cause
of_file files entries name bytes failed shelf there fits calm Refusal.PackExists cause = absurd cause
of_file files entries name bytes failed shelf there fits calm (Refusal.Full need most) cause = absurd cause
of_file files entries name bytes failed shelf there fits calm Refusal.NamesSpent cause = absurd cause

of_run : (broke : Breaking) (limit : ℕ) (bytes : List ℕ) (items : List Item2) (failed : Type 0) (old new : Option (List ℕ)) (front : Front) (end : ℕ) → Cut bytes front end → NotDamaged → ((n : ℕ) → broke limit bytes items old new n → ⊥) → (failed → ⊥) → (e : Refusal) → RunCause broke limit bytes items failed old new e → e ≡ Refusal.Memory
of_run broke limit bytes items failed old new front end opens law runs calm Refusal.Memory cause = refl
of_run broke limit bytes items failed old new front end opens law runs calm Refusal.Output cause = absurd (calm cause.0)
of_run broke limit bytes items failed old new front end opens law runs calm (Refusal.BadLine n) cause = absurd (runs n cause)
of_run broke limit bytes items failed old new front end opens law runs calm (Refusal.Damaged kind place) cause = absurd (law bytes front end place kind opens cause.0)
of_run broke limit bytes items failed old new front end opens law runs calm Refusal.Usage cause = absurd cause
of_run broke limit bytes items failed old new front end opens law runs calm Refusal.NotLegible cause = absurd cause
of_run broke limit bytes items failed old new front end opens law runs calm Refusal.Exists cause = absurd cause
of_run broke limit bytes items failed old new front end opens law runs calm Refusal.Disk cause = absurd cause
of_run broke limit bytes items failed old new front end opens law runs calm Refusal.Input cause = absurd cause
of_run broke limit bytes items failed old new front end opens law runs calm Refusal.Missing cause = absurd cause
of_run broke limit bytes items failed old new front end opens law runs calm Refusal.InputTooLarge cause = absurd cause
of_run broke limit bytes items failed old new front end opens law runs calm (Refusal.FileTooLarge n) cause = absurd cause
of_run broke limit bytes items failed old new front end opens law runs calm (Refusal.TooLong n) cause = absurd cause
of_run broke limit bytes items failed old new front end opens law runs calm Refusal.MissingIndex cause = absurd cause
of_run broke limit bytes items failed old new front end opens law runs calm (Refusal.BadIndex n) cause = absurd cause
of_run broke limit bytes items failed old new front end opens law runs calm (Refusal.BadPiece piece) cause = absurd cause
of_run broke limit bytes items failed old new front end opens law runs calm (Refusal.Unreadable oid) cause = absurd cause
of_run broke limit bytes items failed old new front end opens law runs calm Refusal.PackExists cause = absurd cause
of_run broke limit bytes items failed old new front end opens law runs calm (Refusal.Full need most) cause = absurd cause
of_run broke limit bytes items failed old new front end opens law runs calm Refusal.NamesSpent cause = absurd cause

kept_same : (files : Option (List Entry)) (entries : List Entry) (name bytes : List ℕ) (P : List ℕ → Type 0) → files ≡ Some entries → file_at entries name ≡ Some bytes → IfKept files name P → P bytes
kept_same files entries name bytes P shelf there kept =
    let held = subst (λ f. IfKept f name P) shelf kept in
    subst P (sym (same_bytes (file_at entries name) bytes held.0 there held.1)) held.3

of_scan : (files : Option (List Entry)) (entries : List Entry) (name bytes : List ℕ) (front : Front) (end : ℕ) (failed : Type 0) → files ≡ Some entries → file_at entries name ≡ Some bytes → length bytes ≤ most_length → Cut bytes front end → NotDamaged → (failed → ⊥) → (e : Refusal) → ScanCause files name failed e → e ≡ Refusal.Memory
of_scan files entries name bytes front end failed shelf there fits opens law calm Refusal.Memory cause = refl
of_scan files entries name bytes front end failed shelf there fits opens law calm Refusal.Missing cause = absurd (not_none (file_at entries name) bytes there (subst (λ f. IsMissing f name) shelf cause))
of_scan files entries name bytes front end failed shelf there fits opens law calm (Refusal.TooLong n) cause =
    let long : option_map length (file_at entries name) ≡ Some n = subst (λ f. IsLength f name n) shelf cause.1 in
    let same : length bytes ≡ n = same_bytes (option_map length (file_at entries name)) (length bytes) n (ap (option_map length) there) long in
    absurd (omega (arith, cause.0, same))
of_scan files entries name bytes front end failed shelf there fits opens law calm Refusal.Disk cause = absurd (calm cause.0)
of_scan files entries name bytes front end failed shelf there fits opens law calm (Refusal.Damaged kind place) cause = absurd (law bytes front end place kind opens (kept_same files entries name bytes (λ b. Damaged b place kind) shelf there cause))
of_scan files entries name bytes front end failed shelf there fits opens law calm Refusal.Usage cause = absurd cause
of_scan files entries name bytes front end failed shelf there fits opens law calm Refusal.NotLegible cause = absurd cause
of_scan files entries name bytes front end failed shelf there fits opens law calm Refusal.Exists cause = absurd cause
of_scan files entries name bytes front end failed shelf there fits opens law calm (Refusal.BadLine n) cause = absurd cause
of_scan files entries name bytes front end failed shelf there fits opens law calm Refusal.Input cause = absurd cause
of_scan files entries name bytes front end failed shelf there fits opens law calm Refusal.Output cause = absurd cause
of_scan files entries name bytes front end failed shelf there fits opens law calm Refusal.InputTooLarge cause = absurd cause
of_scan files entries name bytes front end failed shelf there fits opens law calm (Refusal.FileTooLarge n) cause = absurd cause
of_scan files entries name bytes front end failed shelf there fits opens law calm Refusal.MissingIndex cause = absurd cause
of_scan files entries name bytes front end failed shelf there fits opens law calm (Refusal.BadIndex n) cause = absurd cause
of_scan files entries name bytes front end failed shelf there fits opens law calm (Refusal.BadPiece piece) cause = absurd cause
of_scan files entries name bytes front end failed shelf there fits opens law calm (Refusal.Unreadable oid) cause = absurd cause
of_scan files entries name bytes front end failed shelf there fits opens law calm Refusal.PackExists cause = absurd cause
of_scan files entries name bytes front end failed shelf there fits opens law calm (Refusal.Full need most) cause = absurd cause
of_scan files entries name bytes front end failed shelf there fits opens law calm Refusal.NamesSpent cause = absurd cause

of_print : (failed : Type 0) (text : List ℕ) (old new : Option (List ℕ)) → (failed → ⊥) → (e : Refusal) → PrintCause failed text old new e → e ≡ Refusal.Memory
of_print failed text old new calm Refusal.Memory cause = refl
of_print failed text old new calm Refusal.Output cause = absurd (calm cause.0)
of_print failed text old new calm Refusal.Usage cause = absurd cause
of_print failed text old new calm Refusal.NotLegible cause = absurd cause
of_print failed text old new calm Refusal.Exists cause = absurd cause
of_print failed text old new calm (Refusal.Damaged kind place) cause = absurd cause
of_print failed text old new calm (Refusal.BadLine n) cause = absurd cause
of_print failed text old new calm Refusal.Disk cause = absurd cause
of_print failed text old new calm Refusal.Input cause = absurd cause
of_print failed text old new calm Refusal.Missing cause = absurd cause
of_print failed text old new calm Refusal.InputTooLarge cause = absurd cause
of_print failed text old new calm (Refusal.FileTooLarge n) cause = absurd cause
of_print failed text old new calm (Refusal.TooLong n) cause = absurd cause
of_print failed text old new calm Refusal.MissingIndex cause = absurd cause
of_print failed text old new calm (Refusal.BadIndex n) cause = absurd cause
of_print failed text old new calm (Refusal.BadPiece piece) cause = absurd cause
of_print failed text old new calm (Refusal.Unreadable oid) cause = absurd cause
of_print failed text old new calm Refusal.PackExists cause = absurd cause
of_print failed text old new calm (Refusal.Full need most) cause = absurd cause
of_print failed text old new calm Refusal.NamesSpent cause = absurd cause

-- the sink of the whole run has failed where that of the command has
replay_memory : (broke : Breaking) (name : List ℕ) (limit : ℕ) (files : Option (List Entry)) (input : Option (List ℕ)) (source sink more disk : Type 0) (old new : Option (List ℕ)) (e : Refusal) → OneSchedule → NotBoth → NotDamaged → (sink → more) → ReplayCause broke name limit files input source sink disk old new e → NoReplayCause broke name limit files input source more disk → e ≡ Refusal.Memory
replay_memory broke name limit files input source sink more disk old new e one both law wider (inl c) meets = of_input input meets.text source meets.items meets.given meets.within meets.spells both meets.source_calm e c.0
replay_memory broke name limit files input source sink more disk old new e one both law wider (inr (inl c)) meets = of_file files meets.entries name meets.bytes disk meets.shelf meets.there meets.fits meets.disk_calm e c.2
replay_memory broke name limit files input source sink more disk old new e one both law wider (inr (inr c)) meets =
    let spelled : IsSchedule meets.text c.0 = subst (λ i. IfSome i (λ t. IsSchedule t c.0)) meets.given c.1.spells in
    let same : c.0 ≡ meets.items = one meets.text c.0 meets.items spelled meets.spells in
    let bytes = has_same files meets.entries name meets.bytes c.2 meets.shelf meets.there c.3.has in
    let Of : List ℕ → List Item2 → Type 0 = λ bs items. RunCause broke limit bs items sink old new e in
    let cause : Of meets.bytes meets.items = subst (λ (b : List ℕ). Of b meets.items) (sym bytes) (subst (λ (items : List Item2). Of c.2 items) same c.4) in
    of_run broke limit meets.bytes meets.items sink old new meets.front meets.end meets.opens law (λ n broke. meets.runs n old new broke) (λ rose. meets.sink_calm (wider rose)) e cause

check_memory : (name : List ℕ) (files : Option (List Entry)) (sink more disk : Type 0) (old new : Option (List ℕ)) (e : Refusal) → NotDamaged → (sink → more) → CheckCause name files sink disk old new e → IsSound name files more disk → e ≡ Refusal.Memory
check_memory name files sink more disk old new e law wider (inl c) meets = of_scan files meets.entries name meets.bytes meets.front meets.end disk meets.shelf meets.there meets.fits meets.opens law meets.disk_calm e c.0
check_memory name files sink more disk old new e law wider (inr c) meets = of_print sink _ old new (λ rose. meets.sink_calm (wider rose)) e c.2

dump_memory : (name : List ℕ) (files : Option (List Entry)) (sink more disk : Type 0) (old new : Option (List ℕ)) (e : Refusal) → NotDamaged → (sink → more) → DumpCause name files sink disk old new e → IsSound name files more disk → e ≡ Refusal.Memory
dump_memory name files sink more disk old new Refusal.Memory law wider c meets = refl
dump_memory name files sink more disk old new Refusal.Missing law wider c meets = absurd (not_none (file_at meets.entries name) meets.bytes meets.there (subst (λ f. IsMissing f name) meets.shelf c.0))
dump_memory name files sink more disk old new (Refusal.TooLong n) law wider c meets =
    let long : option_map length (file_at meets.entries name) ≡ Some n = subst (λ f. IsLength f name n) meets.shelf c.1 in
    let same : length meets.bytes ≡ n = same_bytes (option_map length (file_at meets.entries name)) (length meets.bytes) n (ap (option_map length) meets.there) long in
    absurd (omega (arith, c.0, same, meets.fits))
dump_memory name files sink more disk old new Refusal.Disk law wider c meets = absurd (meets.disk_calm c.0)
dump_memory name files sink more disk old new (Refusal.Damaged kind place) law wider c meets =
    absurd (law meets.bytes meets.front meets.end place kind meets.opens (kept_same files meets.entries name meets.bytes (λ b. Damaged b place kind × (new ≡ old)) meets.shelf meets.there c).0)
dump_memory name files sink more disk old new Refusal.Output law wider c meets = absurd (meets.sink_calm (wider c))
dump_memory name files sink more disk old new Refusal.Usage law wider c meets = absurd c
dump_memory name files sink more disk old new Refusal.NotLegible law wider c meets = absurd c
dump_memory name files sink more disk old new Refusal.Exists law wider c meets = absurd c
dump_memory name files sink more disk old new (Refusal.BadLine n) law wider c meets = absurd c
dump_memory name files sink more disk old new Refusal.Input law wider c meets = absurd c
dump_memory name files sink more disk old new Refusal.InputTooLarge law wider c meets = absurd c
dump_memory name files sink more disk old new (Refusal.FileTooLarge n) law wider c meets = absurd c
dump_memory name files sink more disk old new Refusal.MissingIndex law wider c meets = absurd c
dump_memory name files sink more disk old new (Refusal.BadIndex n) law wider c meets = absurd c
dump_memory name files sink more disk old new (Refusal.BadPiece piece) law wider c meets = absurd c
dump_memory name files sink more disk old new (Refusal.Unreadable oid) law wider c meets = absurd c
dump_memory name files sink more disk old new Refusal.PackExists law wider c meets = absurd c
dump_memory name files sink more disk old new (Refusal.Full need most) law wider c meets = absurd c
dump_memory name files sink more disk old new Refusal.NamesSpent law wider c meets = absurd c

of_legible : (file name password : List ℕ) (files : Option (List Entry)) (sink disk : Type 0) → (e : Refusal) → LegibleCause name password e → NoMakeCause file name password files sink disk → e ≡ Refusal.Memory
of_legible file name password files sink disk Refusal.NotLegible cause meets = absurd (cause meets.legible)
of_legible file name password files sink disk Refusal.Usage cause meets = absurd cause
of_legible file name password files sink disk (Refusal.Damaged kind place) cause meets = absurd cause
of_legible file name password files sink disk (Refusal.BadLine n) cause meets = absurd cause
of_legible file name password files sink disk Refusal.Disk cause meets = absurd cause
of_legible file name password files sink disk Refusal.Input cause meets = absurd cause
of_legible file name password files sink disk Refusal.Output cause meets = absurd cause
of_legible file name password files sink disk Refusal.Memory cause meets = absurd cause
of_legible file name password files sink disk Refusal.Missing cause meets = absurd cause
of_legible file name password files sink disk Refusal.Exists cause meets = absurd cause
of_legible file name password files sink disk Refusal.InputTooLarge cause meets = absurd cause
of_legible file name password files sink disk (Refusal.FileTooLarge n) cause meets = absurd cause
of_legible file name password files sink disk (Refusal.TooLong n) cause meets = absurd cause
of_legible file name password files sink disk Refusal.MissingIndex cause meets = absurd cause
of_legible file name password files sink disk (Refusal.BadIndex n) cause meets = absurd cause
of_legible file name password files sink disk (Refusal.BadPiece piece) cause meets = absurd cause
of_legible file name password files sink disk (Refusal.Unreadable oid) cause meets = absurd cause
of_legible file name password files sink disk Refusal.PackExists cause meets = absurd cause
of_legible file name password files sink disk (Refusal.Full need most) cause meets = absurd cause
of_legible file name password files sink disk Refusal.NamesSpent cause meets = absurd cause

of_new : (files : Option (List Entry)) (entries : List Entry) (file : List ℕ) (failed : Type 0) → files ≡ Some entries → file_at entries file ≡ None → (failed → ⊥) → (e : Refusal) → NewCause files file failed e → e ≡ Refusal.Memory
of_new files entries file failed shelf absent calm Refusal.Memory cause = refl
of_new files entries file failed shelf absent calm Refusal.Exists cause = absurd (subst (λ f. IsPresent f file) shelf cause absent)
of_new files entries file failed shelf absent calm Refusal.Disk cause = absurd (calm cause.0)
of_new files entries file failed shelf absent calm Refusal.NotLegible cause = absurd cause
of_new files entries file failed shelf absent calm Refusal.Usage cause = absurd cause
of_new files entries file failed shelf absent calm (Refusal.Damaged kind place) cause = absurd cause
of_new files entries file failed shelf absent calm (Refusal.BadLine n) cause = absurd cause
of_new files entries file failed shelf absent calm Refusal.Input cause = absurd cause
of_new files entries file failed shelf absent calm Refusal.Output cause = absurd cause
of_new files entries file failed shelf absent calm Refusal.Missing cause = absurd cause
of_new files entries file failed shelf absent calm Refusal.InputTooLarge cause = absurd cause
of_new files entries file failed shelf absent calm (Refusal.FileTooLarge n) cause = absurd cause
of_new files entries file failed shelf absent calm (Refusal.TooLong n) cause = absurd cause
of_new files entries file failed shelf absent calm Refusal.MissingIndex cause = absurd cause
of_new files entries file failed shelf absent calm (Refusal.BadIndex n) cause = absurd cause
of_new files entries file failed shelf absent calm (Refusal.BadPiece piece) cause = absurd cause
of_new files entries file failed shelf absent calm (Refusal.Unreadable oid) cause = absurd cause
of_new files entries file failed shelf absent calm Refusal.PackExists cause = absurd cause
of_new files entries file failed shelf absent calm (Refusal.Full need most) cause = absurd cause
of_new files entries file failed shelf absent calm Refusal.NamesSpent cause = absurd cause

make_memory : (file name password : List ℕ) (files : Option (List Entry)) (sink more disk : Type 0) (old new : Option (List ℕ)) (e : Refusal) → (sink → more) → MakeCause file name password files sink disk old new e → NoMakeCause file name password files more disk → e ≡ Refusal.Memory
make_memory file name password files sink more disk old new e wider (inl c) meets = of_legible file name password files more disk e c.0 meets
make_memory file name password files sink more disk old new e wider (inr (inl c)) meets = of_new files meets.entries file disk meets.shelf meets.absent meets.disk_calm e c.1
make_memory file name password files sink more disk old new e wider (inr (inr c)) meets = of_print sink _ old new (λ rose. meets.sink_calm (wider rose)) e c.3

of_words : (words : List (List ℕ)) (e : Refusal) → IsCommand words → WordsCause words e → e ≡ Refusal.Memory
of_words words Refusal.Memory is cause = refl
of_words words Refusal.Usage is cause = absurd (cause is)
of_words words Refusal.NotLegible is cause = absurd cause
of_words words (Refusal.Damaged kind place) is cause = absurd cause
of_words words (Refusal.BadLine n) is cause = absurd cause
of_words words Refusal.Disk is cause = absurd cause
of_words words Refusal.Input is cause = absurd cause
of_words words Refusal.Output is cause = absurd cause
of_words words Refusal.Missing is cause = absurd cause
of_words words Refusal.Exists is cause = absurd cause
of_words words Refusal.InputTooLarge is cause = absurd cause
of_words words (Refusal.FileTooLarge n) is cause = absurd cause
of_words words (Refusal.TooLong n) is cause = absurd cause
of_words words Refusal.MissingIndex is cause = absurd cause
of_words words (Refusal.BadIndex n) is cause = absurd cause
of_words words (Refusal.BadPiece piece) is cause = absurd cause
of_words words (Refusal.Unreadable oid) is cause = absurd cause
of_words words Refusal.PackExists is cause = absurd cause
of_words words (Refusal.Full need most) is cause = absurd cause
of_words words Refusal.NamesSpent is cause = absurd cause

-- ---- a server

of_served_file : (files : Option (List Entry)) (file record_ : List ℕ) (hub sink shelf disks : Type 0) → NoServeCause file record_ files hub sink (shelf ⊎ disks) → NotDamaged → (refusal : FileRefusal) → Serving.FileCause file record_ files hub shelf disks refusal → of_served refusal ≡ Refusal.Memory
of_served_file files file record_ hub sink shelf disks meets law FileRefusal.Memory cause = refl
of_served_file files file record_ hub sink shelf disks meets law FileRefusal.Missing cause = absurd (not_none (file_at meets.entries file) meets.bytes meets.there (subst (λ f. IfSome f (λ all. file_at all file ≡ None)) meets.shelf cause))
of_served_file files file record_ hub sink shelf disks meets law FileRefusal.Exists cause = absurd ((subst (λ f. IfSome f (λ all. IsThere all file × IsThere all record_)) meets.shelf cause).1 meets.absent)
of_served_file files file record_ hub sink shelf disks meets law (FileRefusal.TooLong n) cause =
    let long = subst (λ f. IfSome f (λ all. (file_at all record_ ≡ None) × (option_map length (file_at all file) ≡ Some n))) meets.shelf cause.1 in
    let same : length meets.bytes ≡ n = same_bytes (option_map length (file_at meets.entries file)) (length meets.bytes) n (ap (option_map length) meets.there) long.1 in
    absurd (omega (arith, cause.0, same, meets.fits))
of_served_file files file record_ hub sink shelf disks meets law (FileRefusal.Damaged kind place) cause =
    let kept = subst (λ f. IfSome f (λ all. (file_at all record_ ≡ None) × (bytes : List ℕ) × (file_at all file ≡ Some bytes) × (length bytes ≤ most_length) × Damaged bytes place kind)) meets.shelf cause in
    absurd (law meets.bytes meets.front meets.end place kind meets.opens (subst (λ (b : List ℕ). Damaged b place kind) (sym (same_bytes (file_at meets.entries file) meets.bytes kept.1 meets.there kept.2)) kept.4))
of_served_file files file record_ hub sink shelf disks meets law FileRefusal.Disk cause = absurd (elim cause.1 [ inl failed ↦ meets.disk_calm (inl failed) | inr unsound ↦ meets.disk_calm (inr unsound.0) ])
of_served_file files file record_ hub sink shelf disks meets law FileRefusal.Hub cause = absurd (meets.hub_calm cause.0)

-- ---- a backup

of_unbacked : (file repo : List ℕ) (full : Bool) (files now : Option (List Entry)) (sink disk : Type 0) → NotDamaged → NoBackupCause file repo files sink disk → (refusal : BackupRefusal) → Backing.BackupCause file repo full files now disk refusal → of_backup refusal ≡ Refusal.Memory
of_unbacked file repo full files now sink disk law meets backup.Memory cause = refl
of_unbacked file repo full files now sink disk law meets backup.Missing cause = absurd (not_none (file_at meets.entries file) meets.bytes meets.there (subst (λ f. IfSome f (λ all. file_at all file ≡ None)) meets.shelf cause))
of_unbacked file repo full files now sink disk law meets (backup.TooLong n) cause =
    let held = subst (λ f. IfSome f (λ all. Backing.HasFile all file (λ bytes. n ≡ length bytes))) meets.shelf cause.1 in
    let long : n ≡ length meets.bytes = held.2 ∙ ap length (same_bytes (file_at meets.entries file) held.0 meets.bytes held.1 meets.there) in
    absurd (omega (arith, cause.0, long, meets.fits))
of_unbacked file repo full files now sink disk law meets (backup.Damaged kind place) cause =
    let held = subst (λ f. IfSome f (λ all. Backing.HasFile all file (λ bytes. Backing.Fits bytes × Damaged bytes place kind))) meets.shelf cause in
    let same : held.0 ≡ meets.bytes = same_bytes (file_at meets.entries file) held.0 meets.bytes held.1 meets.there in
    absurd (law meets.bytes meets.front meets.end place kind meets.opens (subst (λ (b : List ℕ). Damaged b place kind) same held.2.1))
of_unbacked file repo full files now sink disk law meets backup.NamesSpent cause =
    absurd (meets.named now (subst (λ f. IfSome f (λ all. Backing.HasDue all file repo full × Backing.Spends all now repo)) meets.shelf cause).1)
of_unbacked file repo full files now sink disk law meets backup.Disk cause = absurd (meets.disk_calm cause)

backup_memory : (file repo : List ℕ) (full : Bool) (files now : Option (List Entry)) (sink more disk : Type 0) (old new : Option (List ℕ)) (e : Refusal) → NotDamaged → (sink → more) → BackupCause file repo full files now sink disk old new e → NoBackupCause file repo files more disk → e ≡ Refusal.Memory
backup_memory file repo full files now sink more disk old new e law wider (inl c) meets = c.0.is ∙ of_unbacked file repo full files now more disk law meets c.0.refusal c.0.cause
backup_memory file repo full files now sink more disk old new e law wider (inr c) meets = of_print sink _ old new (λ rose. meets.sink_calm (wider rose)) e c.printed

-- ---- a restore

of_unrestored : (repo name : List ℕ) (files : Option (List Entry)) (sink disk : Type 0) → OneIndex → NotBadIndex → NoRestoreCause repo name files sink disk → (refusal : RestoreRefusal) → Restoring.RestoreCause repo name files disk refusal → of_restore refusal ≡ Refusal.Memory
of_unrestored repo name files sink disk one not_both meets restore.Memory cause = refl
of_unrestored repo name files sink disk one not_both meets restore.Missing cause =
    absurd (not_none (file_at meets.entries (index_name repo)) meets.stands.text meets.stands.there (subst (λ f. IfSome f (λ all. file_at all (index_name repo) ≡ None)) meets.shelf cause))
of_unrestored repo name files sink disk one not_both meets (restore.BadIndex n) cause =
    let bad = subst (λ f. IfSome f (λ all. HasBadIndex all (index_name repo) n)) meets.shelf cause in
    let same : meets.stands.text ≡ bad.text = same_bytes (file_at meets.entries (index_name repo)) meets.stands.text bad.text meets.stands.there bad.there in
    absurd (not_both bad.text meets.rows n (subst (λ (t : List ℕ). IsIndex t meets.rows) same meets.stands.is) bad.bad)
of_unrestored repo name files sink disk one not_both meets (restore.BadPiece piece) cause =
    let wrong = subst (λ f. IfSome f (λ all. (rows : List PieceRow) × Stands all repo rows × (first_wrong all rows ≡ Some piece))) meets.shelf cause in
    let text : wrong.1.text ≡ meets.stands.text = same_bytes (file_at meets.entries (index_name repo)) wrong.1.text meets.stands.text wrong.1.there meets.stands.there in
    let same : wrong.0 ≡ meets.rows = one meets.stands.text wrong.0 meets.rows (subst (λ (t : List ℕ). IsIndex t wrong.0) text wrong.1.is) meets.stands.is in
    absurd (not_none (first_wrong meets.entries meets.rows) piece (subst (λ (rows : List PieceRow). first_wrong meets.entries rows ≡ Some piece) same wrong.2) meets.right)
of_unrestored repo name files sink disk one not_both meets restore.Exists cause =
    absurd ((subst (λ f. IfSome f (λ all. (rows : List PieceRow) × Stands all repo rows × (first_wrong all rows ≡ None) × (file_at all name ≡ None → ⊥))) meets.shelf cause).3 meets.absent)
of_unrestored repo name files sink disk one not_both meets restore.Disk cause = absurd (meets.disk_calm cause)

restore_memory : (repo name : List ℕ) (files now : Option (List Entry)) (sink more disk : Type 0) (old new : Option (List ℕ)) (e : Refusal) → OneIndex → NotBadIndex → (sink → more) → RestoreCause repo name files now sink disk old new e → NoRestoreCause repo name files more disk → e ≡ Refusal.Memory
restore_memory repo name files now sink more disk old new e one not_both wider (inl c) meets = c.0.is ∙ of_unrestored repo name files more disk one not_both meets c.0.refusal c.0.cause
restore_memory repo name files now sink more disk old new e one not_both wider (inr c) meets = of_print sink _ old new (λ rose. meets.sink_calm (wider rose)) e c.printed

-- ---- a pack

of_unpacked : (file : List ℕ) (t : ℕ) (files : Option (List Entry)) (sink disk : Type 0) → NotDamaged → NoPackCause file t files sink disk → (refusal : FilePackRefusal) → Packing.FilePackCause linked file t files disk refusal → of_pack refusal ≡ Refusal.Memory
of_unpacked file t files sink disk law meets pack.Memory cause = refl
of_unpacked file t files sink disk law meets pack.Missing cause =
    absurd (not_none (file_at meets.entries file) meets.bytes meets.there (subst (λ f. IfSome f (λ all. file_at all file ≡ None)) meets.shelf cause))
of_unpacked file t files sink disk law meets (pack.TooLong n) cause =
    let held = subst (λ f. IfSome f (λ all. (bytes : List ℕ) × (file_at all file ≡ Some bytes) × (n ≡ length bytes))) meets.shelf cause.1 in
    let long : n ≡ length meets.bytes = held.2 ∙ ap length (same_bytes (file_at meets.entries file) held.0 meets.bytes held.1 meets.there) in
    absurd (omega (arith, cause.0, long, meets.fits))
of_unpacked file t files sink disk law meets (pack.Damaged kind place) cause =
    let held = subst (λ f. IfSome f (λ all. Packing.HasFile all file (λ bytes. Damaged bytes place kind))) meets.shelf cause in
    let same : held.0 ≡ meets.bytes = same_bytes (file_at meets.entries file) held.0 meets.bytes held.1 meets.there in
    absurd (law meets.bytes meets.front meets.end place kind meets.opens (subst (λ (b : List ℕ). Damaged b place kind) same held.3))
of_unpacked file t files sink disk law meets (pack.Unreadable oid) cause =
    let held = subst (λ f. IfSome f (λ all. Packing.HasFile all file (λ bytes. LacksObject linked bytes t oid))) meets.shelf cause in
    let same : held.0 ≡ meets.bytes = same_bytes (file_at meets.entries file) held.0 meets.bytes held.1 meets.there in
    absurd (meets.readable oid (subst (λ (b : List ℕ). LacksObject linked b t oid) same held.3))
of_unpacked file t files sink disk law meets (pack.Full need limit) cause =
    let held = subst (λ f. IfSome f (λ all. Packing.HasFile all file (λ bytes. PassesLimit linked bytes t need limit))) meets.shelf cause.1 in
    let same : held.0 ≡ meets.bytes = same_bytes (file_at meets.entries file) held.0 meets.bytes held.1 meets.there in
    absurd (meets.within need (subst (λ (n : ℕ). PassesLimit linked meets.bytes t need n) cause.0 (subst (λ (b : List ℕ). PassesLimit linked b t need limit) same held.3)))
of_unpacked file t files sink disk law meets pack.Exists cause =
    absurd ((subst (λ f. IfSome f (λ all. Packing.HasFile all file (Packing.HasPlan linked t) × (file_at all (Packing.pack_name file) ≡ None → ⊥))) meets.shelf cause).1 meets.absent)
of_unpacked file t files sink disk law meets pack.Disk cause = absurd (meets.disk_calm cause)

pack_memory : (file : List ℕ) (t : ℕ) (files now : Option (List Entry)) (sink more disk : Type 0) (old new : Option (List ℕ)) (e : Refusal) → NotDamaged → (sink → more) → PackCause file t files now sink disk old new e → NoPackCause file t files more disk → e ≡ Refusal.Memory
pack_memory file t files now sink more disk old new e law wider (inl c) meets = c.0.is ∙ of_unpacked file t files more disk law meets c.0.refusal c.0.cause
pack_memory file t files now sink more disk old new e law wider (inr c) meets = of_print sink _ old new (λ rose. meets.sink_calm (wider rose)) e c.printed

-- ---- a drawn run

of_drawn : (number : ℕ) (sink : Type 0) → NoDrawnCause number sink → (e : Refusal) → DrawnRunCause number e → e ≡ Refusal.Memory
of_drawn number sink meets Refusal.Memory cause = refl
of_drawn number sink meets (Refusal.BadLine n) cause = absurd (meets.runs n cause.0 cause.1 cause.2)
of_drawn number sink meets Refusal.Usage cause = absurd cause
of_drawn number sink meets Refusal.NotLegible cause = absurd cause
of_drawn number sink meets (Refusal.Damaged kind place) cause = absurd cause
of_drawn number sink meets Refusal.Disk cause = absurd cause
of_drawn number sink meets Refusal.Input cause = absurd cause
of_drawn number sink meets Refusal.Output cause = absurd cause
of_drawn number sink meets Refusal.Missing cause = absurd cause
of_drawn number sink meets Refusal.Exists cause = absurd cause
of_drawn number sink meets Refusal.InputTooLarge cause = absurd cause
of_drawn number sink meets (Refusal.FileTooLarge n) cause = absurd cause
of_drawn number sink meets (Refusal.TooLong n) cause = absurd cause
of_drawn number sink meets (Refusal.Unreadable oid) cause = absurd cause
of_drawn number sink meets Refusal.PackExists cause = absurd cause
of_drawn number sink meets (Refusal.Full need most) cause = absurd cause
of_drawn number sink meets Refusal.MissingIndex cause = absurd cause
of_drawn number sink meets (Refusal.BadIndex n) cause = absurd cause
of_drawn number sink meets (Refusal.BadPiece piece) cause = absurd cause
of_drawn number sink meets Refusal.NamesSpent cause = absurd cause

drawn_memory : (number : ℕ) (sink more : Type 0) (old new : Option (List ℕ)) (e : Refusal) → (sink → more) → DrawnCause number sink old new e → NoDrawnCause number more → e ≡ Refusal.Memory
drawn_memory number sink more old new e wider (inl c) meets = of_drawn number more meets e c.0
drawn_memory number sink more old new e wider (inr c) meets = of_print sink _ old new (λ rose. meets.sink_calm (wider rose)) e c.printed

-- ---- words ask for one thing

asks_one : (o : Option Asked) (a b : Asked) → o ≡ Some a → o ≡ Some b → a ≡ b
asks_one o a b p q = cc

rose_after : (a b c : Counter) → b.count ≤ c.count → Rose a b → Rose a c
rose_after a b c le rose = omega (arith, rose)

-- a command was refused that meets no cause
of_command : (asked : Asked) (old mid : OutsideView) (line : Option (List ℕ)) (sink : Counter) (e : Refusal) → Laws → mid.sink.count ≤ sink.count → CauseOf asked old mid e → NoCauseOf asked old (told mid line sink) → e ≡ Refusal.Memory
of_command (Init file name password) old mid line sink e laws later cause meets =
    make_memory file name password old.files (SinkFailed old mid) (Rose old.sink sink) (DiskFailed old mid) old.written mid.written e (rose_after old.sink mid.sink sink later) cause meets
of_command (Replay file limit) old mid line sink e laws later cause meets =
    replay_memory Broke file limit old.files old.input (SourceFailed old mid) (SinkFailed old mid) (Rose old.sink sink) (DiskFailed old mid) old.written mid.written e laws.schedule laws.line laws.opening (rose_after old.sink mid.sink sink later) cause meets
of_command (Serve file port connections clients record_) old mid line sink e laws later (inl c) meets =
    c.0.is ∙ of_served_file old.files file record_ (HubFailed old mid) (Rose old.sink sink) (ShelfFailed old mid) (old.sound_disks → ⊥) meets laws.opening c.0.refusal c.0.cause
of_command (Serve file port connections clients record_) old mid line sink e laws later (inr c) meets =
    of_print (SinkFailed old mid) _ old.written mid.written (λ rose. meets.sink_calm (rose_after old.sink mid.sink sink later rose)) e c.printed
of_command (Check file) old mid line sink e laws later cause meets =
    check_memory file old.files (SinkFailed old mid) (Rose old.sink sink) (DiskFailed old mid) old.written mid.written e laws.opening (rose_after old.sink mid.sink sink later) cause meets
of_command (Dump file) old mid line sink e laws later cause meets =
    dump_memory file old.files (SinkFailed old mid) (Rose old.sink sink) (DiskFailed old mid) old.written mid.written e laws.opening (rose_after old.sink mid.sink sink later) cause meets
of_command (Backup file repo full) old mid line sink e laws later cause meets =
    backup_memory file repo full old.files mid.files (SinkFailed old mid) (Rose old.sink sink) (DiskFailed old mid) old.written mid.written e laws.opening (rose_after old.sink mid.sink sink later) cause meets
of_command (Restore repo name) old mid line sink e laws later cause meets =
    restore_memory repo name old.files mid.files (SinkFailed old mid) (Rose old.sink sink) (DiskFailed old mid) old.written mid.written e laws.index laws.row (rose_after old.sink mid.sink sink later) cause meets
of_command (Pack file before) old mid line sink e laws later cause meets =
    pack_memory file before old.files mid.files (SinkFailed old mid) (Rose old.sink sink) (DiskFailed old mid) old.written mid.written e laws.opening (rose_after old.sink mid.sink sink later) cause meets
of_command (Serial file limit) old mid line sink e laws later cause meets =
    replay_memory BrokeAlone file limit old.files old.input (SourceFailed old mid) (SinkFailed old mid) (Rose old.sink sink) (DiskFailed old mid) old.written mid.written e laws.schedule laws.line laws.opening (rose_after old.sink mid.sink sink later) cause meets
of_command (Gen number) old mid line sink e laws later cause meets =
    drawn_memory number (SinkFailed old mid) (Rose old.sink sink) old.written mid.written e (rose_after old.sink mid.sink sink later) cause meets

pub only_memory : (words : List (List ℕ)) (old mid : OutsideView) (line : Option (List ℕ)) (sink : Counter) (e : Refusal) → Laws → mid.sink.count ≤ sink.count → Cause words old mid e → NoCause words old (told mid line sink) → e ≡ Refusal.Memory
only_memory words old mid line sink e laws later (inl c) meets = of_words words e (meets.0, meets.1) c.0
only_memory words old mid line sink e laws later (inr c) meets =
    of_command meets.0 old mid line sink e laws later (subst (λ (a : Asked). CauseOf a old mid e) (asks_one (asked_of words) c.0 meets.0 c.1 meets.1) c.2) meets.2

calm_sink : (asked : Asked) (old new : OutsideView) → NoCauseOf asked old new → SinkFailed old new → ⊥
calm_sink (Init file name password) old new meets = meets.sink_calm
calm_sink (Replay file limit) old new meets = meets.sink_calm
calm_sink (Serve file port connections clients record_) old new meets = meets.sink_calm
calm_sink (Check file) old new meets = meets.sink_calm
calm_sink (Dump file) old new meets = meets.sink_calm
calm_sink (Backup file repo full) old new meets = meets.sink_calm
calm_sink (Restore repo name) old new meets = meets.sink_calm
calm_sink (Pack file before) old new meets = meets.sink_calm
calm_sink (Serial file limit) old new meets = meets.sink_calm
calm_sink (Gen number) old new meets = meets.sink_calm

pub sink_is_calm : (words : List (List ℕ)) (old new : OutsideView) → NoCause words old new → SinkFailed old new → ⊥
sink_is_calm words old new meets = calm_sink meets.0 old new meets.2
