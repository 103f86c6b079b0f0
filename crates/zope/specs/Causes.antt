-- What a command did, or why it did not end well, and its last line.
use Rattle.std.specs.Prelude.{◌≡◌, ◌⊎◌, ◌≤◌, ℕ, List, [], ◌∷◌, ◌++◌, Option, Some, codes, decimal}
use Rattle.std.specs.Io.KnownBytes.{append_known}
use Rattle.zbase.specs.Faults.{Counter}
use Rattle.zbase.specs.Hex.{hex16_text}
use Rattle.zio.specs.Shelves.{Entry}
use Rattle.fs_record.specs.Damages.{kind_number}
use Rattle.words.specs.Asking.{Asked, Backup, Check, Dump, Gen, Init, Pack, Replay, Restore, Serial, Serve, asked_of}
use Rattle.zope.specs.declared.refusal.Refusal.{Refusal}
use Rattle.zope.specs.BackupCauses.{BackupCause, FileBackedUp, LeavesBackup, NoBackupCause}
use Rattle.zope.specs.CheckCauses.{CheckCause}
use Rattle.zope.specs.Drawn.{Drawn, DrawnCause, NoDrawnCause}
use Rattle.zope.specs.DumpCauses.{DumpCause, Dumped}
use Rattle.zope.specs.Given.{IsSound, most_input}
use Rattle.zope.specs.MakeCauses.{LeavesNew, Made, MakeCause, NoMakeCause}
use Rattle.zope.specs.Numbers.{NumbersPrinted}
use Rattle.zope.specs.PackCauses.{FilePacked, LeavesPacked, NoPackCause, PackCause}
use Rattle.zope.specs.Outside.{DiskFailed, HubFailed, OutsideView, ShelfFailed, SinkFailed, SourceFailed, told}
use Rattle.zope.specs.ReplayCauses.{Broke, BrokeAlone, NoReplayCause, ReplayCause}
use Rattle.zope.specs.Replayed.{RanAlone, Replayed}
use Rattle.zope.specs.RestoreCauses.{FileRestored, LeavesRestored, NoRestoreCause, RestoreCause}
use Rattle.zope.specs.ServeCauses.{LeavesServed, NoServeCause, ServeCause, SiteServed}
use Rattle.zope.specs.Words.{IsCommand, IsNamed}

-- what a command that ended well did
abbrev pub DidAs : Asked → OutsideView → OutsideView → Type 0
DidAs (Init file name password) old new = Made file name password old.files new.files old.ticks old.clock new.clock old.written new.written
DidAs (Replay file limit) old new = Replayed file limit old.files old.input old.written new.written
DidAs (Serve file port connections clients record_) old new =
    SiteServed old.sound_disks file record_ port connections clients old.files new.files old.ticks old.clock new.ticks new.clock old.peers new.peers old.written new.written
DidAs (Check file) old new = NumbersPrinted file old.files old.written new.written
DidAs (Dump file) old new = Dumped file old.files old.written new.written
DidAs (Backup file repo full) old new = FileBackedUp file repo full old.files new.files new.lasts old.written new.written
DidAs (Restore repo name) old new = FileRestored repo name old.files new.files old.written new.written
DidAs (Pack file before) old new = FilePacked file before old.files new.files new.lasts old.written new.written
DidAs (Serial file limit) old new = RanAlone file limit old.files old.input old.written new.written
DidAs (Gen number) old new = Drawn number old.written new.written

abbrev pub Did : List (List ℕ) → OutsideView → OutsideView → Type 0
Did words old new = (asked : Asked) × (asked_of words ≡ Some asked) × DidAs asked old new

-- What a command leaves in the files, however it ends, where the shelf tells: each that was there, as it was, and nothing else, but for
-- the new site that was asked for, the site that was served and its record, a backup's piece and index, the file that is restored, or
-- the packed file in the place of the old one, or a part of it beside.
abbrev pub LeavesBy : Asked → Option (List Entry) → Option (List Entry) → Type 0
LeavesBy (Init file name password) old new = LeavesNew file name password old new
LeavesBy (Serve file port connections clients record_) old new = LeavesServed file record_ old new
LeavesBy (Backup file repo full) old new = LeavesBackup file repo full old new
LeavesBy (Restore repo name) old new = LeavesRestored name old new
LeavesBy (Pack file before) old new = LeavesPacked file before old new
LeavesBy _ old new = new ≡ old

abbrev pub LeavesFiles : List (List ℕ) → Option (List Entry) → Option (List Entry) → Type 0
LeavesFiles words old new = (new ≡ old) ⊎ ((asked : Asked) × (asked_of words ≡ Some asked) × LeavesBy asked old new)

-- what the words are refused for
abbrev pub WordsCause : List (List ℕ) → Refusal → Type 0
WordsCause words Refusal.Usage = IsCommand words → ⊥
WordsCause words Refusal.Memory = Unit {0}
WordsCause words _ = ⊥

-- the cause of a refusal of a command
abbrev pub CauseOf : Asked → OutsideView → OutsideView → Refusal → Type 0
CauseOf (Init file name password) old new e = MakeCause file name password old.files (SinkFailed old new) (DiskFailed old new) old.written new.written e
CauseOf (Replay file limit) old new e = ReplayCause Broke file limit old.files old.input (SourceFailed old new) (SinkFailed old new) (DiskFailed old new) old.written new.written e
CauseOf (Serve file port connections clients record_) old new e =
    ServeCause old.sound_disks file record_ port connections clients old.files new.files old.ticks old.clock new.ticks new.clock old.peers new.peers (HubFailed old new) (SinkFailed old new) (ShelfFailed old new) old.written new.written e
CauseOf (Check file) old new e = CheckCause file old.files (SinkFailed old new) (DiskFailed old new) old.written new.written e
CauseOf (Dump file) old new e = DumpCause file old.files (SinkFailed old new) (DiskFailed old new) old.written new.written e
CauseOf (Backup file repo full) old new e =
    BackupCause file repo full old.files new.files (SinkFailed old new) (DiskFailed old new) old.written new.written e
CauseOf (Restore repo name) old new e =
    RestoreCause repo name old.files new.files (SinkFailed old new) (DiskFailed old new) old.written new.written e
CauseOf (Pack file before) old new e =
    PackCause file before old.files new.files (SinkFailed old new) (DiskFailed old new) old.written new.written e
CauseOf (Serial file limit) old new e =
    ReplayCause BrokeAlone file limit old.files old.input (SourceFailed old new) (SinkFailed old new) (DiskFailed old new) old.written new.written e
CauseOf (Gen number) old new e = DrawnCause number (SinkFailed old new) old.written new.written e

-- the cause of a refusal, at the moment before the last line: of the words, or of what they ask for
abbrev pub Cause : List (List ℕ) → OutsideView → OutsideView → Refusal → Type 0
Cause words old new e = (WordsCause words e × (new.written ≡ old.written)) ⊎ ((asked : Asked) × (asked_of words ≡ Some asked) × CauseOf asked old new e)

abbrev pub unreadable_line : ℕ → List ℕ
unreadable_line oid = codes "unreadable " ++ (hex16_text oid ++ 10 ∷ [])

-- the last line, which names the cause
abbrev pub last_line : List ℕ → Refusal → List ℕ
last_line name Refusal.Usage = codes "usage" ++ 10 ∷ []
last_line name Refusal.NotLegible = codes "not legible" ++ 10 ∷ []
last_line name (Refusal.Damaged kind place) = codes "damaged " ++ (decimal (kind_number kind) ++ (codes " at " ++ (decimal place ++ 10 ∷ [])))
last_line name (Refusal.BadLine n) = codes "bad line " ++ decimal n ++ 10 ∷ []
last_line name Refusal.Disk = codes "disk fault" ++ 10 ∷ []
last_line name Refusal.Input = codes "input fault" ++ 10 ∷ []
last_line name Refusal.Output = []
last_line name Refusal.Memory = codes "out of memory" ++ 10 ∷ []
last_line name Refusal.Missing = codes "missing " ++ name ++ 10 ∷ []
last_line name Refusal.Exists = codes "exists " ++ name ++ 10 ∷ []
last_line name Refusal.InputTooLarge = codes "too large " ++ decimal most_input ++ 10 ∷ []
last_line name (Refusal.FileTooLarge n) = codes "too large " ++ decimal n ++ 10 ∷ []
last_line name (Refusal.TooLong n) = codes "too long " ++ decimal n ++ 10 ∷ []
last_line name (Refusal.Unreadable oid) = unreadable_line oid
last_line name Refusal.PackExists = codes "exists " ++ (name ++ (codes ".pack" ++ 10 ∷ []))
last_line name (Refusal.Full need limit) = codes "full " ++ (decimal need ++ (32 ∷ (decimal limit ++ 10 ∷ [])))
last_line name Refusal.MissingIndex = codes "missing " ++ (name ++ (codes ".dat" ++ 10 ∷ []))
last_line name (Refusal.BadIndex n) = codes "bad index " ++ decimal n ++ 10 ∷ []
last_line name (Refusal.BadPiece piece) = codes "bad piece " ++ piece ++ 10 ∷ []
last_line name Refusal.NamesSpent = codes "names spent" ++ 10 ∷ []

-- the last line was written; only `missing` and `exists` name a file of the words, the index of their repository, or the packed file
abbrev pub Names : List (List ℕ) → Refusal → Option (List ℕ) → Option (List ℕ) → Type 0
Names words e mid new = (name : List ℕ) × (IsNamed words e name ⊎ (IsCommand words → ⊥)) × (new ≡ append_known mid (last_line name e))

-- the refusal has its cause, at the moment before the last line, and was named in that line
abbrev pub Comes : List (List ℕ) → OutsideView → OutsideView → Refusal → Type 0
Comes words old new e = (written : Option (List ℕ)) × (sink : Counter) × (sink.count ≤ new.sink.count) × Cause words old (told new written sink) e × Names words e written new.written

-- nothing that the command looks at is a cause, and no count rose
abbrev pub NoCauseOf : Asked → OutsideView → OutsideView → Type 0
NoCauseOf (Init file name password) old new = NoMakeCause file name password old.files (SinkFailed old new) (DiskFailed old new)
NoCauseOf (Replay file limit) old new = NoReplayCause Broke file limit old.files old.input (SourceFailed old new) (SinkFailed old new) (DiskFailed old new)
NoCauseOf (Serve file port connections clients record_) old new = NoServeCause file record_ old.files (HubFailed old new) (SinkFailed old new) (DiskFailed old new)
NoCauseOf (Check file) old new = IsSound file old.files (SinkFailed old new) (DiskFailed old new)
NoCauseOf (Dump file) old new = IsSound file old.files (SinkFailed old new) (DiskFailed old new)
NoCauseOf (Backup file repo full) old new = NoBackupCause file repo old.files (SinkFailed old new) (DiskFailed old new)
NoCauseOf (Restore repo name) old new = NoRestoreCause repo name old.files (SinkFailed old new) (DiskFailed old new)
NoCauseOf (Pack file before) old new = NoPackCause file before old.files (SinkFailed old new) (DiskFailed old new)
NoCauseOf (Serial file limit) old new = NoReplayCause BrokeAlone file limit old.files old.input (SourceFailed old new) (SinkFailed old new) (DiskFailed old new)
NoCauseOf (Gen number) old new = NoDrawnCause number (SinkFailed old new)

abbrev pub NoCause : List (List ℕ) → OutsideView → OutsideView → Type 0
NoCause words old new = (asked : Asked) × (asked_of words ≡ Some asked) × NoCauseOf asked old new
