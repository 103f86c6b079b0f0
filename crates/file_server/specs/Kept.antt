-- What a server leaves of a shelf, the site's file and the tape, and why it may be refused.
--
-- The order of looking is: the site's file is there; the tape's isn't, and is made; the length of the file, and its opening; the run.
use Rattle.std.specs.Prelude.{◌≡◌, ◌⊎◌, ◌++◌, ◌≤◌, ◌<◌, ⊤, ℕ, List, [], length, IfSome, MatchOption, Option, None, Some}
use Rattle.std.specs.Option.{option_map}
use Rattle.zbase.specs.Faults.{Counter}
use Rattle.zbase.specs.History.{History}
use Rattle.zdisk.specs.Disk.{Told, content}
use Rattle.zio.specs.Clocks.{Tick}
use Rattle.zio.specs.Hubs.{Peers}
use Rattle.zio.specs.Shelves.{Entry, file_at}
use Rattle.evaluator.specs.Exec.{Eval}
use Rattle.fs_record.specs.Opening.{Damaged}
use Rattle.http_clients.specs.Arriving.{Tells}
use Rattle.schedule.specs.Items.{IsSchedule}
use Rattle.fs_store.specs.Moments.{OpensTo}
use Rattle.fs_store.specs.Stores.{most_length}
use Rattle.zserve.specs.Happened.{Happening, items}
use Rattle.zserve.specs.Served.{RefusedTold, RunTold}
use Rattle.zserve.specs.Taping.{Taped}
use Rattle.file_server.specs.Opening.{LeavesFile}
use Rattle.file_server.specs.Refusals.{Comes}
use Rattle.file_server.specs.Running.{Runs}
use Rattle.file_server.specs.Shelved.{IsThere, KeepsBeside}
use Rattle.file_server.specs.declared.refusal.FileRefusal.{FileRefusal}

-- ---- served

-- These happened over the site's file, which is left so; the tape is a schedule of them.
pub record KeepsRun {R : Type 0} (sound : Type 0) (takes : List ℕ → Option R) (eval : Eval R) (file record_ : List ℕ) (all : List Happening) (entries : List Entry) (now : Option (List Entry)) : Type 0 where
  pub bytes : List ℕ
  pub there : file_at entries file ≡ Some bytes
  pub left : List ℕ
  pub runs : Runs sound takes eval all bytes left
  pub tape : List ℕ
  pub spells : IsSchedule tape (items all)
  pub kept : KeepsBeside entries file left record_ tape now

-- A server did what its plan says, where the shelf and the hub tell.
pub record FileServed {R : Type 0} (sound : Type 0) (takes : List ℕ → Option R) (eval : Eval R) (file record_ : List ℕ) (port connections most : ℕ) (files files' : Option (List Entry)) (ticks : Option (List Tick)) (counter : Counter) (ticks' : Option (List Tick)) (counter' : Counter) (hub hub' : Option Peers) (accepted replies : ℕ) : Type 0 where
  pub all : List Happening
  pub told : Tells hub hub' (RunTold port connections most all ticks counter ticks' counter' accepted replies)
  pub kept : MatchOption files (files' ≡ None) (λ entries. KeepsRun sound takes eval file record_ all entries files')

-- ---- refused

-- What it is refused for. The hub, the shelf and the disks have their counts.
abbrev pub FileCause : (file record_ : List ℕ) → Option (List Entry) → (hub shelf disks : Type 0) → FileRefusal → Type 0
FileCause file record_ files hub shelf disks FileRefusal.Missing = IfSome files (λ entries. file_at entries file ≡ None)
FileCause file record_ files hub shelf disks FileRefusal.Exists = IfSome files (λ entries. IsThere entries file × IsThere entries record_)
FileCause file record_ files hub shelf disks (FileRefusal.TooLong n) =
    (most_length < n) × IfSome files (λ entries. (file_at entries record_ ≡ None) × (option_map length (file_at entries file) ≡ Some n))
FileCause file record_ files hub shelf disks (FileRefusal.Damaged kind place) =
    IfSome files (λ entries. (file_at entries record_ ≡ None) × (bytes : List ℕ) × (file_at entries file ≡ Some bytes) × (length bytes ≤ most_length) × Damaged bytes place kind)
FileCause file record_ files hub shelf disks FileRefusal.Hub =
    hub × IfSome files (λ entries. (file_at entries record_ ≡ None) × (bytes : List ℕ) × (file_at entries file ≡ Some bytes) × (h : History) × (end : ℕ) × OpensTo bytes h end)
FileCause file record_ files hub shelf disks FileRefusal.Disk =
    IfSome files (λ entries. IsThere entries file) × (shelf ⊎ (disks × IfSome files (λ entries. file_at entries record_ ≡ None)))
FileCause file record_ files hub shelf disks FileRefusal.Memory = Unit {0}

-- before there was a tape: no file has changed, and the hub wasn't asked for anything
abbrev pub Untouched : Option (List Entry) → Option (List Entry) → Option Peers → Option Peers → Type 0
Untouched files files' hub hub' = (files' ≡ files) × (hub' ≡ hub)

-- while the file was opened: the tape is empty, and the hub wasn't asked for anything
abbrev pub KeepsUnopened : (file record_ : List ℕ) → FileRefusal → List Entry → Option (List Entry) → Type 0
KeepsUnopened file record_ refusal entries now =
    (bytes : List ℕ) × (left : List ℕ) × (file_at entries file ≡ Some bytes) × KeepsBeside entries file left record_ [] now × LeavesFile refusal bytes left

abbrev pub NotOpened : (file record_ : List ℕ) → Option (List Entry) → Option (List Entry) → Option Peers → Option Peers → FileRefusal → Type 0
NotOpened file record_ files files' hub hub' refusal = (hub' ≡ hub) × MatchOption files (files' ≡ None) (λ entries. KeepsUnopened file record_ refusal entries files')

-- the tape's bytes are those of a disk on which a server that was refused left it
abbrev pub HasTape : (failed : Type 0) → (all more : List Happening) → List ℕ → Type 0
HasTape failed all more bytes = (told : Told) × (content told ≡ bytes) × Taped failed all more told

-- While it was served, and these happened: the site's file is left so, and the tape has what stands of them. It may be torn only where
-- a disk failed.
pub record LeavesRun {R : Type 0} (sound : Type 0) (takes : List ℕ → Option R) (eval : Eval R) (file record_ : List ℕ) (failed : Type 0) (all more : List Happening) (entries : List Entry) (now : Option (List Entry)) : Type 0 where
  pub bytes : List ℕ
  pub there : file_at entries file ≡ Some bytes
  pub left : List ℕ
  pub runs : Runs sound takes eval (all ++ more) bytes left
  pub tape : List ℕ
  pub taped : HasTape failed all more tape
  pub kept : KeepsBeside entries file left record_ tape now

-- There was no memory to give both disks back: the shelf tells of one of them at most.
pub record LosesRun {R : Type 0} (sound : Type 0) (takes : List ℕ → Option R) (eval : Eval R) (file record_ : List ℕ) (all more : List Happening) (entries : List Entry) (now : Option (List Entry)) : Type 0 where
  pub bytes : List ℕ
  pub there : file_at entries file ≡ Some bytes
  pub held : List ℕ
  pub runs : Runs sound takes eval (all ++ more) bytes held
  pub text : List ℕ
  pub taped : HasTape ⊤ all more text
  pub left : List ℕ
  pub tape : List ℕ
  pub one : ((left ≡ held) × (tape ≡ [])) ⊎ ((left ≡ bytes) × ((tape ≡ text) ⊎ (tape ≡ [])))
  pub kept : KeepsBeside entries file left record_ tape now

abbrev pub KeepsPart : {R : Type 0} → (sound : Type 0) → (List ℕ → Option R) → Eval R → (file record_ : List ℕ) → (all more : List Happening) → FileRefusal → List Entry → Option (List Entry) → Type 0
KeepsPart sound takes eval file record_ all more refusal entries now =
    LeavesRun sound takes eval file record_ (refusal ≡ FileRefusal.Disk) all more entries now
    ⊎ ((refusal ≡ FileRefusal.Memory) × LosesRun sound takes eval file record_ all more entries now)

-- while it was served: whole rounds, and what happened behind them
pub record NotFinished {R : Type 0} (sound : Type 0) (takes : List ℕ → Option R) (eval : Eval R) (file record_ : List ℕ) (port connections most : ℕ) (files files' : Option (List Entry)) (ticks : Option (List Tick)) (counter : Counter) (hub hub' : Option Peers) (refusal : FileRefusal) : Type 0 where
  pub all : List Happening
  pub more : List Happening
  pub told : Tells hub hub' (RefusedTold port connections most all ticks counter)
  pub kept : MatchOption files (files' ≡ None) (λ entries. KeepsPart sound takes eval file record_ all more refusal entries files')

-- A server was refused: what is left, by when.
abbrev pub FileRefused : {R : Type 0} → (sound : Type 0) → (List ℕ → Option R) → Eval R → (file record_ : List ℕ) → (port connections most : ℕ) → Option (List Entry) → Option (List Entry) → Option (List Tick) → Counter → Option Peers → Option Peers → FileRefusal → Type 0
FileRefused sound takes eval file record_ port connections most files files' ticks counter hub hub' refusal =
    Comes refusal (Untouched files files' hub hub') (NotOpened file record_ files files' hub hub' refusal)
    (NotFinished sound takes eval file record_ port connections most files files' ticks counter hub hub' refusal)
