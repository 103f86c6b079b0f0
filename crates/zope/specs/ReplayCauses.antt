-- Why a run of a schedule over a file, whole or its requests one after another, did not end well, and what it wrote before its last line.
--
-- The order of looking is: the input whole, its size, its grammar; the shelf; the file's size; its opening; the run.
use Rattle.std.specs.Prelude.{◌≡◌, ◌⊎◌, ℕ, ◌≤◌, ◌<◌, List, length, IfSome, Option, Some}
use Rattle.zio.specs.Shelves.{Entry, file_at}
use Rattle.fs_record.specs.File.{Front}
use Rattle.fs_record.specs.Opening.{Cut, Damaged}
use Rattle.schedule.specs.declared.item.Item2.{Item2}
use Rattle.schedule.specs.BadLines.{IsBadAt}
use Rattle.schedule.specs.Items.{IsSchedule}
use Rattle.schedule.specs.declared.reader.ScheduleRefusal.{ScheduleRefusal}
use Rattle.zope.specs.declared.refusal.FileRefusal.{FileRefusal}
use Rattle.zope.specs.declared.refusal.InputRefusal.{InputRefusal}
use Rattle.zope.specs.declared.refusal.Refusal.{Refusal}
use Rattle.http_in.specs.Messages.{one_message}
use Rattle.publisher.specs.Site.{site}
use Rattle.replay.specs.declared.refusal.RunRefusal.{RunRefusal}
use Rattle.replay.specs.Replayed.{AreOpened, Breaks}
use Rattle.replay.specs.Serials.{BreaksAlone}
use Rattle.site_links.specs.Linked.{linked}
use Rattle.zope.specs.Given.{Scheduled, Stored, most_file, most_input}
use Rattle.zope.specs.Shelved.{IsLength, IsMissing, IsPresent}

-- what the input is refused for; a source that failed has its count
abbrev pub InputCause : Option (List ℕ) → Type 0 → Refusal → Type 0
InputCause input failed Refusal.Input = failed
InputCause input failed Refusal.InputTooLarge = IfSome input (λ text. most_input < length text)
InputCause input failed (Refusal.BadLine n) = IfSome input (λ text. (length text ≤ most_input) × IsBadAt text n)
InputCause input failed Refusal.Memory = Unit {0}
InputCause input failed _ = ⊥

-- what the file is refused for
abbrev pub FileCause : Option (List Entry) → List ℕ → Type 0 → Refusal → Type 0
FileCause files name failed Refusal.Missing = IsMissing files name
FileCause files name failed (Refusal.FileTooLarge n) = (most_file < n) × IsLength files name n
FileCause files name failed Refusal.Disk = failed × IsPresent files name
FileCause files name failed Refusal.Memory = Unit {0}
FileCause files name failed _ = ⊥

-- how a run over bytes is broken off at the line of a number
abbrev pub Breaking : Type 1
Breaking = (limit : ℕ) → (bytes : List ℕ) → (items : List Item2) → (old new : Option (List ℕ)) → ℕ → Type 0

-- a replay was broken off
abbrev pub Broke : Breaking
Broke limit bytes items old new n = Breaks one_message site linked limit bytes items n old new

-- a run of the requests one after another was
abbrev pub BrokeAlone : Breaking
BrokeAlone limit bytes items old new n = BreaksAlone one_message site linked limit bytes items n old new

-- what a run over these bytes is refused for; where that is their damage, nothing was written
abbrev pub RunCause : (broke : Breaking) (limit : ℕ) (bytes : List ℕ) (items : List Item2) (failed : Type 0) (old new : Option (List ℕ)) → Refusal → Type 0
RunCause broke limit bytes items failed old new (Refusal.Damaged kind place) = Damaged bytes place kind × (new ≡ old)
RunCause broke limit bytes items failed old new (Refusal.BadLine n) = broke limit bytes items old new n
RunCause broke limit bytes items failed old new Refusal.Output = failed × AreOpened bytes
RunCause broke limit bytes items failed old new Refusal.Memory = Unit {0}
RunCause broke limit bytes items failed old new _ = ⊥

-- The cause of a refusal: of the input, of the file, or of the run over its bytes. Until the run nothing is written.
abbrev pub ReplayCause : (broke : Breaking) (name : List ℕ) (limit : ℕ) (files : Option (List Entry)) (input : Option (List ℕ)) (source sink disk : Type 0) (old new : Option (List ℕ)) → Refusal → Type 0
ReplayCause broke name limit files input source sink disk old new e =
    (InputCause input source e × (new ≡ old))
    ⊎ (((items : List Item2) × Scheduled input items × FileCause files name disk e × (new ≡ old))
    ⊎ ((items : List Item2) × Scheduled input items × (bytes : List ℕ) × Stored files name bytes × RunCause broke limit bytes items sink old new e))

-- a refusal of a part, as one of the command

abbrev pub of_input : InputRefusal → Refusal
of_input InputRefusal.TooLarge = Refusal.InputTooLarge
of_input InputRefusal.Failed = Refusal.Input
of_input InputRefusal.Memory = Refusal.Memory

abbrev pub of_schedule : ScheduleRefusal → Refusal
of_schedule (ScheduleRefusal.BadLine n) = Refusal.BadLine n
of_schedule ScheduleRefusal.Memory = Refusal.Memory

abbrev pub of_file : FileRefusal → Refusal
of_file FileRefusal.Missing = Refusal.Missing
of_file (FileRefusal.TooLarge n) = Refusal.FileTooLarge n
of_file FileRefusal.Disk = Refusal.Disk
of_file FileRefusal.Memory = Refusal.Memory

abbrev pub of_run : RunRefusal → Refusal
of_run (RunRefusal.Damaged kind place) = Refusal.Damaged kind place
of_run (RunRefusal.BadLine n) = Refusal.BadLine n
of_run RunRefusal.Output = Refusal.Output
of_run RunRefusal.Memory = Refusal.Memory

-- Nothing that a run looks at is a cause: the file is there, opens and isn't too long; the input spells a schedule
-- that isn't too long, each line of which can be run; and no count rose.
pub record NoReplayCause (broke : Breaking) (name : List ℕ) (limit : ℕ) (files : Option (List Entry)) (input : Option (List ℕ)) (source sink disk : Type 0) : Type 0 where
  pub entries : List Entry
  pub shelf : files ≡ Some entries
  pub bytes : List ℕ
  pub there : file_at entries name ≡ Some bytes
  pub fits : length bytes ≤ most_file
  pub front : Front
  pub end : ℕ
  pub opens : Cut bytes front end
  pub text : List ℕ
  pub given : input ≡ Some text
  pub within : length text ≤ most_input
  pub items : List Item2
  pub spells : IsSchedule text items
  -- whatever report the lines before it may have, a line's request is one message and comes to a free worker
  pub runs : (n : ℕ) (old new : Option (List ℕ)) → broke limit bytes items old new n → ⊥
  pub source_calm : source → ⊥
  pub sink_calm : sink → ⊥
  pub disk_calm : disk → ⊥
