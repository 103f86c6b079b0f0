-- What a dump of a file printed, or why it did not end well.
--
-- The order of looking is: the shelf; the file's size; its reading; the printing.
use Rattle.std.specs.Prelude.{◌≡◌, ℕ, ◌<◌, List, Option}
use Rattle.zio.specs.Shelves.{Entry}
use Rattle.fs_record.specs.Opening.{Damaged}
use Rattle.fs_store.specs.Stores.{most_length}
use Rattle.replay.specs.Dumped.{Dumps}
use Rattle.replay.specs.declared.dumping.DumpRefusal.{DumpRefusal}
use Rattle.zope.specs.declared.refusal.Refusal.{Refusal}
use Rattle.zope.specs.Given.{IfKept}
use Rattle.zope.specs.Shelved.{IsLength, IsMissing, IsPresent}

-- where the shelf tells, that file opens to a history, by whose lines the sink grew
abbrev pub Dumped : (name : List ℕ) (files : Option (List Entry)) (old new : Option (List ℕ)) → Type 0
Dumped name files old new = IfKept files name (λ bytes. Dumps bytes old new)

-- what a dump is refused for; where that is the file, nothing was written before
abbrev pub DumpCause : (name : List ℕ) (files : Option (List Entry)) (sink disk : Type 0) (old new : Option (List ℕ)) → Refusal → Type 0
DumpCause name files sink disk old new Refusal.Missing = IsMissing files name × (new ≡ old)
DumpCause name files sink disk old new (Refusal.TooLong n) = (most_length < n) × IsLength files name n × (new ≡ old)
DumpCause name files sink disk old new (Refusal.Damaged kind place) = IfKept files name (λ bytes. Damaged bytes place kind × (new ≡ old))
DumpCause name files sink disk old new Refusal.Disk = disk × IsPresent files name
DumpCause name files sink disk old new Refusal.Output = sink
DumpCause name files sink disk old new Refusal.Memory = Unit {0}
DumpCause name files sink disk old new _ = ⊥

-- a refusal of a dump, as one of the command
abbrev pub of_dump : DumpRefusal → Refusal
of_dump (DumpRefusal.Damaged kind place) = Refusal.Damaged kind place
of_dump DumpRefusal.Disk = Refusal.Disk
of_dump DumpRefusal.Output = Refusal.Output
of_dump DumpRefusal.Memory = Refusal.Memory

-- what a dump may be refused for
abbrev pub IsOfDump : Refusal → Type 0
IsOfDump Refusal.Missing = Unit {0}
IsOfDump (Refusal.Damaged kind place) = Unit {0}
IsOfDump (Refusal.TooLong n) = Unit {0}
IsOfDump Refusal.Disk = Unit {0}
IsOfDump Refusal.Output = Unit {0}
IsOfDump Refusal.Memory = Unit {0}
IsOfDump _ = ⊥
