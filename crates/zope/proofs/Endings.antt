-- How a run ends whose command was refused.
use Rattle.std.proofs.Common.{◌≡◌, ℕ, ◌≤◌, ◌<◌, List, Option, ◌⊎◌, Bool, true, false, nat_lt, arith, inl, inr, refl, ◌∙◌, ap}
use Rattle.std.proofs.lemmas.Bool.Decides.{nat_tests}
use Rattle.std.specs.Io.KnownBytes.{append_known}
use Rattle.zbase.specs.Faults.{Counter, Rose}
use Rattle.zope.specs.declared.refusal.Refusal.{Refusal}
use Rattle.backups.specs.declared.refusal.BackupRefusal.{BackupRefusal}
use Rattle.backups.specs.declared.refusal.BackupRefusal.TheVariants as backup
use Rattle.backups.specs.declared.refusal.RestoreRefusal.{RestoreRefusal}
use Rattle.backups.specs.declared.refusal.RestoreRefusal.TheVariants as restore
use Rattle.file_server.specs.declared.refusal.FileRefusal.{FileRefusal}
use Rattle.words.specs.Asking.{Asked, Backup, Check, Dump, Gen, Init, Pack, Replay, Restore, Serial, Serve}
use Rattle.zope.specs.BackupCauses.{of_backup}
use Rattle.zope.specs.Causes.{Cause, CauseOf, Names, NoCause, last_line}
use Rattle.zope.specs.Ends.{Ends, status_of}
use Rattle.zope.specs.Outside.{OutsideView, SinkFailed, told}
use Rattle.file_packer.specs.declared.refusal.FilePackRefusal.{FilePackRefusal}
use Rattle.file_packer.specs.declared.refusal.FilePackRefusal.TheVariants as pack
use Rattle.zope.specs.PackCauses.{of_pack}
use Rattle.zope.specs.RestoreCauses.{of_restore}
use Rattle.zope.specs.ServeCauses.{of_served}
use Rattle.zope.specs.Words.{IsCommand, IsNamed}
use Rattle.zope.proofs.Commands.{some_name}
use Rattle.zope.proofs.NoCauses.{Laws, only_memory, sink_is_calm}

-- no refusal of a server is the sink's
not_sinks : (refusal : FileRefusal) → Refusal.Output ≡ of_served refusal → ⊥
not_sinks FileRefusal.Missing is = cc
not_sinks FileRefusal.Exists is = cc
not_sinks (FileRefusal.TooLong n) is = cc
not_sinks (FileRefusal.Damaged kind place) is = cc
not_sinks FileRefusal.Disk is = cc
not_sinks FileRefusal.Hub is = cc
not_sinks FileRefusal.Memory is = cc

-- and none of a backup, of a restore or of a pack
not_backups : (refusal : BackupRefusal) → Refusal.Output ≡ of_backup refusal → ⊥
not_backups backup.Missing is = cc
not_backups (backup.TooLong n) is = cc
not_backups (backup.Damaged kind place) is = cc
not_backups backup.NamesSpent is = cc
not_backups backup.Disk is = cc
not_backups backup.Memory is = cc

not_restores : (refusal : RestoreRefusal) → Refusal.Output ≡ of_restore refusal → ⊥
not_restores restore.Missing is = cc
not_restores (restore.BadIndex n) is = cc
not_restores (restore.BadPiece name) is = cc
not_restores restore.Exists is = cc
not_restores restore.Disk is = cc
not_restores restore.Memory is = cc

not_packs : (refusal : FilePackRefusal) → Refusal.Output ≡ of_pack refusal → ⊥
not_packs pack.Missing is = cc
not_packs (pack.TooLong n) is = cc
not_packs (pack.Damaged kind place) is = cc
not_packs (pack.Unreadable oid) is = cc
not_packs (pack.Full need limit) is = cc
not_packs pack.Exists is = cc
not_packs pack.Disk is = cc
not_packs pack.Memory is = cc

sink_of : (asked : Asked) (old mid : OutsideView) → CauseOf asked old mid Refusal.Output → SinkFailed old mid
sink_of (Init file name password) old mid (inl legible) = absurd legible.0
sink_of (Init file name password) old mid (inr (inl new)) = absurd new.1
sink_of (Init file name password) old mid (inr (inr print)) = print.3.0
sink_of (Replay file limit) old mid (inl input) = absurd input.0
sink_of (Replay file limit) old mid (inr (inl cause)) = absurd cause.2
sink_of (Replay file limit) old mid (inr (inr run)) = run.4.0
sink_of (Serve file port connections clients record_) old mid (inl refused) = absurd (not_sinks refused.0.refusal refused.0.is)
sink_of (Serve file port connections clients record_) old mid (inr print) = print.printed.0
sink_of (Check file) old mid (inl scan) = absurd scan.0
sink_of (Check file) old mid (inr print) = print.2.0
sink_of (Dump file) old mid dump = dump
sink_of (Backup file repo full) old mid (inl refused) = absurd (not_backups refused.0.refusal refused.0.is)
sink_of (Backup file repo full) old mid (inr print) = print.printed.0
sink_of (Restore repo name) old mid (inl refused) = absurd (not_restores refused.0.refusal refused.0.is)
sink_of (Restore repo name) old mid (inr print) = print.printed.0
sink_of (Pack file before) old mid (inl refused) = absurd (not_packs refused.0.refusal refused.0.is)
sink_of (Pack file before) old mid (inr print) = print.printed.0
sink_of (Serial file limit) old mid (inl input) = absurd input.0
sink_of (Serial file limit) old mid (inr (inl cause)) = absurd cause.2
sink_of (Serial file limit) old mid (inr (inr run)) = run.4.0
sink_of (Gen number) old mid (inl run) = absurd run.0
sink_of (Gen number) old mid (inr print) = print.printed.0

-- a refusal for the sink has it that the sink failed
sink_cause : (words : List (List ℕ)) (old mid : OutsideView) → Cause words old mid Refusal.Output → SinkFailed old mid
sink_cause words old mid (inl cause) = absurd cause.0
sink_cause words old mid (inr cause) = sink_of cause.0 old mid cause.2

rose_before : (a b c : Counter) → a.count ≤ b.count → Rose b c → Rose a c
rose_before a b c le rose = omega (arith, rose)

rose_after : (a b c : Counter) → b.count ≤ c.count → Rose a b → Rose a c
rose_after a b c le rose = omega (arith, rose)

-- what the last line tells of a refusal
abbrev pub Refused : List (List ℕ) → OutsideView → Option (List ℕ) → Counter → Refusal → ℕ → Type 0
Refused words mid line sink e status = ((status ≡ status_of e) × Names words e mid.written line) ⊎ ((status ≡ 6) × Rose mid.sink sink) ⊎ (status ≡ 7)

abbrev pub OtherRefused : List (List ℕ) → OutsideView → Option (List ℕ) → Counter → Refusal → ℕ → Type 0
OtherRefused words mid line sink e status = (e ≡ Refusal.Output → ⊥) → Refused words mid line sink e status

-- what is told of it, where the last line has this name
abbrev pub Said : List ℕ → OutsideView → Option (List ℕ) → Counter → Refusal → ℕ → Type 0
Said name mid line sink e status = (e ≡ Refusal.Output → ⊥) → ((status ≡ status_of e) × (line ≡ append_known mid.written (last_line name e))) ⊎ ((status ≡ 6) × Rose mid.sink sink) ⊎ (status ≡ 7)

-- a name that the words are over, or any where they are no command
pub named_by : (words : List (List ℕ)) (name : List ℕ) (mid : OutsideView) (line : Option (List ℕ)) (sink : Counter) (e : Refusal) (status : ℕ) → (IsNamed words e name ⊎ (IsCommand words → ⊥)) → Said name mid line sink e status → OtherRefused words mid line sink e status
named_by words name mid line sink e status over said other =
    elim (said other) [
      | inl line_is ↦ inl (line_is.0, (name, over, line_is.1))
      | inr trouble ↦ inr trouble
    ]

-- the line of want of memory has no name
pub memory_named : (words : List (List ℕ)) (name : List ℕ) (mid : OutsideView) (line : Option (List ℕ)) (sink : Counter) (status : ℕ) → Said name mid line sink Refusal.Memory status → OtherRefused words mid line sink Refusal.Memory status
memory_named words name mid line sink status said = (let over = some_name words Refusal.Memory in named_by words over.0 mid line sink Refusal.Memory status over.1 said)

other_ends : (words : List (List ℕ)) (old mid : OutsideView) (line : Option (List ℕ)) (sink : Counter) (e : Refusal) (status : ℕ) → Cause words old mid e → old.sink.count ≤ mid.sink.count → mid.sink.count ≤ sink.count → Refused words mid line sink e status → Ends words old (told mid line sink) status
other_ends words old mid line sink e status c le later (inl named) = inr (inl (e, named.0, (mid.written, mid.sink, later, c, named.1)))
other_ends words old mid line sink e status c le later (inr (inl six)) = inr (inr (inl (six.0, rose_before old.sink mid.sink sink le six.1)))
other_ends words old mid line sink e status c le later (inr (inr seven)) = inr (inr (inr seven))

-- a command that was refused, and whose cause the last line told or not, ends as it should
pub refused_ends : (words : List (List ℕ)) (old mid : OutsideView) (line : Option (List ℕ)) (sink : Counter) (e : Refusal) (status : ℕ) → Cause words old mid e → old.sink.count ≤ mid.sink.count → mid.sink.count ≤ sink.count → (e ≡ Refusal.Output → status ≡ 6) → OtherRefused words mid line sink e status → Ends words old (told mid line sink) status
refused_ends words old mid line sink Refusal.Output status c le later six named = inr (inr (inl (six refl, rose_after old.sink mid.sink sink later (sink_cause words old mid c))))
refused_ends words old mid line sink Refusal.Usage status c le later six named = let other : Refusal.Usage ≡ Refusal.Output → ⊥ = λ is. let bad = is in cc in other_ends words old mid line sink Refusal.Usage status c le later (named other)
refused_ends words old mid line sink Refusal.NotLegible status c le later six named = let other : Refusal.NotLegible ≡ Refusal.Output → ⊥ = λ is. let bad = is in cc in other_ends words old mid line sink Refusal.NotLegible status c le later (named other)
refused_ends words old mid line sink Refusal.Exists status c le later six named = let other : Refusal.Exists ≡ Refusal.Output → ⊥ = λ is. let bad = is in cc in other_ends words old mid line sink Refusal.Exists status c le later (named other)
refused_ends words old mid line sink (Refusal.Damaged kind place) status c le later six named = let other : (Refusal.Damaged kind place) ≡ Refusal.Output → ⊥ = λ is. let bad = is in cc in other_ends words old mid line sink (Refusal.Damaged kind place) status c le later (named other)
refused_ends words old mid line sink (Refusal.BadLine n) status c le later six named = let other : (Refusal.BadLine n) ≡ Refusal.Output → ⊥ = λ is. let bad = is in cc in other_ends words old mid line sink (Refusal.BadLine n) status c le later (named other)
refused_ends words old mid line sink Refusal.Disk status c le later six named = let other : Refusal.Disk ≡ Refusal.Output → ⊥ = λ is. let bad = is in cc in other_ends words old mid line sink Refusal.Disk status c le later (named other)
refused_ends words old mid line sink Refusal.Input status c le later six named = let other : Refusal.Input ≡ Refusal.Output → ⊥ = λ is. let bad = is in cc in other_ends words old mid line sink Refusal.Input status c le later (named other)
refused_ends words old mid line sink Refusal.Memory status c le later six named = let other : Refusal.Memory ≡ Refusal.Output → ⊥ = λ is. let bad = is in cc in other_ends words old mid line sink Refusal.Memory status c le later (named other)
refused_ends words old mid line sink Refusal.Missing status c le later six named = let other : Refusal.Missing ≡ Refusal.Output → ⊥ = λ is. let bad = is in cc in other_ends words old mid line sink Refusal.Missing status c le later (named other)
refused_ends words old mid line sink Refusal.InputTooLarge status c le later six named = let other : Refusal.InputTooLarge ≡ Refusal.Output → ⊥ = λ is. let bad = is in cc in other_ends words old mid line sink Refusal.InputTooLarge status c le later (named other)
refused_ends words old mid line sink (Refusal.FileTooLarge n) status c le later six named = let other : (Refusal.FileTooLarge n) ≡ Refusal.Output → ⊥ = λ is. let bad = is in cc in other_ends words old mid line sink (Refusal.FileTooLarge n) status c le later (named other)
refused_ends words old mid line sink (Refusal.TooLong n) status c le later six named = let other : (Refusal.TooLong n) ≡ Refusal.Output → ⊥ = λ is. let bad = is in cc in other_ends words old mid line sink (Refusal.TooLong n) status c le later (named other)
refused_ends words old mid line sink (Refusal.Unreadable oid) status c le later six named = let other : (Refusal.Unreadable oid) ≡ Refusal.Output → ⊥ = λ is. let bad = is in cc in other_ends words old mid line sink (Refusal.Unreadable oid) status c le later (named other)
refused_ends words old mid line sink Refusal.PackExists status c le later six named = let other : Refusal.PackExists ≡ Refusal.Output → ⊥ = λ is. let bad = is in cc in other_ends words old mid line sink Refusal.PackExists status c le later (named other)
refused_ends words old mid line sink (Refusal.Full need limit) status c le later six named = let other : (Refusal.Full need limit) ≡ Refusal.Output → ⊥ = λ is. let bad = is in cc in other_ends words old mid line sink (Refusal.Full need limit) status c le later (named other)
refused_ends words old mid line sink Refusal.MissingIndex status c le later six named = let other : Refusal.MissingIndex ≡ Refusal.Output → ⊥ = λ is. let bad = is in cc in other_ends words old mid line sink Refusal.MissingIndex status c le later (named other)
refused_ends words old mid line sink (Refusal.BadIndex n) status c le later six named = let other : (Refusal.BadIndex n) ≡ Refusal.Output → ⊥ = λ is. let bad = is in cc in other_ends words old mid line sink (Refusal.BadIndex n) status c le later (named other)
refused_ends words old mid line sink (Refusal.BadPiece piece) status c le later six named = let other : (Refusal.BadPiece piece) ≡ Refusal.Output → ⊥ = λ is. let bad = is in cc in other_ends words old mid line sink (Refusal.BadPiece piece) status c le later (named other)
refused_ends words old mid line sink Refusal.NamesSpent status c le later six named = let other : Refusal.NamesSpent ≡ Refusal.Output → ⊥ = λ is. let bad = is in cc in other_ends words old mid line sink Refusal.NamesSpent status c le later (named other)

other_than_output : (e : Refusal) → e ≡ Refusal.Memory → e ≡ Refusal.Output → ⊥
other_than_output e a b = cc

-- where there was no cause, memory was wanting
pub calm_ends : (words : List (List ℕ)) (old mid : OutsideView) (line : Option (List ℕ)) (sink : Counter) (e : Refusal) (status : ℕ) → Laws → Cause words old mid e → old.sink.count ≤ mid.sink.count → mid.sink.count ≤ sink.count → OtherRefused words mid line sink e status → NoCause words old (told mid line sink) → (status ≡ 0) ⊎ (status ≡ 7)
calm_ends words old mid line sink e status laws c le later named meets =
    let memory = only_memory words old mid line sink e laws later c meets in
    elim (named (other_than_output e memory)) [
      | inl told_so ↦ inr (told_so.0 ∙ ap status_of memory)
      | inr (inl six) ↦ absurd (sink_is_calm words old (told mid line sink) meets (rose_before old.sink mid.sink sink le six.1))
      | inr (inr seven) ↦ inr seven
    ]

-- a count that rose did so before or behind any moment between
pub rose_either : (a b c : ℕ) → a < c → (a < b) ⊎ (b < c)
rose_either a b c lt = go (nat_lt a b) refl
  where
    go : (k : Bool) → nat_lt a b ≡ k → (a < b) ⊎ (b < c)
    go true e = inl (grind (arith, nat_tests, e))
    go false e = inr (grind (arith, nat_tests, e, lt))
