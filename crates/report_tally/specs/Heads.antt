-- A line of a report: the row that it begins with, and the bytes that belong to it.
use Rattle.std.specs.Prelude.{ℕ, List, [], ◌∷◌, ◌++◌, length, flat_map, codes, decimal}
use Rattle.zbase.specs.Hex.{hex16_text}
use Rattle.evaluator.specs.Permissions.{permission_text}
use Rattle.schedule.specs.declared.line.Line.{Line}
use Rattle.schedule.specs.Lines.{ask_fields, clash_fields, text_field, value_field}

abbrev pub word_of : Line → List ℕ
word_of Line.Head = codes "zope"
word_of (Line.Opened t n) = codes "open"
word_of (Line.Begin w t) = codes "begin"
word_of (Line.Fetch w ask) = codes "fetch"
word_of (Line.Computed w) = codes "computed"
word_of (Line.Busy w v) = codes "busy"
word_of (Line.Vote w t) = codes "vote"
word_of (Line.Conflict w c) = codes "conflict"
word_of (Line.GivenUp w cs) = codes "givenup"
word_of (Line.Idle w) = codes "idle"
word_of (Line.SpentTids w) = codes "spent"
word_of (Line.SpentOids w o n) = codes "spent"
word_of (Line.SpentFull w need limit) = codes "spent"
word_of (Line.DiskFault w) = codes "diskfault"
word_of (Line.Memory w) = codes "memory"
word_of (Line.Unknown w t) = codes "unknown"
word_of (Line.ReplyRead w t bytes) = codes "reply"
word_of (Line.ReplyCommit w t bytes) = codes "reply"
word_of (Line.ReplyNone w bytes) = codes "reply"
word_of (Line.Shown w o role) = codes "shown"
word_of (Line.Denied w o permission) = codes "denied"
word_of Line.Stop = codes "stop"
word_of (Line.Lost w) = codes "lost"
word_of Line.OpenFault = codes "openfault"
word_of (Line.Restart t n) = codes "restart"
word_of (Line.History n) = codes "history"
word_of (Line.Floor t) = codes "floor"
word_of (Line.Transaction t user description extension n) = codes "transaction"
word_of (Line.RecordRow o v) = codes "record"
word_of (Line.Packed t n) = codes "packed"
word_of Line.PackBusy = codes "pack"
word_of (Line.PackUnreadable o) = codes "pack"
word_of (Line.PackFull need limit) = codes "pack"
word_of Line.PackMemory = codes "pack"
word_of Line.PackFault = codes "packfault"
word_of Line.End = codes "end"

abbrev pub fields_of : Line → List (List ℕ)
fields_of Line.Head = codes "report" ∷ codes "1" ∷ []
fields_of (Line.Opened t n) = hex16_text t ∷ decimal n ∷ []
fields_of (Line.Begin w t) = decimal w ∷ hex16_text t ∷ []
fields_of (Line.Fetch w ask) = decimal w ∷ ask_fields ask
fields_of (Line.Computed w) = decimal w ∷ []
fields_of (Line.Busy w v) = decimal w ∷ decimal v ∷ []
fields_of (Line.Vote w t) = decimal w ∷ hex16_text t ∷ []
fields_of (Line.Conflict w c) = decimal w ∷ clash_fields c
fields_of (Line.GivenUp w cs) = decimal w ∷ flat_map clash_fields cs
fields_of (Line.Idle w) = decimal w ∷ []
fields_of (Line.SpentTids w) = decimal w ∷ codes "tids" ∷ []
fields_of (Line.SpentOids w o n) = decimal w ∷ codes "oids" ∷ hex16_text o ∷ decimal n ∷ []
fields_of (Line.SpentFull w need limit) = decimal w ∷ codes "full" ∷ decimal need ∷ decimal limit ∷ []
fields_of (Line.DiskFault w) = decimal w ∷ []
fields_of (Line.Memory w) = decimal w ∷ []
fields_of (Line.Unknown w t) = decimal w ∷ hex16_text t ∷ []
fields_of (Line.ReplyRead w t bytes) = decimal w ∷ codes "read" ∷ hex16_text t ∷ decimal (length bytes) ∷ []
fields_of (Line.ReplyCommit w t bytes) = decimal w ∷ codes "commit" ∷ hex16_text t ∷ decimal (length bytes) ∷ []
fields_of (Line.ReplyNone w bytes) = decimal w ∷ codes "none" ∷ decimal (length bytes) ∷ []
fields_of (Line.Shown w o role) = decimal w ∷ hex16_text o ∷ role ∷ []
fields_of (Line.Denied w o permission) = decimal w ∷ hex16_text o ∷ permission_text permission ∷ []
fields_of Line.Stop = []
fields_of (Line.Lost w) = decimal w ∷ []
fields_of Line.OpenFault = []
fields_of (Line.Restart t n) = hex16_text t ∷ decimal n ∷ []
fields_of (Line.History n) = decimal n ∷ []
fields_of (Line.Floor t) = hex16_text t ∷ []
fields_of (Line.Transaction t user description extension n) = hex16_text t ∷ text_field user ∷ text_field description ∷ text_field extension ∷ decimal n ∷ []
fields_of (Line.RecordRow o v) = hex16_text o ∷ value_field v ∷ []
fields_of (Line.Packed t n) = hex16_text t ∷ decimal n ∷ []
fields_of Line.PackBusy = codes "busy" ∷ []
fields_of (Line.PackUnreadable o) = codes "unreadable" ∷ hex16_text o ∷ []
fields_of (Line.PackFull need limit) = codes "full" ∷ decimal need ∷ decimal limit ∷ []
fields_of Line.PackMemory = codes "memory" ∷ []
fields_of Line.PackFault = []
fields_of Line.End = []

-- a space before each field
abbrev pub fields_text : List (List ℕ) → List ℕ
fields_text [] = []
fields_text (field ∷ fields) = 32 ∷ field ++ fields_text fields

-- the row, without its line feed
abbrev pub head_of : Line → List ℕ
head_of line = word_of line ++ fields_text (fields_of line)

-- the bytes of a reply, and the line feed behind them
abbrev pub bytes_of : Line → List ℕ
bytes_of (Line.ReplyRead w t bytes) = bytes ++ 10 ∷ []
bytes_of (Line.ReplyCommit w t bytes) = bytes ++ 10 ∷ []
bytes_of (Line.ReplyNone w bytes) = bytes ++ 10 ∷ []
bytes_of _ = []
