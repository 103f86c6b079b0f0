-- The text of a report.
use Rattle.std.specs.Prelude.{◌≡◌, ℕ, List, [], ◌∷◌, length, flat_map, Option, Some, None, codes, decimal}
use Rattle.zbase.specs.Hex.{hex16_text, hex_bytes}
use Rattle.zbase.specs.History.{Value}
use Rattle.zbase.specs.declared.ids.Clash.{Clash}
use Rattle.evaluator.specs.declared.ask.Ask.{Ask}
use Rattle.evaluator.specs.Permissions.{permission_text}
use Rattle.schedule.specs.declared.line.Line.{Line}
use Rattle.schedule.specs.Rows.{row, block}

abbrev pub ask_fields : Ask → List (List ℕ)
ask_fields (Ask.Object o) = codes "object" ∷ hex16_text o ∷ []
ask_fields (Ask.Transaction t) = codes "transaction" ∷ hex16_text t ∷ []
ask_fields Ask.Log = codes "log" ∷ []

abbrev pub clash_fields : Clash → List (List ℕ)
clash_fields c = hex16_text c.oid ∷ hex16_text c.seen ∷ hex16_text c.found ∷ []

-- a transaction's text: two digits for each byte, and `-` for none
abbrev pub text_field : List ℕ → List ℕ
text_field [] = codes "-"
text_field (b ∷ bs) = hex_bytes (b ∷ bs)

abbrev pub value_field : Value → List ℕ
value_field None = codes "none"
value_field (Some bytes) = hex_bytes bytes

-- a reply's mark: its word, and the transaction if it names one
abbrev pub mark_fields : List ℕ → Option ℕ → List (List ℕ)
mark_fields word None = word ∷ []
mark_fields word (Some t) = word ∷ hex16_text t ∷ []

unfoldable pub line_text : Line → List ℕ
line_text Line.Head = row (codes "zope") (codes "report" ∷ codes "1" ∷ [])
line_text (Line.Opened t n) = row (codes "open") (hex16_text t ∷ decimal n ∷ [])
line_text (Line.Begin w t) = row (codes "begin") (decimal w ∷ hex16_text t ∷ [])
line_text (Line.Fetch w ask) = row (codes "fetch") (decimal w ∷ ask_fields ask)
line_text (Line.Computed w) = row (codes "computed") (decimal w ∷ [])
line_text (Line.Busy w v) = row (codes "busy") (decimal w ∷ decimal v ∷ [])
line_text (Line.Vote w t) = row (codes "vote") (decimal w ∷ hex16_text t ∷ [])
line_text (Line.Conflict w c) = row (codes "conflict") (decimal w ∷ clash_fields c)
line_text (Line.GivenUp w cs) = row (codes "givenup") (decimal w ∷ flat_map clash_fields cs)
line_text (Line.Idle w) = row (codes "idle") (decimal w ∷ [])
line_text (Line.SpentTids w) = row (codes "spent") (decimal w ∷ codes "tids" ∷ [])
line_text (Line.SpentOids w o n) = row (codes "spent") (decimal w ∷ codes "oids" ∷ hex16_text o ∷ decimal n ∷ [])
line_text (Line.SpentFull w need limit) = row (codes "spent") (decimal w ∷ codes "full" ∷ decimal need ∷ decimal limit ∷ [])
line_text (Line.DiskFault w) = row (codes "diskfault") (decimal w ∷ [])
line_text (Line.Memory w) = row (codes "memory") (decimal w ∷ [])
line_text (Line.Unknown w t) = row (codes "unknown") (decimal w ∷ hex16_text t ∷ [])
line_text (Line.ReplyRead w t bytes) = block (row (codes "reply") (decimal w ∷ codes "read" ∷ hex16_text t ∷ decimal (length bytes) ∷ [])) bytes
line_text (Line.ReplyCommit w t bytes) = block (row (codes "reply") (decimal w ∷ codes "commit" ∷ hex16_text t ∷ decimal (length bytes) ∷ [])) bytes
line_text (Line.ReplyNone w bytes) = block (row (codes "reply") (decimal w ∷ codes "none" ∷ decimal (length bytes) ∷ [])) bytes
line_text (Line.Shown w o role) = row (codes "shown") (decimal w ∷ hex16_text o ∷ role ∷ [])
line_text (Line.Denied w o permission) = row (codes "denied") (decimal w ∷ hex16_text o ∷ permission_text permission ∷ [])
line_text Line.Stop = row (codes "stop") []
line_text (Line.Lost w) = row (codes "lost") (decimal w ∷ [])
line_text Line.OpenFault = row (codes "openfault") []
line_text (Line.Restart t n) = row (codes "restart") (hex16_text t ∷ decimal n ∷ [])
line_text (Line.History n) = row (codes "history") (decimal n ∷ [])
line_text (Line.Floor t) = row (codes "floor") (hex16_text t ∷ [])
line_text (Line.Transaction t user description extension n) = row (codes "transaction") (hex16_text t ∷ text_field user ∷ text_field description ∷ text_field extension ∷ decimal n ∷ [])
line_text (Line.RecordRow o v) = row (codes "record") (hex16_text o ∷ value_field v ∷ [])
line_text (Line.Packed t n) = row (codes "packed") (hex16_text t ∷ decimal n ∷ [])
line_text Line.PackBusy = row (codes "pack") (codes "busy" ∷ [])
line_text (Line.PackUnreadable o) = row (codes "pack") (codes "unreadable" ∷ hex16_text o ∷ [])
line_text (Line.PackFull need limit) = row (codes "pack") (codes "full" ∷ decimal need ∷ decimal limit ∷ [])
line_text Line.PackMemory = row (codes "pack") (codes "memory" ∷ [])
line_text Line.PackFault = row (codes "packfault") []
line_text Line.End = row (codes "end") []

abbrev pub report_text : List Line → List ℕ
report_text lines = flat_map line_text lines

-- the bytes are this report
abbrev pub IsReport : List ℕ → List Line → Type 0
IsReport bytes lines = bytes ≡ report_text lines
