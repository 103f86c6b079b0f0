-- The small evaluator of cells: the texts of its requests, and what each comes to.
use Rattle.std.specs.Prelude.{ℕ, ◌+◌, ◌-◌, ◌*◌, ◌^◌, ◌<◌, ◌==◌, ◌&&◌, List, [], ◌∷◌, ◌++◌, length, take, drop, Option, Some, None, option_map, option_and_then, nat_le, if◌then◌else◌, codes, decimal}
use Rattle.std.specs.Option.{option_or}
use Rattle.evaluator.specs.declared.cells.CellRequest.{CellRequest}
use Rattle.evaluator.specs.declared.ask.Ask.{Ask}
use Rattle.evaluator.specs.declared.fact.Fact.{Fact}
use Rattle.evaluator.specs.declared.fact.LogRow.{LogRow}
use Rattle.evaluator.specs.declared.fact.Part.{Part}
use Rattle.evaluator.specs.declared.draft.Draft.{Draft}
use Rattle.evaluator.specs.declared.draft.Name.{Name}
use Rattle.evaluator.specs.declared.draft.Entry.{Entry}
use Rattle.evaluator.specs.declared.reply.Reply.{Reply}
use Rattle.zbase.specs.History.{Value}
use Rattle.zbase.specs.Hex.{hex16_text, hex_bytes}
use Rattle.zbase.specs.Query.{Done, Asks}
use Rattle.evaluator.specs.Exec.{Eval}
use Rattle.evaluator.specs.Questions.{Made, Reads, Changes, Evaluation, meaning_of}
use Rattle.evaluator.specs.Replies.{one_line}

-- ---- the texts of requests

-- `read A`, `copy A B`, `new A`, `log` and `part T`, each id as 16 hexadecimal digits
abbrev pub cell_text : CellRequest → List ℕ
cell_text (CellRequest.Read a) = codes "read " ++ hex16_text a
cell_text (CellRequest.Copy a b) = codes "copy " ++ (hex16_text a ++ 32 ∷ hex16_text b)
cell_text (CellRequest.New a) = codes "new " ++ hex16_text a
cell_text CellRequest.Log = codes "log"
cell_text (CellRequest.Part t) = codes "part " ++ hex16_text t

-- its ids have 64 bits
abbrev pub HasIds : CellRequest → Type 0
HasIds (CellRequest.Read a) = a < 2 ^ 64
HasIds (CellRequest.Copy a b) = (a < 2 ^ 64) × (b < 2 ^ 64)
HasIds (CellRequest.New a) = a < 2 ^ 64
HasIds CellRequest.Log = Unit {0}
HasIds (CellRequest.Part t) = t < 2 ^ 64

-- The same read back, so that it computes: what is behind a front, a digit, and a number of 16 digits.
abbrev pub behind : List ℕ → List ℕ → Option (List ℕ)
behind [] bs = Some bs
behind (f ∷ fs) [] = None
behind (f ∷ fs) (b ∷ bs) = if f == b then behind fs bs else None

abbrev pub digit : ℕ → Option ℕ
digit b = if nat_le 48 b && nat_le b 57 then Some (b - 48) else if nat_le 97 b && nat_le b 102 then Some (b - 87) else None

abbrev pub read_digits : Option ℕ → List ℕ → Option ℕ
read_digits None bs = None
read_digits (Some n) [] = Some n
read_digits (Some n) (b ∷ bs) = read_digits (option_map (λ d. 16 * n + d) (digit b)) bs

abbrev pub read_hex16 : List ℕ → Option ℕ
read_hex16 bs = if length bs == 16 then read_digits (Some 0) bs else None

abbrev pub id_behind : List ℕ → List ℕ → Option ℕ
id_behind front bs = option_and_then read_hex16 (behind front bs)

abbrev pub copy_of : Option ℕ → Option ℕ → Option CellRequest
copy_of (Some a) (Some b) = Some (CellRequest.Copy a b)
copy_of (Some a) None = None
copy_of None b = None

-- two ids with a space between them
abbrev pub copy_in : List ℕ → Option CellRequest
copy_in bs = copy_of (read_hex16 (take 16 bs)) (id_behind (32 ∷ []) (drop 16 bs))

abbrev pub log_at : List ℕ → Option CellRequest
log_at [] = Some CellRequest.Log
log_at (b ∷ bs) = None

-- the request of which these bytes are the text
abbrev pub takes_cell : List ℕ → Option CellRequest
takes_cell bs =
    option_or (option_map CellRequest.Read (id_behind (codes "read ") bs))
    (option_or (option_and_then copy_in (behind (codes "copy ") bs))
    (option_or (option_map CellRequest.New (id_behind (codes "new ") bs))
    (option_or (option_map CellRequest.Part (id_behind (codes "part ") bs))
    (option_and_then log_at (behind (codes "log") bs)))))

-- ---- evaluation

abbrev pub line_reply : List ℕ → Reply
line_reply text = one_line 200 text

abbrev pub shown_value : Value → List ℕ
shown_value None = codes "none"
shown_value (Some bytes) = hex_bytes bytes

abbrev pub with_plus : Value → List ℕ
with_plus None = 43 ∷ []
with_plus (Some bytes) = bytes ++ 43 ∷ []

abbrev pub shown_parts : Option (List Part) → List ℕ
shown_parts None = codes "none"
shown_parts (Some ps) = decimal (length ps)

-- what a fact tells: an object's value, a transaction's parts, the rows of the log
abbrev pub value_in : Fact → Value
value_in (Fact.Object o v s) = v
value_in (Fact.Transaction t ps) = None
value_in (Fact.Log rows) = None

abbrev pub parts_in : Fact → Option (List Part)
parts_in (Fact.Object o v s) = None
parts_in (Fact.Transaction t ps) = ps
parts_in (Fact.Log rows) = None

abbrev pub rows_in : Fact → List LogRow
rows_in (Fact.Object o v s) = []
rows_in (Fact.Transaction t ps) = []
rows_in (Fact.Log rows) = rows

abbrev pub shows : List ℕ → Made
shows text = Reads (line_reply text)

abbrev pub written : Name → List ℕ → Draft
written name bytes = record { user = []; description = []; entries = Entry.Write name bytes [] ∷ [] }

abbrev pub writes : Name → List ℕ → Made
writes name bytes = Changes (line_reply (codes "done")) (written name bytes)

-- the object's bytes and a plus are written to another one
abbrev pub copied : ℕ → Name → Evaluation
copied a name = Asks (Ask.Object a) (λ f. Done (writes name (with_plus (value_in f))))

-- each request asks once
abbrev pub cell_question : CellRequest → Evaluation
cell_question (CellRequest.Read a) = Asks (Ask.Object a) (λ f. Done (shows (shown_value (value_in f))))
cell_question (CellRequest.Copy a b) = copied a (Name.Old b)
cell_question (CellRequest.New a) = copied a (Name.New 0)
cell_question CellRequest.Log = Asks Ask.Log (λ f. Done (shows (decimal (length (rows_in f)))))
cell_question (CellRequest.Part t) = Asks (Ask.Transaction t) (λ f. Done (shows (shown_parts (parts_in f))))

abbrev pub eval_cell : Eval CellRequest
eval_cell = meaning_of cell_question
