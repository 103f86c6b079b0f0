-- Worked reports with packs: over cells of which the first leads to the others.
use Rattle.std.specs.Prelude.{ℕ, ◌+◌, List, [], ◌∷◌, ◌++◌, Some, codes, if◌then◌else◌}
use Rattle.std.specs.Str.{bytes_eq}
use Rattle.zbase.specs.History.{History}
use Rattle.evaluator.specs.declared.ask.Ask.{Ask}
use Rattle.evaluator.specs.declared.cells.CellRequest.{CellRequest}
use Rattle.packing.specs.Reachable.{Linking}
use Rattle.schedule.specs.declared.item.Item2.{Item2}
use Rattle.schedule.specs.declared.line.Line.{Line}
use Rattle.schedule.specs.Moments.{Terms}
use Rattle.schedule.specs.Worked.{cells, copy_1, done_at, first_tid, read_1}

-- `r` leads to the cell 1, other bytes to none
abbrev pub rooted_links : Linking
rooted_links bytes = if bytes_eq bytes (codes "r") then Some (1 ∷ []) else Some []

abbrev pub rooted : Terms CellRequest
rooted = record { takes = cells.takes; eval = cells.eval; answer = cells.answer; links = rooted_links; limit = cells.limit; opened = 177 }

-- a cell that leads to 1, and 1; 7 is written too, and nothing leads to it
abbrev pub three_cells : History
three_cells = record { floor = 0; transactions = record { tid = first_tid; user = []; description = []; extension = []; records = (0, Some (codes "r")) ∷ (1, Some (codes "a")) ∷ (7, Some (codes "z")) ∷ [] } ∷ [] }

abbrev pub copy_items : List Item2
copy_items = Item2.Request 0 copy_1 ∷ Item2.Step 0 ∷ Item2.Step 0 ∷ Item2.Step 0 ∷ Item2.Step 0 ∷ Item2.Step 0 ∷ []

abbrev pub copy_lines : ℕ → List Line
copy_lines t = Line.Begin 0 t ∷ Line.Fetch 0 (Ask.Object 1) ∷ Line.Computed 0 ∷ Line.Vote 0 (t + 1) ∷ Line.ReplyCommit 0 (t + 1) (done_at (t + 1)) ∷ []

abbrev pub history_of_two : List Line
history_of_two =
    Line.History 2
    ∷ Line.Transaction first_tid [] [] [] 3 ∷ Line.RecordRow 0 (Some (codes "r")) ∷ Line.RecordRow 1 (Some (codes "a")) ∷ Line.RecordRow 7 (Some (codes "z"))
    ∷ Line.Transaction (first_tid + 1) [] [] [] 1 ∷ Line.RecordRow 1 (Some (codes "a+")) ∷ []

-- a commit, a pack at it, and a commit behind it
abbrev pub pack_schedule : List Item2
pack_schedule = copy_items ++ Item2.Pack (first_tid + 1) ∷ copy_items

abbrev pub pack_report : List Line
pack_report =
    Line.Head ∷ Line.Opened first_tid 1 ∷ (copy_lines first_tid
    ++ history_of_two ++ Line.Packed (first_tid + 1) 2 ∷ copy_lines (first_tid + 1)
    ++ Line.History 3 ∷ Line.Floor (first_tid + 1)
    ∷ Line.Transaction first_tid [] [] [] 1 ∷ Line.RecordRow 0 (Some (codes "r"))
    ∷ Line.Transaction (first_tid + 1) [] [] [] 1 ∷ Line.RecordRow 1 (Some (codes "a+"))
    ∷ Line.Transaction (first_tid + 2) [] [] [] 1 ∷ Line.RecordRow 1 (Some (codes "a++"))
    ∷ Line.End ∷ [])

-- a pack while a worker has a request; then a stop and a failure in a pack
abbrev pub hindered_schedule : List Item2
hindered_schedule =
    Item2.Request 0 read_1 ∷ Item2.Pack first_tid ∷ Item2.Step 0 ∷ Item2.Step 0 ∷ Item2.Step 0
    ∷ Item2.Stop 1 0 ∷ Item2.Pack first_tid ∷ Item2.Fail 1 0 ∷ Item2.Pack first_tid ∷ []

abbrev pub hindered_report : List Line
hindered_report =
    Line.Head ∷ Line.Opened first_tid 1 ∷ Line.PackBusy ∷ Line.Begin 0 first_tid ∷ Line.Fetch 0 (Ask.Object 1)
    ∷ Line.ReplyRead 0 first_tid (114 ∷ first_tid ∷ codes "61" ++ 10 ∷ [])
    ∷ Line.Stop ∷ Line.Restart first_tid 1 ∷ Line.PackFault
    ∷ Line.History 1
    ∷ Line.Transaction first_tid [] [] [] 3 ∷ Line.RecordRow 0 (Some (codes "r")) ∷ Line.RecordRow 1 (Some (codes "a")) ∷ Line.RecordRow 7 (Some (codes "z"))
    ∷ Line.End ∷ []
