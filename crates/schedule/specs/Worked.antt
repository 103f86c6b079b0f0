-- Worked reports over cells: some that explain their schedule, and beginnings of others that can't.
use Rattle.std.specs.Prelude.{ℕ, ◌+◌, List, [], ◌∷◌, ◌++◌, Some, codes, decimal}
use Rattle.zbase.specs.History.{History}
use Rattle.evaluator.specs.declared.ask.Ask.{Ask}
use Rattle.evaluator.specs.declared.cells.CellRequest.{CellRequest}
use Rattle.evaluator.specs.declared.reply.Mark.{Mark}
use Rattle.evaluator.specs.Cells.{takes_cell, eval_cell}
use Rattle.schedule.specs.declared.item.Item2.{Item2}
use Rattle.schedule.specs.declared.line.Line.{Line}
use Rattle.schedule.specs.Moments.{Terms}

-- the bytes of a reply are a letter and a number for its mark, and the body
abbrev pub mark_bytes : Mark → List ℕ
mark_bytes (Mark.Read t) = 114 ∷ t ∷ []
mark_bytes (Mark.Commit t) = 99 ∷ t ∷ []
mark_bytes Mark.Empty = 110 ∷ []

abbrev pub cells : Terms CellRequest
cells = record { takes = takes_cell; eval = eval_cell; answer = λ x mark. mark_bytes mark ++ x.body; links = λ bytes. Some []; limit = 281474976710655; opened = 184 }

-- the stamp of the first moment of 2000
abbrev pub first_tid : ℕ
first_tid = 230072808112128000

abbrev pub two_cells : History
two_cells = record { floor = 0; transactions = record { tid = first_tid; user = []; description = []; extension = []; records = (1, Some (codes "a")) ∷ (2, Some (codes "b")) ∷ [] } ∷ [] }

abbrev pub copy_1_2 : List ℕ
copy_1_2 = codes "copy 0000000000000001 0000000000000002"

abbrev pub copy_2_1 : List ℕ
copy_2_1 = codes "copy 0000000000000002 0000000000000001"

-- each worker reads the cell that the other one writes, and both are ready before the first votes
abbrev pub conflict_schedule : List Item2
conflict_schedule =
    Item2.Request 0 copy_1_2 ∷ Item2.Request 1 copy_2_1
    ∷ Item2.Step 0 ∷ Item2.Step 1 ∷ Item2.Step 0 ∷ Item2.Step 1 ∷ Item2.Step 0 ∷ Item2.Step 1
    ∷ Item2.Step 0 ∷ Item2.Step 0
    ∷ Item2.Step 1 ∷ Item2.Step 1 ∷ Item2.Step 1 ∷ Item2.Step 1 ∷ Item2.Step 1 ∷ Item2.Step 1 ∷ []

abbrev pub done_at : ℕ → List ℕ
done_at t = 99 ∷ t ∷ codes "done" ++ 10 ∷ []

abbrev pub conflict_report : List Line
conflict_report =
    Line.Head ∷ Line.Opened first_tid 1
    ∷ Line.Begin 0 first_tid ∷ Line.Begin 1 first_tid ∷ Line.Fetch 0 (Ask.Object 1) ∷ Line.Fetch 1 (Ask.Object 2) ∷ Line.Computed 0 ∷ Line.Computed 1
    ∷ Line.Vote 0 (first_tid + 1) ∷ Line.ReplyCommit 0 (first_tid + 1) (done_at (first_tid + 1))
    ∷ Line.Conflict 1 (record { oid = 2; seen = first_tid; found = first_tid + 1 })
    ∷ Line.Begin 1 (first_tid + 1) ∷ Line.Fetch 1 (Ask.Object 2) ∷ Line.Computed 1 ∷ Line.Vote 1 (first_tid + 2) ∷ Line.ReplyCommit 1 (first_tid + 2) (done_at (first_tid + 2))
    ∷ Line.History 3
    ∷ Line.Transaction first_tid [] [] [] 2 ∷ Line.RecordRow 1 (Some (codes "a")) ∷ Line.RecordRow 2 (Some (codes "b"))
    ∷ Line.Transaction (first_tid + 1) [] [] [] 1 ∷ Line.RecordRow 2 (Some (codes "a+"))
    ∷ Line.Transaction (first_tid + 2) [] [] [] 1 ∷ Line.RecordRow 1 (Some (codes "a++"))
    ∷ Line.End ∷ []

abbrev pub one_cell : History
one_cell = record { floor = 0; transactions = record { tid = first_tid; user = []; description = []; extension = []; records = (1, Some (codes "a")) ∷ [] } ∷ [] }

-- a stop in the finish step
abbrev pub stop_schedule : ℕ → List Item2
stop_schedule seed =
    Item2.Request 0 (codes "copy 0000000000000001 0000000000000001")
    ∷ Item2.Step 0 ∷ Item2.Step 0 ∷ Item2.Step 0 ∷ Item2.Stop 3 seed ∷ Item2.Step 0 ∷ Item2.Step 0 ∷ []

abbrev pub until_the_stop : List Line
until_the_stop = Line.Head ∷ Line.Opened first_tid 1 ∷ Line.Begin 0 first_tid ∷ Line.Fetch 0 (Ask.Object 1) ∷ Line.Computed 0 ∷ Line.Vote 0 (first_tid + 1) ∷ Line.Stop ∷ Line.Lost 0 ∷ []

abbrev pub dropped_report : List Line
dropped_report = until_the_stop ++ Line.Restart first_tid 1 ∷ Line.History 1 ∷ Line.Transaction first_tid [] [] [] 1 ∷ Line.RecordRow 1 (Some (codes "a")) ∷ Line.End ∷ []

abbrev pub kept_report : List Line
kept_report = until_the_stop ++ Line.Restart (first_tid + 1) 2 ∷ Line.History 2 ∷ Line.Transaction first_tid [] [] [] 1 ∷ Line.RecordRow 1 (Some (codes "a")) ∷ Line.Transaction (first_tid + 1) [] [] [] 1 ∷ Line.RecordRow 1 (Some (codes "a+")) ∷ Line.End ∷ []

abbrev pub copy_1 : List ℕ
copy_1 = codes "copy 0000000000000001 0000000000000001"

abbrev pub read_1 : List ℕ
read_1 = codes "read 0000000000000001"

-- a commit reply in the vote's place
abbrev pub early_commit_schedule : List Item2
early_commit_schedule = Item2.Request 0 copy_1 ∷ Item2.Step 0 ∷ Item2.Step 0 ∷ Item2.Step 0 ∷ Item2.Step 0 ∷ []

abbrev pub early_commit : List Line
early_commit =
    Line.Head ∷ Line.Opened first_tid 1 ∷ Line.Begin 0 first_tid ∷ Line.Fetch 0 (Ask.Object 1) ∷ Line.Computed 0
    ∷ Line.ReplyCommit 0 (first_tid + 1) (done_at (first_tid + 1)) ∷ []

abbrev pub ready_schedule : List Item2
ready_schedule =
    Item2.Request 0 copy_1_2 ∷ Item2.Request 1 copy_2_1
    ∷ Item2.Step 1 ∷ Item2.Step 1 ∷ Item2.Step 1 ∷ Item2.Step 0 ∷ Item2.Step 0 ∷ Item2.Step 0 ∷ []

abbrev pub both_ready : List Line
both_ready =
    Line.Head ∷ Line.Opened first_tid 1 ∷ Line.Begin 1 first_tid ∷ Line.Fetch 1 (Ask.Object 2) ∷ Line.Computed 1
    ∷ Line.Begin 0 first_tid ∷ Line.Fetch 0 (Ask.Object 1) ∷ Line.Computed 0 ∷ []

-- a vote while another one is out
abbrev pub second_vote_schedule : List Item2
second_vote_schedule = ready_schedule ++ Item2.Step 0 ∷ Item2.Step 1 ∷ []

abbrev pub second_vote : List Line
second_vote = both_ready ++ Line.Vote 0 (first_tid + 1) ∷ Line.Vote 1 (first_tid + 2) ∷ []

-- a vote over an object that was written since it was read
abbrev pub stale_vote_schedule : List Item2
stale_vote_schedule = ready_schedule ++ Item2.Step 0 ∷ Item2.Step 0 ∷ Item2.Step 1 ∷ []

abbrev pub stale_vote : List Line
stale_vote = both_ready ++ Line.Vote 0 (first_tid + 1) ∷ Line.ReplyCommit 0 (first_tid + 1) (done_at (first_tid + 1)) ∷ Line.Vote 1 (first_tid + 2) ∷ []

-- a restart without a transaction whose commit was acknowledged
abbrev pub lossy_restart_schedule : List Item2
lossy_restart_schedule =
    Item2.Request 0 copy_1 ∷ Item2.Step 0 ∷ Item2.Step 0 ∷ Item2.Step 0 ∷ Item2.Step 0 ∷ Item2.Step 0
    ∷ Item2.Stop 1 0 ∷ Item2.Request 0 read_1 ∷ Item2.Step 0 ∷ []

abbrev pub lossy_restart : List Line
lossy_restart =
    Line.Head ∷ Line.Opened first_tid 1 ∷ Line.Begin 0 first_tid ∷ Line.Fetch 0 (Ask.Object 1) ∷ Line.Computed 0 ∷ Line.Vote 0 (first_tid + 1)
    ∷ Line.ReplyCommit 0 (first_tid + 1) (done_at (first_tid + 1)) ∷ Line.Stop ∷ Line.Lost 0 ∷ Line.Restart first_tid 1 ∷ []

-- what a request prints that copies the first of two cells into the second, and meets nothing: five steps, for one ask
abbrev pub copy_steps : List (List Line)
copy_steps =
    (Line.Begin 0 first_tid ∷ []) ∷ (Line.Fetch 0 (Ask.Object 1) ∷ [])
    ∷ (Line.Computed 0 ∷ []) ∷ (Line.Vote 0 (first_tid + 1) ∷ []) ∷ (Line.ReplyCommit 0 (first_tid + 1) (done_at (first_tid + 1)) ∷ []) ∷ []

-- and one that reads the first: three. Its reply has the value in hexadecimal digits
abbrev pub read_steps : List (List Line)
read_steps = (Line.Begin 3 first_tid ∷ []) ∷ (Line.Fetch 3 (Ask.Object 1) ∷ []) ∷ (Line.ReplyRead 3 first_tid (114 ∷ first_tid ∷ codes "61" ++ 10 ∷ []) ∷ []) ∷ []

-- The same cell, written twice, in a file that is packed up to the first transaction.
abbrev pub packed_cell : History
packed_cell = record {
  floor = first_tid;
  transactions =
      record { tid = first_tid; user = []; description = []; extension = []; records = (1, Some (codes "a")) ∷ [] }
      ∷ record { tid = first_tid + 1; user = []; description = []; extension = []; records = (1, Some (codes "b")) ∷ [] }
      ∷ [];
}

-- the log, and what the two transactions changed
abbrev pub packed_schedule : List Item2
packed_schedule =
    Item2.Request 0 (codes "log") ∷ Item2.Request 1 (codes "part 0331620000000000") ∷ Item2.Request 2 (codes "part 0331620000000001")
    ∷ Item2.Step 0 ∷ Item2.Step 0 ∷ Item2.Step 0 ∷ Item2.Step 1 ∷ Item2.Step 1 ∷ Item2.Step 1 ∷ Item2.Step 2 ∷ Item2.Step 2 ∷ Item2.Step 2 ∷ []

-- The log has the row above the floor alone, and of the packed transaction nothing is told. The history at the end names its floor.
abbrev pub packed_report : List Line
packed_report =
    Line.Head ∷ Line.Opened (first_tid + 1) 2
    ∷ Line.Begin 0 (first_tid + 1) ∷ Line.Fetch 0 Ask.Log ∷ Line.ReplyRead 0 (first_tid + 1) (114 ∷ (first_tid + 1) ∷ decimal 1 ++ 10 ∷ [])
    ∷ Line.Begin 1 (first_tid + 1) ∷ Line.Fetch 1 (Ask.Transaction first_tid) ∷ Line.ReplyRead 1 (first_tid + 1) (114 ∷ (first_tid + 1) ∷ codes "none" ++ 10 ∷ [])
    ∷ Line.Begin 2 (first_tid + 1) ∷ Line.Fetch 2 (Ask.Transaction (first_tid + 1)) ∷ Line.ReplyRead 2 (first_tid + 1) (114 ∷ (first_tid + 1) ∷ decimal 1 ++ 10 ∷ [])
    ∷ Line.History 2 ∷ Line.Floor first_tid
    ∷ Line.Transaction first_tid [] [] [] 1 ∷ Line.RecordRow 1 (Some (codes "a"))
    ∷ Line.Transaction (first_tid + 1) [] [] [] 1 ∷ Line.RecordRow 1 (Some (codes "b"))
    ∷ Line.End ∷ []
