-- Worked rows: a small history, what it answers, what is known of it, and what requests of cells come to over it; texts
-- that are no requests, and the names of permissions.
use Rattle.std.proofs.Common.{◌≡◌, ℕ, List, [], ◌∷◌, ◌++◌, map, Some, None, refl, codes}
use Rattle.std.specs.Prelude.{decimal}
use Rattle.zbase.specs.History.{Value, Transaction, History}
use Rattle.evaluator.specs.declared.ask.Ask.{Ask}
use Rattle.evaluator.specs.declared.cells.CellRequest.{CellRequest}
use Rattle.evaluator.specs.declared.draft.Name.{Name}
use Rattle.evaluator.specs.declared.fact.Fact.{Fact}
use Rattle.evaluator.specs.declared.fact.LogRow.{LogRow}
use Rattle.evaluator.specs.declared.fact.Part.{Part}
use Rattle.evaluator.specs.declared.outcome.Outcome.{Outcome}
use Rattle.evaluator.specs.Cells.{eval_cell, line_reply, takes_cell, written}
use Rattle.evaluator.specs.Exec.{exec}
use Rattle.evaluator.specs.Facts.{fact, look}
use Rattle.evaluator.specs.Named.{permission_named}
use Rattle.evaluator.specs.Permissions.{permission_text}
use Rattle.zbase.specs.Values.{before, upto}

abbrev wrote : ℕ → List (ℕ × Value) → Transaction
wrote t records = record { tid = t; user = []; description = []; extension = []; records = records }

-- Cells 1 and 2 are made, cell 1 is written twice in one transaction, and cell 3 has a record without a value.
abbrev worked : History
worked = record {
  floor = 0;
  transactions =
      wrote 5 ((1, Some (codes "ab")) ∷ (2, Some (codes "z")) ∷ [])
      ∷ wrote 7 ((1, Some (codes "b")) ∷ (1, Some (codes "c")) ∷ [])
      ∷ wrote 9 ((3, None) ∷ [])
      ∷ [];
}

abbrev parts_of_5 : List Part
parts_of_5 =
    record { oid = 1; after = Some (codes "ab"); before = None; before_serial = 0 }
    ∷ record { oid = 2; after = Some (codes "z"); before = None; before_serial = 0 }
    ∷ []

abbrev parts_of_7 : List Part
parts_of_7 = record { oid = 1; after = Some (codes "c"); before = Some (codes "ab"); before_serial = 5 } ∷ []

abbrev parts_of_9 : List Part
parts_of_9 = record { oid = 3; after = None; before = None; before_serial = 0 } ∷ []

abbrev row_of : ℕ → LogRow
row_of t = record { tid = t; user = []; description = [] }

-- ---- what the history answers

values : map (λ o. fact worked (Ask.Object o)) (0 ∷ 1 ∷ 2 ∷ 3 ∷ 4 ∷ []) ≡ Fact.Object 0 None 0 ∷ Fact.Object 1 (Some (codes "c")) 7 ∷ Fact.Object 2 (Some (codes "z")) 5 ∷ Fact.Object 3 None 9 ∷ Fact.Object 4 None 0 ∷ []
values = refl

parts : map (λ t. fact worked (Ask.Transaction t)) (4 ∷ 5 ∷ 6 ∷ 7 ∷ 8 ∷ 9 ∷ 10 ∷ []) ≡ Fact.Transaction 4 None ∷ Fact.Transaction 5 (Some parts_of_5) ∷ Fact.Transaction 6 None ∷ Fact.Transaction 7 (Some parts_of_7) ∷ Fact.Transaction 8 None ∷ Fact.Transaction 9 (Some parts_of_9) ∷ Fact.Transaction 10 None ∷ []
parts = refl

rows : fact worked Ask.Log ≡ Fact.Log (row_of 5 ∷ row_of 7 ∷ row_of 9 ∷ [])
rows = refl

-- The same transactions behind a pack: what the packed ones changed is no longer known, and no row is left of them; the
-- values stay, and so does what the later ones changed.
abbrev packed_to : ℕ → History
packed_to floor = record { floor = floor; transactions = worked.transactions }

packed_values : map (λ o. fact (packed_to 6) (Ask.Object o)) (1 ∷ 2 ∷ []) ≡ Fact.Object 1 (Some (codes "c")) 7 ∷ Fact.Object 2 (Some (codes "z")) 5 ∷ []
packed_values = refl

packed_parts : map (λ t. fact (packed_to 6) (Ask.Transaction t)) (5 ∷ 6 ∷ 7 ∷ []) ≡ Fact.Transaction 5 None ∷ Fact.Transaction 6 None ∷ Fact.Transaction 7 (Some parts_of_7) ∷ []
packed_parts = refl

packed_rows : fact (packed_to 6) Ask.Log ≡ Fact.Log (row_of 7 ∷ row_of 9 ∷ [])
packed_rows = refl

-- the floor itself was packed too
at_floor : map (λ t. fact (packed_to 7) (Ask.Transaction t)) (7 ∷ 9 ∷ []) ≡ Fact.Transaction 7 None ∷ Fact.Transaction 9 (Some parts_of_9) ∷ []
at_floor = refl

-- with the floor at the last transaction, or behind it, nothing can be undone, and every value stays
at_last : map (fact (packed_to 9)) (Ask.Object 1 ∷ Ask.Transaction 9 ∷ Ask.Log ∷ []) ≡ Fact.Object 1 (Some (codes "c")) 7 ∷ Fact.Transaction 9 None ∷ Fact.Log [] ∷ []
at_last = refl

behind_last : map (fact (packed_to 12)) (Ask.Object 1 ∷ Ask.Transaction 9 ∷ Ask.Log ∷ []) ≡ Fact.Object 1 (Some (codes "c")) 7 ∷ Fact.Transaction 9 None ∷ Fact.Log [] ∷ []
behind_last = refl

-- what stood up to an id keeps the floor, so that its facts look at it too
floors_stay : ((upto (packed_to 6) 7).floor ≡ 6) × ((before (packed_to 6) 7).floor ≡ 6)
floors_stay = (refl, refl)

packed_front : map (fact (upto (packed_to 6) 7)) (Ask.Transaction 5 ∷ Ask.Transaction 7 ∷ Ask.Transaction 9 ∷ Ask.Log ∷ []) ≡ Fact.Transaction 5 None ∷ Fact.Transaction 7 (Some parts_of_7) ∷ Fact.Transaction 9 None ∷ Fact.Log (row_of 7 ∷ []) ∷ []
packed_front = refl

-- ---- what is known of each ask

abbrev known : List Fact
known = Fact.Object 1 None 7 ∷ Fact.Transaction 1 None ∷ []

found : map (look known) (Ask.Object 1 ∷ Ask.Transaction 1 ∷ []) ≡ Some (Fact.Object 1 None 7) ∷ Some (Fact.Transaction 1 None) ∷ []
found = refl

not_found : map (look known) (Ask.Object 7 ∷ Ask.Transaction 2 ∷ Ask.Log ∷ []) ≡ None ∷ None ∷ None ∷ []
not_found = refl

found_behind : look (known ++ Fact.Log [] ∷ []) Ask.Log ≡ Some (Fact.Log [])
found_behind = refl

-- ---- what requests of cells come to over the history

abbrev comes_to : CellRequest → Outcome
comes_to request = exec eval_cell worked request

abbrev lines : List (List ℕ) → List Outcome
lines texts = map (λ text. Outcome.Answer (line_reply text)) texts

cells_read : map (λ o. comes_to (CellRequest.Read o)) (0 ∷ 1 ∷ 2 ∷ 3 ∷ 4 ∷ []) ≡ lines (codes "none" ∷ codes "63" ∷ codes "7a" ∷ codes "none" ∷ codes "none" ∷ [])
cells_read = refl

abbrev changes : Name → List (List ℕ) → List Outcome
changes name texts = map (λ text. Outcome.Change (line_reply (codes "done")) (written name text)) texts

abbrev with_pluses : List (List ℕ)
with_pluses = codes "+" ∷ codes "c+" ∷ codes "z+" ∷ codes "+" ∷ codes "+" ∷ []

-- to whichever cell
cells_copied : (to : ℕ) → map (λ o. comes_to (CellRequest.Copy o to)) (0 ∷ 1 ∷ 2 ∷ 3 ∷ 4 ∷ []) ≡ changes (Name.Old to) with_pluses
cells_copied to = refl

cells_made : map (λ o. comes_to (CellRequest.New o)) (0 ∷ 1 ∷ 2 ∷ 3 ∷ 4 ∷ []) ≡ changes (Name.New 0) with_pluses
cells_made = refl

transactions_counted : comes_to CellRequest.Log ≡ Outcome.Answer (line_reply (decimal 3))
transactions_counted = refl

parts_counted : map (λ t. comes_to (CellRequest.Part t)) (4 ∷ 5 ∷ 6 ∷ 7 ∷ 8 ∷ 9 ∷ 10 ∷ []) ≡ lines (codes "none" ∷ decimal 2 ∷ codes "none" ∷ decimal 1 ∷ codes "none" ∷ decimal 1 ∷ codes "none" ∷ [])
parts_counted = refl

-- ---- texts that are no requests

abbrev other_texts : List (List ℕ)
other_texts =
    codes "" ∷ codes "read" ∷ codes "read " ∷ codes "see 0000000000000001" ∷ codes "Read 0000000000000001"
    ∷ codes "read 000000000000000A" ∷ codes "read 000000000000001" ∷ codes "read 00000000000000001"
    ∷ codes "read 0000000000000001 " ∷ (codes "read 0000000000000001" ++ 10 ∷ []) ∷ codes "read  0000000000000001"
    ∷ codes " read 0000000000000001" ∷ codes "read 0000000000000001 0000000000000002"
    ∷ codes "new" ∷ codes "new 000000000000000g" ∷ codes "part 0000000000000001x"
    ∷ codes "copy 0000000000000001" ∷ codes "copy 0000000000000001 " ∷ codes "copy 00000000000000010000000000000002"
    ∷ codes "copy 0000000000000001  0000000000000002" ∷ codes "copy 0000000000000001 000000000000002"
    ∷ codes "copy 0000000000000001 0000000000000002 " ∷ codes "log " ∷ (codes "log" ++ 10 ∷ []) ∷ codes "lo" ∷ []

no_requests : map takes_cell other_texts ≡ map (λ text. None) other_texts
no_requests = refl

-- ---- the names of permissions

names : map permission_text (0 ∷ 1 ∷ 2 ∷ 3 ∷ 4 ∷ 5 ∷ 6 ∷ 7 ∷ 8 ∷ 9 ∷ 10 ∷ 11 ∷ 12 ∷ 13 ∷ 14 ∷ []) ≡ [] ∷ codes "View" ∷ codes "Access contents information" ∷ codes "Add Folders" ∷ codes "Add Documents, Images, and Files" ∷ codes "Change DTML Methods" ∷ codes "Change DTML Documents" ∷ codes "Delete objects" ∷ codes "Manage properties" ∷ codes "Change permissions" ∷ codes "Manage users" ∷ codes "Add User Folders" ∷ codes "Undo changes" ∷ codes "Change proxy roles" ∷ [] ∷ []
unfolding permission_text
names = refl

-- each by its whole name alone
numbers : map permission_named (codes "View" ∷ codes "Undo changes" ∷ codes "Change proxy roles" ∷ codes "view" ∷ codes "View " ∷ codes "Vie" ∷ [] ∷ []) ≡ Some 1 ∷ Some 12 ∷ Some 13 ∷ None ∷ None ∷ None ∷ None ∷ []
unfolding permission_named permission_text
numbers = refl
