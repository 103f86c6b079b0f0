-- Worked rows: a document is added, that is undone, the undo is undone, and an edit stands in the way of a third undo.
use Rattle.std.proofs.Common.{◌≡◌, ℕ, List, [], ◌∷◌, map, Some, None, Ok, Err, refl, codes}
use Rattle.zbase.specs.History.{Value, Transaction, History, added}
use Rattle.zbase.specs.Query.{Cause, run}
use Rattle.zbase.specs.Values.{value}
use Rattle.evaluator.specs.declared.draft.Draft.{Draft}
use Rattle.evaluator.specs.declared.draft.Entry.{Entry}
use Rattle.evaluator.specs.Settle.{settle}
use Rattle.fs_undo.specs.Undo.{Changed, NoTransaction, present, undo, undo_parts}
use Rattle.fs_undo.specs.Undone.{in_history}

abbrev wrote : ℕ → List (ℕ × Value) → Transaction
wrote t records = record { tid = t; user = []; description = []; extension = []; records = records }

-- a root, its user folder and a method; then the root with a document more, and that document
abbrev added_document : History
added_document = record {
  floor = 0;
  transactions =
      wrote 10 ((0, Some (codes "root")) ∷ (1, Some (codes "users")) ∷ (2, Some (codes "index")) ∷ [])
      ∷ wrote 11 ((0, Some (codes "root with d")) ∷ (3, Some (codes "hi")) ∷ [])
      ∷ [];
}

abbrev restored : List Entry → Draft
restored entries = record { user = codes "admin"; description = codes "/manage_undo_transactions"; entries = entries }

-- the root goes back to the first transaction, and the document to nothing
abbrev first_undo : List Entry
first_undo = Entry.Restore 0 10 ∷ Entry.Restore 3 0 ∷ []

undo_of_add : run (in_history added_document) (undo 11) ≡ Ok first_undo
unfolding undo undo_parts present
undo_of_add = refl

abbrev undone_document : History
undone_document = added added_document (settle added_document (restored first_undo) 12)

put_back : map (value undone_document) (0 ∷ 1 ∷ 2 ∷ 3 ∷ []) ≡ Some (codes "root") ∷ Some (codes "users") ∷ Some (codes "index") ∷ None ∷ []
put_back = refl

-- the undo of the undo: both go to the transaction that added the document
abbrev second_undo : List Entry
second_undo = Entry.Restore 0 11 ∷ Entry.Restore 3 11 ∷ []

undo_of_undo : run (in_history undone_document) (undo 12) ≡ Ok second_undo
unfolding undo undo_parts present
undo_of_undo = refl

abbrev redone_document : History
redone_document = added undone_document (settle undone_document (restored second_undo) 13)

there_again : map (value redone_document) (0 ∷ 3 ∷ []) ≡ Some (codes "root with d") ∷ Some (codes "hi") ∷ []
there_again = refl

-- an edit of the document stands in the way, as does another value of the root
abbrev edited_document : History
edited_document = added redone_document (wrote 14 ((3, Some (codes "ho")) ∷ []))

changed_since : map (λ t. run (in_history edited_document) (undo t)) (13 ∷ 12 ∷ 11 ∷ []) ≡ Err (Cause (Changed 3)) ∷ Err (Cause (Changed 0)) ∷ Err (Cause (Changed 3)) ∷ []
unfolding undo undo_parts present
changed_since = refl

-- the edit itself can be undone
edit_undone : run (in_history edited_document) (undo 14) ≡ Ok (Entry.Restore 3 13 ∷ [])
unfolding undo undo_parts present
edit_undone = refl

no_transaction : run (in_history edited_document) (undo 7) ≡ Err (Cause (NoTransaction 7))
unfolding undo undo_parts
no_transaction = refl

-- nothing up to the floor can be undone
abbrev packed_document : History
packed_document = record { floor = 12; transactions = edited_document.transactions }

packed : map (λ t. run (in_history packed_document) (undo t)) (11 ∷ 12 ∷ 14 ∷ []) ≡ Err (Cause (NoTransaction 11)) ∷ Err (Cause (NoTransaction 12)) ∷ Ok (Entry.Restore 3 13 ∷ []) ∷ []
unfolding undo undo_parts present
packed = refl
