-- What undoes a transaction, with its causes in the words of a call.
use Rattle.std.proofs.Common.{◌≡◌, ◌+◌, ◌<◌, ◌^◌, ◌++◌, ◌∷◌, [], ℕ, List, length, drop, get_or, flat_map, reverse, Option, Some, None, option_map, Ok, codes, refl, sym, ap, ◌∙◌, append_assoc, append-nil}
use Rattle.std.specs.Option.{option_or}
use Rattle.std.proofs.lemmas.Grind.{flat_map-append}
use Rattle.std.proofs.lemmas.List.{drop_more, reverse-append}
use Rattle.zbase.specs.Query.{Need, Cause, Told, run}
use Rattle.zbase.specs.QueryLaws.{or_else_goes, or_else_passes}
use Rattle.zbase.specs.Hex.{hex16_text}
use Rattle.evaluator.specs.declared.ask.Ask.{Ask}
use Rattle.evaluator.specs.declared.cells.CellRequest.{CellRequest}
use Rattle.evaluator.specs.Cells.{HasIds, cell_text, read_hex16, takes_cell}
use Rattle.evaluator.specs.declared.draft.Entry.{Entry}
use Rattle.evaluator.specs.declared.fact.Fact.{Fact}
use Rattle.evaluator.specs.declared.fact.LogRow.{LogRow}
use Rattle.fs_undo.specs.declared.undoing.UndoHalt.{UndoHalt}
use Rattle.fs_undo.specs.declared.undoing.UndoHalt.TheVariants as halts
use Rattle.fs_undo.specs.Undo as undoing
use Rattle.manage.specs.Calling.{told}
use Rattle.manage.specs.Undoing.{refusal_of, row_text, undo_refusal, undone}

-- ---- the id

-- A request of cells is read from its text, and from no other: so is the id in it.
abbrev ReadsCells : Type 0
ReadsCells = (q : CellRequest) → HasIds q → takes_cell (cell_text q) ≡ Some q

abbrev TellsCells : Type 0
TellsCells = (bytes : List ℕ) (q : CellRequest) → takes_cell bytes ≡ Some q → bytes ≡ cell_text q

read_is : (found : Option ℕ) (n : ℕ) → ◌≡◌ {A = Option CellRequest} (option_or (option_map CellRequest.Read found) None) (Some (CellRequest.Read n)) → found ≡ Some n
read_is None n e = absurd (let bad = e in cc)
read_is (Some m) n e = cc

pub is_id : ReadsCells → (digits : List ℕ) (n : ℕ) → hex16_text n ≡ digits → n < 2 ^ 64 → Some n ≡ read_hex16 digits
is_id reads digits n text few = sym (ap read_hex16 (sym text) ∙ read_is (read_hex16 (hex16_text n)) n (reads (CellRequest.Read n) few))

five_less : (a b c d e : ℕ) (xs ys : List ℕ) → ◌≡◌ {A = List ℕ} (a ∷ b ∷ c ∷ d ∷ e ∷ xs) (a ∷ b ∷ c ∷ d ∷ e ∷ ys) → xs ≡ ys
five_less a b c d e xs ys same = cc

pub is_no_id : TellsCells → (digits : List ℕ) → ((n : ℕ) → hex16_text n ≡ digits → ⊥) → None ≡ read_hex16 digits
is_no_id tells digits none = at (read_hex16 digits) refl
  where
    at : (found : Option ℕ) → read_hex16 digits ≡ found → None ≡ read_hex16 digits
    at None is = sym is
    at (Some n) is = absurd (none n (sym (five_less 114 101 97 100 32 digits (hex16_text n) (tells (codes "read " ++ digits) (CellRequest.Read n) (ap (λ (f : Option ℕ). option_or (option_map CellRequest.Read f) None) is)))))

-- ---- the undo

pub is_undone : (known : Ask → Option Fact) (t : ℕ) (entries : List Entry) → run known (undoing.undo t) ≡ Ok entries → run known (undone t) ≡ Ok entries
unfolding undone
is_undone known t entries e = or_else_goes known undo_refusal (undoing.undo t) entries e

pub is_refused : (known : Ask → Option Fact) (t : ℕ) (halt : UndoHalt) → Told (undoing.told halt) (run known (undoing.undo t)) → Told (told (refusal_of halt)) (run known (undone t))
unfolding undone
is_refused known t halts.Memory h = tt
is_refused known t (halts.Need ask) h = or_else_passes known undo_refusal (undoing.undo t) (Some (Need ask)) h
is_refused known t (halts.NoTransaction u) h = or_else_passes known undo_refusal (undoing.undo t) (Some (Cause (undoing.NoTransaction u))) h
is_refused known t (halts.Changed o) h = or_else_passes known undo_refusal (undoing.undo t) (Some (Cause (undoing.Changed o))) h

-- ---- the log page

-- a row more, in front of those that are written
pub one_more_row : (rows : List LogRow) (left i : ℕ) (row : LogRow) (out old new : List ℕ) → left ≡ i + 1 → i < length rows → row ≡ get_or rows i row → old ≡ out ++ flat_map row_text (reverse (drop left rows)) → new ≡ old ++ row_text row →
    new ≡ out ++ flat_map row_text (reverse (drop i rows))
one_more_row rows left i row out old new one lt is so more =
    let next : drop i rows ≡ row ∷ drop left rows = drop_more rows i row lt ∙ ap (λ (r : LogRow). r ∷ drop (i + 1) rows) (sym is) ∙ ap (λ n. row ∷ drop n rows) (sym one) in
    more ∙ ap (λ t. t ++ row_text row) so
    ∙ append_assoc out (flat_map row_text (reverse (drop left rows))) (row_text row)
    ∙ ap (λ t. out ++ t) (ap (λ t. flat_map row_text (reverse (drop left rows)) ++ t) (sym (append-nil (row_text row))) ∙ sym (flat_map-append row_text (reverse (drop left rows)) (row ∷ [])) ∙ ap (flat_map row_text) (sym (reverse-append (row ∷ []) (drop left rows)) ∙ ap reverse (sym next)))
