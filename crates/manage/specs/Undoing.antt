-- The two calls over a history: the id of the transaction that is to be undone, the entries that undo it, and the page of
-- the newest transactions.
--
-- Zope Developer's Guide, "Undo".
use Rattle.std.specs.Prelude.{ℕ, ◌-◌, List, ◌++◌, length, drop, flat_map, reverse, Option, Some, None, Ok, Err, codes}
use Rattle.std.specs.Str.Lossy.{utf8_lossy}
use Rattle.zbase.specs.Hex.{hex16_text}
use Rattle.zbase.specs.Query.{Query, or_else}
use Rattle.evaluator.specs.declared.ask.Ask.{Ask}
use Rattle.evaluator.specs.declared.draft.Entry.{Entry}
use Rattle.evaluator.specs.declared.fact.Fact.{Fact}
use Rattle.evaluator.specs.declared.fact.LogRow.{LogRow}
use Rattle.evaluator.specs.Cells.{read_hex16}
use Rattle.fs_undo.specs.declared.undoing.UndoHalt.{UndoHalt}
use Rattle.fs_undo.specs.declared.undoing.UndoHalt.TheVariants as halts
use Rattle.fs_undo.specs.Undo as undoing
use Rattle.form_fields.specs.declared.field.Field.{Field}
use Rattle.form_fields.specs.declared.field.FieldValue.{FieldValue}
use Rattle.form_fields.specs.declared.field.FieldValue.TheVariants as values
use Rattle.manage.specs.declared.refusal.FieldName.TheVariants.{Tid}
use Rattle.manage.specs.declared.refusal.ManageRefusal.{ManageRefusal}
use Rattle.manage.specs.declared.refusal.ManageRefusal.TheVariants as refusals
use Rattle.manage.specs.declared.undoing.TheConstants.{MOST_SHOWN}
use Rattle.manage.specs.Fields.{Checked, scalar_text, value_of}

-- ---- the transaction that is to be undone

abbrev pub id_or_bad : Option ℕ → Checked ℕ
id_or_bad None = Err (refusals.BadField Tid)
id_or_bad (Some t) = Ok t

-- sixteen hexadecimal digits in lower case; no text is too long, but of another form
abbrev pub id_in : FieldValue → Checked ℕ
id_in (values.One scalar) = id_or_bad (read_hex16 (scalar_text scalar))
id_in (values.List scalars) = Err (refusals.BadField Tid)

abbrev pub where_id : Option FieldValue → Checked ℕ
where_id None = Err (refusals.Missing Tid)
where_id (Some value) = id_in value

abbrev pub undone_id : List Field → Checked ℕ
undone_id form = where_id (value_of Tid form)

-- ---- the undo

abbrev pub undo_refusal : undoing.Fault → ManageRefusal
undo_refusal (undoing.NoTransaction t) = refusals.NoSuchTransaction t
undo_refusal (undoing.Changed o) = refusals.UndoChanged o

-- the entries that undo a transaction
unfoldable pub undone : ℕ → Query Ask Fact ManageRefusal (List Entry)
undone t = or_else undo_refusal (undoing.undo t)

abbrev pub refusal_of : UndoHalt → ManageRefusal
refusal_of halts.Memory = refusals.Memory
refusal_of (halts.Need ask) = refusals.Need ask
refusal_of (halts.NoTransaction t) = refusals.NoSuchTransaction t
refusal_of (halts.Changed o) = refusals.UndoChanged o

-- ---- the newest transactions

abbrev pub lossy : List ℕ → List ℕ
lossy bytes = utf8_lossy bytes

-- the id, the user and the description; bytes that aren't UTF-8 are replaced
abbrev pub row_text : LogRow → List ℕ
row_text row = hex16_text row.tid ++ codes " " ++ lossy row.user ++ codes " " ++ lossy row.description ++ codes "\n"

-- the last of a log, whose rows stand oldest first
abbrev pub newest : List LogRow → List LogRow
newest rows = drop (length rows - MOST_SHOWN) rows

-- the newest transactions, one a line, the newest first
unfoldable pub log_text : List LogRow → List ℕ
log_text rows = flat_map row_text (reverse (newest rows))
