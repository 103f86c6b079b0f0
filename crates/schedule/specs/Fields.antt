-- The fields of a row, as the writer has them.
use Rattle.std.specs.Prelude.{ℕ, List, decimal}
use Rattle.zbase.specs.Hex.{hex16_text, hex_bytes}
use Rattle.schedule.specs.declared.row.Field.{Field}
use Rattle.schedule.specs.declared.row.Field.TheVariants.{Number, Id, Word, Digits}

abbrev pub field_text : Field → List ℕ
field_text (Number n) = decimal n
field_text (Id n) = hex16_text n
field_text (Word text) = text.now
field_text (Digits bytes) = hex_bytes bytes.now
