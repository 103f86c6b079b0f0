-- The kinds of byte that the code tells apart.
use Rattle.std.specs.Prelude.{ℕ, Bool}
use Rattle.dtml_lex.specs.Spelling.{is_blank, is_word_byte, is_lower, is_letter, is_name_byte, is_unquoted}
use Rattle.dtml_lex.specs.declared.bytes.Class.{Class}
use Rattle.dtml_lex.specs.declared.bytes.Class.TheVariants.{Blank, Word, Lower, Letter, Name, Unquoted}

abbrev pub has : Class → ℕ → Bool
has Blank = is_blank
has Word = is_word_byte
has Lower = is_lower
has Letter = is_letter
has Name = is_name_byte
has Unquoted = is_unquoted
