-- The two marks that put other characters in the place of some of ASCII's, as the code has them: one function for both.
use Rattle.std.specs.Prelude.{ℕ, ◌==◌, ◌||◌, Bool, not, List}
use Rattle.dtml_format.specs.declared.replacing.Mark.{Mark}
use Rattle.dtml_format.specs.declared.replacing.Mark.TheVariants.{Html, Lines}
use Rattle.dtml_format.specs.Shaping.{html_byte, line_byte}

-- what a mark makes of a byte
abbrev pub byte_of : Mark → ℕ → List ℕ
byte_of Html b = html_byte b
byte_of Lines b = line_byte b

-- whether a mark changes a byte
abbrev pub changes : Mark → ℕ → Bool
changes Html b = b == 38 || b == 60 || b == 62 || b == 34
changes Lines b = b == 13 || b == 10

-- whether a byte stays as it is
abbrev pub stays : Mark → ℕ → Bool
stays mark b = not (changes mark b)
