-- Marks that change no text.
use Rattle.std.specs.Prelude.{Bool, not, ◌||◌, is_some}
use Rattle.dtml_parse.specs.Trees.{Marks}

abbrev pub is_plain : Marks → Bool
is_plain m = not ((m.lower || m.upper || m.capitalize) || (m.html_quote || m.url_quote || m.newline_to_br) || is_some m.size)
