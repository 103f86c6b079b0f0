-- Worked rows, which compute.
use Rattle.std.specs.Prelude.{ℕ, ◌≡◌, refl, Some, None, [], ◌∷◌, ◌++◌, true, false, codes}
use Rattle.dtml_format.specs.declared.marks.Marks.{Marks}
use Rattle.dtml_format.specs.Shaping.{shape, sized, quoted, cased, html_quote, newline_to_br, lower, first_chars, chars, last_space}

none : Marks
none = record { html_quote = false; url_quote = false; newline_to_br = false; lower = false; upper = false; capitalize = false; size = None; etc = None }

sized_to : ℕ → Marks
sized_to n = record none { size = Some n }

-- `size=6`
last_space_is_early : shape (codes "abc def") (sized_to 6) ≡ codes "abc de..."
unfolding shape quoted cased sized sized_to none first_chars chars last_space
last_space_is_early = refl

last_space_is_late : shape (codes "abcd ef") (sized_to 6) ≡ codes "abcd ..."
unfolding shape quoted cased sized sized_to none first_chars chars last_space
last_space_is_late = refl

-- `html_quote size=3`
size_comes_last : shape (codes "a&b") (record (sized_to 3) { html_quote = true }) ≡ codes "a&a..."
unfolding shape quoted cased sized sized_to none html_quote first_chars chars last_space
size_comes_last = refl

-- a text that isn't longer stays, and an `etc` that is empty is none of the dots
size_is_reached : shape (codes "abc") (sized_to 3) ≡ codes "abc"
unfolding shape quoted cased sized sized_to none first_chars chars last_space
size_is_reached = refl

empty_etc : shape (codes "abcd") (record (sized_to 3) { etc = Some [] }) ≡ codes "abc"
unfolding shape quoted cased sized sized_to none first_chars chars last_space
empty_etc = refl

-- two characters of two bytes and one of three
characters_are_counted : shape (195 ∷ 164 ∷ 195 ∷ 182 ∷ 226 ∷ 130 ∷ 172 ∷ []) (sized_to 2) ≡ 195 ∷ 164 ∷ 195 ∷ 182 ∷ codes "..."
unfolding shape quoted cased sized sized_to none first_chars chars last_space
characters_are_counted = refl

quoted_in_html : shape (codes "<a>&\"") (record none { html_quote = true }) ≡ codes "&lt;a&gt;&amp;&quot;"
unfolding shape quoted cased sized none html_quote
quoted_in_html = refl

-- the bytes a CR, an LF
lines_are_broken : shape (97 ∷ 13 ∷ 10 ∷ 98 ∷ []) (record none { newline_to_br = true }) ≡ codes "a<br />" ++ 10 ∷ codes "b"
unfolding shape quoted cased sized none newline_to_br
lines_are_broken = refl

-- `lower`, then `capitalize`
first_of_lower : shape (codes "ABC d") (record none { lower = true; capitalize = true }) ≡ codes "Abc d"
unfolding shape quoted cased sized none lower
first_of_lower = refl
