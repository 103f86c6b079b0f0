-- How a `dtml-var` shapes its text. Texts are UTF-8, seen as bytes.
--
-- Zope Book, appendix "DTML Reference", `var`: its attributes, in the order in which they apply.
use Rattle.std.specs.Prelude.{ℕ, zero, suc, ◌*◌, ◌==◌, ◌&&◌, ◌||◌, Bool, not, nat_lt, nat_le, List, [], ◌∷◌, ◌++◌, map, codes, Option, Some, None, if◌then◌else◌}
use Rattle.std.specs.List.{flat_map}
use Rattle.std.specs.Char.{is_ascii_alphanumeric, to_ascii_lowercase, to_ascii_uppercase}
use Rattle.percent_encoding.specs.Percent.{percent_encode_byte}
use Rattle.dtml_format.specs.declared.marks.Marks.{Marks}

-- ---- one mark each

-- `&`, `<`, `>` and `"` as entities
abbrev pub html_byte : ℕ → List ℕ
html_byte b =
    if b == 38 then codes "&amp;" else if b == 60 then codes "&lt;" else if b == 62 then codes "&gt;" else if b == 34 then codes "&quot;" else b ∷ []

unfoldable pub html_quote : List ℕ → List ℕ
html_quote text = flat_map html_byte text

-- letters, digits, `_`, `-`, `.`, `/`
abbrev pub is_kept : ℕ → Bool
is_kept b = (((is_ascii_alphanumeric b || b == 95) || b == 45) || b == 46) || b == 47

-- `%` and two upper-case hexadecimal digits for every other byte
abbrev pub url_byte : ℕ → List ℕ
url_byte b = if is_kept b then b ∷ [] else percent_encode_byte b

unfoldable pub url_quote : List ℕ → List ℕ
url_quote text = flat_map url_byte text

-- every CR is dropped, and `<br />` stands before each LF
abbrev pub line_byte : ℕ → List ℕ
line_byte b = if b == 13 then [] else if b == 10 then codes "<br />" ++ 10 ∷ [] else b ∷ []

unfoldable pub newline_to_br : List ℕ → List ℕ
newline_to_br text = flat_map line_byte text

unfoldable pub lower : List ℕ → List ℕ
lower text = map to_ascii_lowercase text

unfoldable pub upper : List ℕ → List ℕ
upper text = map to_ascii_uppercase text

-- the first character upper-case
abbrev pub capitalize : List ℕ → List ℕ
capitalize [] = []
capitalize (b ∷ rest) = to_ascii_uppercase b ∷ rest

-- ---- the size

-- whether a byte begins a character
abbrev pub begins : ℕ → Bool
begins b = not (nat_le 128 b && nat_lt b 192)

-- the first n characters
unfoldable pub first_chars : ℕ → List ℕ → List ℕ
first_chars n [] = []
first_chars zero (b ∷ rest) = if begins b then [] else b ∷ first_chars zero rest
first_chars (suc n) (b ∷ rest) = if begins b then b ∷ first_chars n rest else b ∷ first_chars (suc n) rest

-- how many characters there are
unfoldable pub chars : List ℕ → ℕ
chars [] = 0
chars (b ∷ rest) = if begins b then suc (chars rest) else chars rest

-- How many characters stand before the last space, if there is one; n is their number so far, and `found` what was
-- found so far.
unfoldable pub last_space : Option ℕ → ℕ → List ℕ → Option ℕ
last_space found n [] = found
last_space found n (b ∷ rest) = last_space (if b == 32 then Some n else found) (if begins b then suc n else n) rest

-- cut behind its last space, where that stands in the second half of n characters
abbrev pub at_space : ℕ → List ℕ → Option ℕ → List ℕ
at_space n text None = text
at_space n text (Some place) = if nat_lt n (2 * place) then first_chars (suc place) text else text

abbrev pub etc_or_dots : Option (List ℕ) → List ℕ
etc_or_dots None = codes "..."
etc_or_dots (Some etc) = etc

abbrev pub cut : ℕ → Option (List ℕ) → List ℕ → List ℕ
cut n etc text = at_space n (first_chars n text) (last_space None 0 (first_chars n text)) ++ etc_or_dots etc

-- a text of more than n characters is cut
unfoldable pub sized : Option ℕ → Option (List ℕ) → List ℕ → List ℕ
sized None etc text = text
sized (Some n) etc text = if nat_lt n (chars text) then cut n etc text else text

-- ---- all of them, in order

abbrev pub marked : Bool → (List ℕ → List ℕ) → List ℕ → List ℕ
marked does change text = if does then change text else text

-- the marks that put other characters in the place of some
unfoldable pub quoted : List ℕ → Marks → List ℕ
quoted text marks =
    let text = marked marks.html_quote html_quote text in
    let text = marked marks.url_quote url_quote text in
    marked marks.newline_to_br newline_to_br text

-- the marks on letters
unfoldable pub cased : List ℕ → Marks → List ℕ
cased text marks =
    let text = marked marks.lower lower text in
    let text = marked marks.upper upper text in
    marked marks.capitalize capitalize text

unfoldable pub shape : List ℕ → Marks → List ℕ
shape text marks = sized marks.size marks.etc (cased (quoted text marks) marks)
