-- Reading the part at the front of a text, from left to right. A reader answers what it read and the bytes behind
-- it, or nothing where the front has no such form.
use Rattle.std.specs.Prelude.{ℕ, zero, suc, Bool, false, ◌||◌, nat_eq, if◌then◌else◌, List, [], ◌∷◌, length, take, drop, codes, Option, Some, None, is_some}
use Rattle.std.specs.List.{starts_with, take_while, prefix_len, find}
use Rattle.std.specs.Str.{bytes_eq}
use Rattle.dtml_lex.specs.Spelling.{is_blank, is_word_byte, is_unquoted, is_lower, is_letter, is_name_byte, tag_text}
use Rattle.dtml_lex.specs.declared.part.TagName.{TagName}
use Rattle.dtml_lex.specs.declared.part.TagName.TheVariants.{Var, Call, If, Elif, Else, Unless, In, With, Let, Comment}
use Rattle.dtml_lex.specs.declared.part.Attribute.{Attribute}
use Rattle.dtml_lex.specs.declared.part.Attribute.TheVariants.{Word, Bare, Quoted, Quotation}
use Rattle.dtml_lex.specs.declared.part.PartKind.{PartKind}
use Rattle.dtml_lex.specs.declared.part.PartKind.TheVariants.{Plain, Entity, Opening, Closing}

abbrev pub Reads : Type 0 → Type 0
Reads X = Option (X × List ℕ)

infixl 10 ◌>>=◌
abbrev pub ◌>>=◌ : {A B : Type 0} → Option A → (A → Option B) → Option B
(Some x) >>= f = f x
None >>= f = None

-- the bytes behind a front
abbrev pub strip : List ℕ → List ℕ → Option (List ℕ)
strip bytes front = if starts_with nat_eq bytes front then Some (drop (length front) bytes) else None

-- whether the first byte is such a one
abbrev pub begins : (ℕ → Bool) → List ℕ → Bool
begins p [] = false
begins p (b ∷ bs) = p b

-- the longest run of such bytes, and what follows it
abbrev pub run : (ℕ → Bool) → List ℕ → List ℕ × List ℕ
run p bytes = (take_while p bytes, drop (prefix_len p bytes) bytes)

-- ---- attributes

-- a word, or a value without quotes
unfoldable pub word_at : List ℕ → Reads (List ℕ)
word_at bytes = if begins is_word_byte bytes then Some (run is_word_byte bytes) else None

-- behind a quote: the text up to the next quote, and what follows that
unfoldable pub quotation_at : List ℕ → Reads (List ℕ)
quotation_at bytes = do
  rest ← strip (run is_unquoted bytes).1 (codes "\"")
  Some ((run is_unquoted bytes).0, rest)

-- a value, where a quote opens it and what follows that, or where none does
abbrev pub value_from : List ℕ → List ℕ → Option (List ℕ) → Reads Attribute
value_from name bytes (Some inner) = quotation_at inner >>= λ value. Some (Quoted name value.0, value.1)
value_from name bytes None = word_at bytes >>= λ value. Some (Bare name value.0, value.1)

-- behind the name of an attribute and `=`: its value
unfoldable pub value_at : List ℕ → List ℕ → Reads Attribute
value_at name bytes = value_from name bytes (strip bytes (codes "\""))

-- behind a word: its value, where `=` follows
abbrev pub word_then : List ℕ × List ℕ → Option (List ℕ) → Reads Attribute
word_then word (Some inner) = value_at word.0 inner
word_then word None = Some (Word word.0, word.1)

abbrev pub attribute_from : List ℕ → Option (List ℕ) → Reads Attribute
attribute_from bytes (Some inner) = quotation_at inner >>= λ text. Some (Quotation text.0, text.1)
attribute_from bytes None = word_at bytes >>= λ word. word_then word (strip word.1 (codes "="))

-- `"TEXT"`, `WORD`, `WORD=VALUE` or `WORD="TEXT"`
unfoldable pub attribute_at : List ℕ → Reads Attribute
attribute_at bytes = attribute_from bytes (strip bytes (codes "\""))

-- an attribute behind white space
unfoldable pub next_attribute : List ℕ → Reads Attribute
next_attribute bytes = if begins is_blank bytes then attribute_at (run is_blank bytes).1 else None

-- what follows the `>` of a tag, which may stand behind white space
unfoldable pub tag_end : List ℕ → Option (List ℕ)
tag_end bytes = strip (run is_blank bytes).1 (codes ">")

abbrev pub with_first : Attribute → Reads (List Attribute) → Reads (List Attribute)
with_first attribute more = more >>= λ x. Some (attribute ∷ x.0, x.1)

abbrev pub attributes_from : (List ℕ → Reads (List Attribute)) → List ℕ → Option (List ℕ) → Reads (List Attribute)
attributes_from again bytes (Some rest) = Some ([], rest)
attributes_from again bytes None = next_attribute bytes >>= λ x. with_first x.0 (again x.1)

-- the attributes of a tag up to its `>`; `fuel` is any number that isn't below the number of bytes
unfoldable pub attributes_at : ℕ → List ℕ → Reads (List Attribute)
attributes_at zero bytes = None
attributes_at (suc fuel) bytes = attributes_from (attributes_at fuel) bytes (tag_end bytes)

-- ---- tags

abbrev pub tag_names : List TagName
tag_names = Var ∷ Call ∷ If ∷ Elif ∷ Else ∷ Unless ∷ In ∷ With ∷ Let ∷ Comment ∷ []

-- the tag of a name
unfoldable pub tag_named : List ℕ → Option TagName
tag_named word = find (λ name. bytes_eq (tag_text name) word) tag_names

-- behind `<dtml-` or `</dtml-`: lower-case letters, attributes and `>`
unfoldable pub tag_at : List ℕ → Reads (TagName × List Attribute)
tag_at bytes = do
  name ← tag_named (run is_lower bytes).0
  attributes ← attributes_at (length (run is_lower bytes).1) (run is_lower bytes).1
  Some ((name, attributes.0), attributes.1)

-- ---- parts

-- a letter, and then letters, digits, `_`, `-` and `.`
unfoldable pub name_at : List ℕ → Reads (List ℕ)
name_at bytes = if begins is_letter bytes then Some (run is_name_byte bytes) else None

-- `&dtml-NAME;`
unfoldable pub entity_at : List ℕ → Reads (List ℕ)
entity_at bytes = do
  inner ← strip bytes (codes "&dtml-")
  name ← name_at inner
  rest ← strip name.1 (codes ";")
  Some (name.0, rest)

-- whether a tag or an entity begins at the front
unfoldable pub begins_part : List ℕ → Bool
begins_part bytes = is_some (strip bytes (codes "<dtml-")) || is_some (strip bytes (codes "</dtml-")) || is_some (entity_at bytes)

-- how many bytes stand before the next tag or entity
unfoldable pub plain_len : List ℕ → ℕ
plain_len [] = 0
plain_len (b ∷ bs) = if begins_part (b ∷ bs) then 0 else suc (plain_len bs)

-- text that is no tag: an entity, or plain text up to the next tag or entity
abbrev pub text_from : List ℕ → Reads (List ℕ) → Reads PartKind
text_from bytes (Some entity) = Some (Entity entity.0, entity.1)
text_from bytes None = Some (Plain (take (plain_len bytes) bytes), drop (plain_len bytes) bytes)

abbrev pub closing_from : List ℕ → Option (List ℕ) → Reads PartKind
closing_from bytes (Some inner) = tag_at inner >>= λ tag. Some (Closing tag.0.0 tag.0.1, tag.1)
closing_from bytes None = text_from bytes (entity_at bytes)

abbrev pub opening_from : List ℕ → Option (List ℕ) → Reads PartKind
opening_from bytes (Some inner) = tag_at inner >>= λ tag. Some (Opening tag.0.0 tag.0.1, tag.1)
opening_from bytes None = closing_from bytes (strip bytes (codes "</dtml-"))

-- the part at the front; none where that is a tag that doesn't fit its form
unfoldable pub part_at : List ℕ → Reads PartKind
part_at bytes = opening_from bytes (strip bytes (codes "<dtml-"))
