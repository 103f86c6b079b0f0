-- How the parts of a DTML source are spelled. Texts are lists of bytes; letters are ASCII.
--
-- Zope Book, "Basic DTML" and appendix "DTML Reference": tags `<dtml-..>` and `</dtml-..>`, entities `&dtml-..;`.
use Rattle.std.specs.Prelude.{◌≡◌, ◌⊎◌, ℕ, ◌<◌, Bool, false, not, ◌&&◌, ◌||◌, ◌==◌, nat_le, nat_eq, IsTrue, List, [], ◌∷◌, ◌++◌, length, drop, codes}
use Rattle.std.specs.List.{list_all, starts_with}
use Rattle.dtml_lex.specs.declared.part.TagName.{TagName}
use Rattle.dtml_lex.specs.declared.part.TagName.TheVariants.{Var, Call, If, Elif, Else, Unless, In, With, Let, Comment}
use Rattle.dtml_lex.specs.declared.part.Attribute.{Attribute}
use Rattle.dtml_lex.specs.declared.part.Attribute.TheVariants.{Word, Bare, Quoted, Quotation}
use Rattle.dtml_lex.specs.declared.part.PartKind.{PartKind}
use Rattle.dtml_lex.specs.declared.part.PartKind.TheVariants.{Plain, Entity, Opening, Closing}

-- white space: tab, line feed, carriage return and space
abbrev pub is_blank : ℕ → Bool
is_blank b = (b == 9) || (b == 10) || (b == 13) || (b == 32)

-- a byte of a word: no white space, and none of `"`, `>` and `=`
abbrev pub is_word_byte : ℕ → Bool
is_word_byte b = not (is_blank b || (b == 34) || (b == 62) || (b == 61))

-- a byte of a text in quotes
abbrev pub is_unquoted : ℕ → Bool
is_unquoted b = not (b == 34)

abbrev pub is_between : ℕ → ℕ → ℕ → Bool
is_between low high b = nat_le low b && nat_le b high

abbrev pub is_lower : ℕ → Bool
is_lower b = is_between 97 122 b

abbrev pub is_letter : ℕ → Bool
is_letter b = is_between 65 90 b || is_lower b

-- a letter, a digit, `_`, `-` or `.`
abbrev pub is_name_byte : ℕ → Bool
is_name_byte b = is_letter b || is_between 48 57 b || (b == 95) || (b == 45) || (b == 46)

-- one or more such bytes
abbrev pub is_some_of : (ℕ → Bool) → List ℕ → Bool
is_some_of p [] = false
is_some_of p (b ∷ bs) = list_all p (b ∷ bs)

-- a word, or a value without quotes
abbrev pub is_word : List ℕ → Bool
is_word = is_some_of is_word_byte

-- a letter, and then bytes that a name may have
abbrev pub is_name : List ℕ → Bool
is_name [] = false
is_name (b ∷ bs) = is_letter b && list_all is_name_byte bs

abbrev pub tag_text : TagName → List ℕ
tag_text Var = codes "var"
tag_text Call = codes "call"
tag_text If = codes "if"
tag_text Elif = codes "elif"
tag_text Else = codes "else"
tag_text Unless = codes "unless"
tag_text In = codes "in"
tag_text With = codes "with"
tag_text Let = codes "let"
tag_text Comment = codes "comment"

abbrev pub attribute_text : Attribute → List ℕ
attribute_text (Word word) = word
attribute_text (Bare name value) = name ++ codes "=" ++ value
attribute_text (Quoted name value) = name ++ codes "=\"" ++ value ++ codes "\""
attribute_text (Quotation text) = codes "\"" ++ text ++ codes "\""

-- whether an attribute may be spelled so
abbrev pub is_attribute : Attribute → Bool
is_attribute (Word word) = is_word word
is_attribute (Bare name value) = is_word name && is_word value
is_attribute (Quoted name value) = is_word name && list_all is_unquoted value
is_attribute (Quotation text) = list_all is_unquoted text

-- the attributes of a tag: white space before each of them, and perhaps behind the last
abbrev pub SpellsAttributes : List Attribute → List ℕ → Type 0
SpellsAttributes [] text = IsTrue (list_all is_blank text)
SpellsAttributes (attribute ∷ more) text =
    (blanks : List ℕ) × (rest : List ℕ) × (text ≡ blanks ++ attribute_text attribute ++ rest)
    × IsTrue (is_some_of is_blank blanks) × IsTrue (is_attribute attribute) × SpellsAttributes more rest

-- a tag with its lead, `<dtml-` or `</dtml-`
abbrev pub SpellsTag : List ℕ → TagName → List Attribute → List ℕ → Type 0
SpellsTag lead name attributes text =
    (inner : List ℕ) × (text ≡ lead ++ tag_text name ++ inner ++ codes ">") × SpellsAttributes attributes inner

-- an entity stands at the front
abbrev pub HasEntity : List ℕ → Type 0
HasEntity bytes = (name : List ℕ) × (rest : List ℕ) × (bytes ≡ codes "&dtml-" ++ name ++ codes ";" ++ rest) × IsTrue (is_name name)

-- a tag begins at the front, rightly or not
abbrev pub begins_tag : List ℕ → Bool
begins_tag bytes = starts_with nat_eq bytes (codes "<dtml-") || starts_with nat_eq bytes (codes "</dtml-")

abbrev pub BeginsPart : List ℕ → Type 0
BeginsPart bytes = IsTrue (begins_tag bytes) ⊎ HasEntity bytes

-- plain text isn't empty, holds no beginning of a tag and no entity, and reaches up to the next one or to the end
abbrev pub IsPlain : List ℕ → List ℕ → Type 0
IsPlain text rest = (0 < length text) × ((n : ℕ) → n < length text → ¬ BeginsPart (drop n (text ++ rest))) × ((rest ≡ []) ⊎ BeginsPart rest)

-- a part, its text and what follows it
abbrev pub IsPart : PartKind → List ℕ → List ℕ → Type 0
IsPart (Plain plain) text rest = (text ≡ plain) × IsPlain text rest
IsPart (Entity name) text rest = (text ≡ codes "&dtml-" ++ name ++ codes ";") × IsTrue (is_name name)
IsPart (Opening name attributes) text rest = SpellsTag (codes "<dtml-") name attributes text
IsPart (Closing name attributes) text rest = SpellsTag (codes "</dtml-") name attributes text

-- a tag begins at the front, and no part is spelled there
abbrev pub IsBadTag : List ℕ → Type 0
IsBadTag bytes = IsTrue (begins_tag bytes) × ((kind : PartKind) (text rest : List ℕ) → bytes ≡ text ++ rest → ¬ IsPart kind text rest)
