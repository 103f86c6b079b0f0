-- The table of tags: which attributes each tag may have, and what they say. Texts are lists of bytes.
--
--   var                    ARG, and html_quote, url_quote, newline_to_br, lower, upper, capitalize, missing or
--                          missing=V, size=N, etc=V
--   in                     ARG, and reverse, skip_unauthorized
--   call if elif unless with    ARG
--   let                    one or more NAME=NAME or NAME="EXPR"
--   else comment           none
--
-- ARG is the first attribute: NAME, name=NAME, "EXPR" or expr="EXPR". No attribute stands twice.
-- Zope Book, appendix "DTML Reference".
use Rattle.std.specs.Prelude.{ℕ, Bool, true, false, not, ◌&&◌, ◌||◌, nat_le, nat_eq, if◌then◌else◌, List, [], ◌∷◌, length, map, codes, Option, Some, None, is_some}
use Rattle.std.specs.List.{list_all, list_any, find}
use Rattle.std.specs.Char.{is_ascii_digit}
use Rattle.std.specs.Str.{bytes_eq}
use Rattle.std.specs.Str.Parse.{digits_value}
use Rattle.dtml_lex.specs.Spelling.{is_name}
use Rattle.dtml_lex.specs.declared.part.TagName.{TagName}
use Rattle.dtml_lex.specs.declared.part.TagName.TheVariants as tags
use Rattle.dtml_lex.specs.declared.part.Attribute.{Attribute}
use Rattle.dtml_lex.specs.declared.part.Attribute.TheVariants.{Word, Bare, Quoted, Quotation}
use Rattle.dtml_parse.specs.Trees.{Marks}

infixl 10 ◌>>=◌
abbrev pub ◌>>=◌ : {A B : Type 0} → Option A → (A → Option B) → Option B
(Some x) >>= f = f x
None >>= f = None

-- an argument as it is spelled: a name, or the text of an expression
pub data Given : Type 0 where
  Name : List ℕ → Given
  Expression : List ℕ → Given

abbrev pub named : List ℕ → Option Given
named text = if is_name text then Some (Name text) else None

-- the argument that an attribute is
abbrev pub given : Attribute → Option Given
given (Word word) = named word
given (Bare name value) = if bytes_eq name (codes "name") then named value else None
given (Quoted name value) = if bytes_eq name (codes "expr") then Some (Expression value) else None
given (Quotation text) = Some (Expression text)

-- the binding that an attribute is: its name and its argument
abbrev pub binding : Attribute → Option (List ℕ × Given)
binding (Bare name value) = if is_name name && is_name value then Some (name, Name value) else None
binding (Quoted name value) = if is_name name then Some (name, Expression value) else None
binding _ = None

-- that word, without a value
abbrev pub is_word : List ℕ → Attribute → Bool
is_word word (Word text) = bytes_eq text word
is_word word _ = false

-- the value of an attribute of that name
abbrev pub value_under : List ℕ → Attribute → Option (List ℕ)
value_under name (Bare own value) = if bytes_eq own name then Some value else None
value_under name (Quoted own value) = if bytes_eq own name then Some value else None
value_under name _ = None

-- a decimal number of one to six digits
abbrev pub is_size : List ℕ → Bool
is_size text = not (nat_eq (length text) 0) && nat_le (length text) 6 && list_all is_ascii_digit text

abbrev pub has_size : Option (List ℕ) → Bool
has_size (Some value) = is_size value
has_size None = false

-- what `var` may have behind its argument
abbrev pub is_mark : Attribute → Bool
is_mark attribute =
    is_word (codes "html_quote") attribute || is_word (codes "url_quote") attribute || is_word (codes "newline_to_br") attribute
    || is_word (codes "lower") attribute || is_word (codes "upper") attribute || is_word (codes "capitalize") attribute
    || is_word (codes "missing") attribute || is_some (value_under (codes "missing") attribute)
    || has_size (value_under (codes "size") attribute)
    || is_some (value_under (codes "etc") attribute)

-- what `in` may have behind its argument
abbrev pub is_order : Attribute → Bool
is_order attribute = is_word (codes "reverse") attribute || is_word (codes "skip_unauthorized") attribute

-- the name under which an attribute stands; a text in quotes has none
abbrev pub attribute_name : Attribute → List ℕ
attribute_name (Word word) = word
attribute_name (Bare name value) = name
attribute_name (Quoted name value) = name
attribute_name (Quotation text) = []

-- no name stands twice
abbrev pub are_distinct : List (List ℕ) → Bool
are_distinct [] = true
are_distinct (name ∷ names) = not (list_any (bytes_eq name) names) && are_distinct names

abbrev pub each_once : List Attribute → Bool
each_once attributes = are_distinct (map attribute_name attributes)

-- the argument of a tag
abbrev pub argument : List Attribute → Option Given
argument [] = None
argument (attribute ∷ rest) = given attribute

abbrev pub behind_argument : List Attribute → List Attribute
behind_argument [] = []
behind_argument (attribute ∷ rest) = rest

-- an argument, and behind it attributes of a kind
abbrev pub has_argument_and : (Attribute → Bool) → List Attribute → Bool
has_argument_and allowed attributes =
    is_some (argument attributes) && list_all allowed (behind_argument attributes) && each_once (behind_argument attributes)

abbrev pub is_none : List Attribute → Bool
is_none attributes = nat_eq (length attributes) 0

abbrev pub has_only_argument : List Attribute → Bool
has_only_argument attributes = is_some (argument attributes) && is_none (behind_argument attributes)

-- whether a tag may have these attributes
abbrev pub fits : TagName → List Attribute → Bool
fits tags.Var attributes = has_argument_and is_mark attributes
fits tags.In attributes = has_argument_and is_order attributes
fits tags.Let attributes = not (is_none attributes) && list_all (λ attribute. is_some (binding attribute)) attributes && each_once attributes
fits tags.Else attributes = is_none attributes
fits tags.Comment attributes = is_none attributes
fits tags.Call attributes = has_only_argument attributes
fits tags.If attributes = has_only_argument attributes
fits tags.Elif attributes = has_only_argument attributes
fits tags.Unless attributes = has_only_argument attributes
fits tags.With attributes = has_only_argument attributes

-- ---- what the attributes behind an argument say

abbrev pub has_word : List ℕ → List Attribute → Bool
has_word word attributes = list_any (is_word word) attributes

-- the value under a name
abbrev pub value_of : List ℕ → List Attribute → Option (List ℕ)
value_of name attributes = find (λ attribute. is_some (value_under name attribute)) attributes >>= value_under name

-- `missing` without a value is the empty text
abbrev pub missing_of : List Attribute → Option (List ℕ)
missing_of attributes = if has_word (codes "missing") attributes then Some [] else value_of (codes "missing") attributes

abbrev pub size_value : List ℕ → Option ℕ
size_value text = if is_size text then Some (digits_value 10 text) else None

abbrev pub size_of : List Attribute → Option ℕ
size_of attributes = value_of (codes "size") attributes >>= size_value

abbrev pub marks : List Attribute → Marks
marks attributes = record {
  html_quote = has_word (codes "html_quote") attributes;
  url_quote = has_word (codes "url_quote") attributes;
  newline_to_br = has_word (codes "newline_to_br") attributes;
  lower = has_word (codes "lower") attributes;
  upper = has_word (codes "upper") attributes;
  capitalize = has_word (codes "capitalize") attributes;
  missing = missing_of attributes;
  size = size_of attributes;
  etc = value_of (codes "etc") attributes;
}

-- what an entity says
abbrev pub only_html_quote : Marks
only_html_quote = record {
  html_quote = true;
  url_quote = false;
  newline_to_br = false;
  lower = false;
  upper = false;
  capitalize = false;
  missing = None;
  size = None;
  etc = None;
}
