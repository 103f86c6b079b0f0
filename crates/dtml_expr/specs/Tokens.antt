-- The tokens of a text. Letters and digits are ASCII, and each token is the longest that stands at its place.
use Rattle.std.specs.Prelude.{◌≡◌, ℕ, ◌^◌, ◌==◌, ◌||◌, nat_lt, nat_le, Bool, true, if◌then◌else◌, List, [], ◌∷◌, length, drop, codes, Option, Some, None, option_map}
use Rattle.std.specs.List.{prefix_len, take_while, position_or_len, before_first, after_first}
use Rattle.std.specs.Char.{is_ascii_digit, is_ascii_alphabetic}
use Rattle.std.specs.Str.{bytes_eq}
use Rattle.std.specs.Str.Parse.{digits_value}
use Rattle.dtml_expr.specs.declared.expr.Order.{Order}
use Rattle.dtml_expr.specs.declared.expr.Order.TheVariants.{Eq, Ne, Lt, Gt, Le, Ge}

pub data Token : Type 0 where
  Number : ℕ → Token
  Quoted : List ℕ → Token
  Name : List ℕ → Token
  Compared : Order → Token
  Or And Not Plus Minus Star Dot Open Close : Token

-- tab, line feed, carriage return and space
abbrev pub is_blank : ℕ → Bool
is_blank b = (b == 9) || (b == 10) || (b == 13) || (b == 32)

-- letters, digits and `_`
abbrev pub is_name_byte : ℕ → Bool
is_name_byte b = is_ascii_alphabetic b || is_ascii_digit b || (b == 95)

abbrev pub is_quote : ℕ → Bool
is_quote b = b == 39

-- `or`, `and` and `not` aren't names
abbrev pub word : List ℕ → Token
word w = if bytes_eq w (codes "or") then Or
    else if bytes_eq w (codes "and") then And
    else if bytes_eq w (codes "not") then Not
    else Name w

-- a sign with `=` behind it: `==`, `!=`, `<=`, `>=`
abbrev pub with_equals : ℕ → Option Token
with_equals a = if a == 61 then Some (Compared Eq)
    else if a == 33 then Some (Compared Ne)
    else if a == 60 then Some (Compared Le)
    else if a == 62 then Some (Compared Ge)
    else None

-- a sign alone: `<`, `>`, `+`, `-`, `*`, `.`, `(`, `)`
abbrev pub alone : ℕ → Option Token
alone a = if a == 60 then Some (Compared Lt)
    else if a == 62 then Some (Compared Gt)
    else if a == 43 then Some Plus
    else if a == 45 then Some Minus
    else if a == 42 then Some Star
    else if a == 46 then Some Dot
    else if a == 40 then Some Open
    else if a == 41 then Some Close
    else None

-- a token, and what follows it
abbrev pub Front : Type 0
Front = Token × List ℕ

-- of two tokens the longer one, where there is one
abbrev pub longer : Option Front → Option Front → Option Front
longer (Some x) short = Some x
longer None short = short

abbrev pub before : List ℕ → Option Token → Option Front
before rest sign = option_map (λ x. (x, rest)) sign

-- the sign at the front
abbrev pub sign_at : List ℕ → Option Front
sign_at [] = None
sign_at (a ∷ []) = before [] (alone a)
sign_at (a ∷ b ∷ rest) = longer (if b == 61 then before rest (with_equals a) else None) (before (b ∷ rest) (alone a))

-- digits whose value fits 64 bits, be it with a minus
abbrev pub number_at : List ℕ → Option Front
number_at bs =
    let n = digits_value 10 (take_while is_ascii_digit bs) in
    if nat_le n (2 ^ 63) then Some (Number n, drop (prefix_len is_ascii_digit bs) bs) else None

abbrev pub word_at : List ℕ → Option Front
word_at bs = Some (word (take_while is_name_byte bs), drop (prefix_len is_name_byte bs) bs)

-- what stands before the next quote; there are no escapes
abbrev pub quoted_at : List ℕ → Option Front
quoted_at bs = if nat_lt (position_or_len is_quote bs) (length bs) then Some (Quoted (before_first is_quote bs), after_first is_quote bs) else None

-- the token at the front of a text, and what follows it
unfoldable pub token_at : List ℕ → Option Front
token_at [] = None
token_at (b ∷ bs) =
    if is_ascii_digit b then number_at (b ∷ bs)
    else if is_ascii_alphabetic b then word_at (b ∷ bs)
    else if is_quote b then quoted_at bs
    else sign_at (b ∷ bs)

-- The tokens of a text, in order. White space may stand before each of them, and behind the last.
pub data AreTokens : List ℕ → List Token → Type 0 where
  end : AreTokens [] []
  blank : {b : ℕ} {bs : List ℕ} {ts : List Token} → is_blank b ≡ true → AreTokens bs ts → AreTokens (b ∷ bs) ts
  token : {bs rest : List ℕ} {x : Token} {ts : List Token} → token_at bs ≡ Some (x, rest) → AreTokens rest ts → AreTokens bs (x ∷ ts)
