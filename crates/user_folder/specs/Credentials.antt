-- The credentials of a request's header `Authorization`.
--
-- RFC 9110, "Credentials": a scheme without case, a space, and what the scheme says; RFC 7617, "The 'Basic' HTTP
-- Authentication Scheme": base64 of a name, a colon and a password, in UTF-8.
use Rattle.std.specs.Prelude.{ℕ, ◌==◌, nat_lt, List, length, Option, Some, None, Result, Ok, Err, if◌then◌else◌, codes}
use Rattle.std.specs.List.{position_or_len, before_first, after_first}
use Rattle.std.specs.Str.{is_utf8, str_eq_ignore_ascii_case}
use Rattle.base64.specs.Engines.{standard}
use Rattle.base64.specs.GeneralPurpose.{decode_of}
use Rattle.user_folder.specs.declared.basic.HeaderRefusal.{HeaderRefusal}

-- the scheme stands before the first space; what the scheme says, behind it
abbrev pub scheme_of : List ℕ → List ℕ
scheme_of header = before_first (λ b. b == 32) header

abbrev pub said_of : List ℕ → List ℕ
said_of header = after_first (λ b. b == 32) header

-- the bytes that standard base64 with its padding spells; none where it spells none
abbrev pub or_none : {E : Type 0} → Result (List ℕ) E → Option (List ℕ)
or_none (Ok bytes) = Some bytes
or_none (Err e) = None

unfoldable pub spelled_by : List ℕ → Option (List ℕ)
spelled_by text = or_none (decode_of standard text)

-- a name without a colon, and a password, on the two sides of the first colon
abbrev pub parted : List ℕ → Option (List ℕ × List ℕ)
parted text =
    if nat_lt (position_or_len (λ b. b == 58) text) (length text)
    then Some (before_first (λ b. b == 58) text, after_first (λ b. b == 58) text)
    else None

-- the name and the password that these bytes are; none where they are no text, or have no colon
abbrev pub pair_in : Option (List ℕ) → Option (List ℕ × List ℕ)
pair_in None = None
pair_in (Some bytes) = if is_utf8 bytes then parted bytes else None

abbrev pub or_bad : Option (List ℕ × List ℕ) → Result (Option (List ℕ × List ℕ)) HeaderRefusal
or_bad None = Err HeaderRefusal.BadHeader
or_bad (Some pair) = Ok (Some pair)

-- what a header of that value carries: nothing where its scheme is another
abbrev pub carried_by : List ℕ → Result (Option (List ℕ × List ℕ)) HeaderRefusal
carried_by header =
    if str_eq_ignore_ascii_case (scheme_of header) (codes "Basic")
    then or_bad (pair_in (spelled_by (said_of header)))
    else Ok None

-- the name and the password that a request carries, if any
abbrev pub credentials_of : Option (List ℕ) → Result (Option (List ℕ × List ℕ)) HeaderRefusal
credentials_of None = Ok None
credentials_of (Some header) = carried_by header
