-- The cookies of a request.
--
-- RFC 6265, "The Cookie Header": names and values with `=` between them, and `;` between the pairs.
use Rattle.std.specs.Prelude.{ℕ, ◌==◌, nat_lt, List, [], ◌∷◌, length, map, filter, reverse, Option, Some, None, if◌then◌else◌, codes}
use Rattle.std.specs.List.{flat_map, filter_map, slice_split, position_or_len, before_first, after_first}
use Rattle.http_in.specs.declared.message.Request.{Request}
use Rattle.http_in.specs.Headers.{Header, is_named}
use Rattle.form_fields.specs.Firsts.{firsts}
use Rattle.form_fields.specs.declared.field.Field.{Field}
use Rattle.form_fields.specs.declared.field.FieldValue.{FieldValue}
use Rattle.form_fields.specs.declared.field.Scalar.{Scalar}

-- without the spaces at its front, and at its end
abbrev pub behind_spaces : List ℕ → List ℕ
behind_spaces [] = []
behind_spaces (b ∷ text) = if b == 32 then behind_spaces text else b ∷ text

abbrev pub before_spaces : List ℕ → List ℕ
before_spaces text = reverse (behind_spaces (reverse text))

abbrev pub trimmed : List ℕ → List ℕ
trimmed text = before_spaces (behind_spaces text)

-- the name and the value on the two sides of the first `=`; none without one
abbrev pub parted : List ℕ → Option (List ℕ × List ℕ)
parted piece =
    if nat_lt (position_or_len (λ b. b == 61) piece) (length piece)
    then Some (before_first (λ b. b == 61) piece, after_first (λ b. b == 61) piece)
    else None

-- the pieces of a header's value that are cookies
abbrev pub cookies_in : List ℕ → List (List ℕ × List ℕ)
cookies_in value = filter_map (λ piece. parted (trimmed piece)) (slice_split (λ b. b == 59) value)

-- the values of the headers that have cookies
abbrev pub cookie_values : List Header → List (List ℕ)
cookie_values headers = map (λ h. h.value) (filter (is_named (codes "Cookie")) headers)

abbrev pub cookie : List ℕ × List ℕ → Field
cookie x = record { name = x.0; value = FieldValue.One (Scalar.Text x.1) }

-- the cookies in order; the first of a name counts
unfoldable pub cookies_of : Request → List Field
cookies_of q = map cookie (firsts (λ x. x.0) (flat_map cookies_in (cookie_values q.headers)))
