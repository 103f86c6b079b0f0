-- The names and values of a request's forms: of its query, and of its body where that is a form.
--
-- URL Standard, "application/x-www-form-urlencoded".
use Rattle.std.specs.Prelude.{ℕ, ◌&&◌, Bool, true, List, [], ◌++◌, map, Option, Some, None, if◌then◌else◌, codes}
use Rattle.std.specs.List.{starts_with}
use Rattle.std.specs.Bool.{nat_eq}
use Rattle.std.specs.Str.Lossy.{utf8_lossy}
use Rattle.form_urlencoded.specs.Form as form
use Rattle.http_in.specs.declared.message.Request.{Request}
use Rattle.http_in.specs.Headers.{first_value}
use Rattle.http_in.specs.Messages.{is_post}

abbrev pub decoded : List ℕ × List ℕ → List ℕ × List ℕ
decoded x = (utf8_lossy (form.decode x.0), utf8_lossy (form.decode x.1))

-- the names and values of a form
unfoldable pub pairs_of : List ℕ → List (List ℕ × List ℕ)
pairs_of text = map decoded (form.raw_pairs text)

abbrev pub content_type : List ℕ
content_type = codes "Content-Type"

abbrev pub begins_form : List ℕ → Bool
begins_form value = starts_with nat_eq value (codes "application/x-www-form-urlencoded")

-- a body without a Content-Type is a form too
abbrev pub is_form : Option (List ℕ) → Bool
is_form None = true
is_form (Some value) = begins_form value

abbrev pub has_form : Request → Bool
has_form q = is_post q.method && is_form (first_value content_type q.headers)

-- the pairs of the query, then those of the form in the body
unfoldable pub pairs : Request → List (List ℕ × List ℕ)
pairs q = pairs_of q.query ++ (if has_form q then pairs_of q.body else [])
