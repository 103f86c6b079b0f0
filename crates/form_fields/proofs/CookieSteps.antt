-- The cookies of headers that are gone through one at a time.
use Rattle.std.proofs.Common.{◌≡◌, ◌∙◌, ℕ, ◌+◌, ◌<◌, true, false, List, ◌++◌, length, drop, get_or, refl, ap, sym, codes}
use Rattle.std.specs.List.{flat_map, fold}
use Rattle.std.proofs.lemmas.List.{drop_more}
use Rattle.std.proofs.lemmas.List.Sums.{fold-append}
use Rattle.http_in.specs.Headers.{Header, is_named}
use Rattle.form_fields.specs.declared.field.Field.{Field}
use Rattle.form_fields.specs.Cookies.{cookie_values, cookies_in}
use Rattle.form_fields.specs.Grouping.{with_cookie}

-- the cookies of the headers from a place on
abbrev pub cookies_from : ℕ → List Header → List (List ℕ × List ℕ)
cookies_from k headers = flat_map cookies_in (cookie_values (drop k headers))

abbrev pub no_header : Header
no_header = record { name = codes ""; value = codes "" }

module _ (headers : List Header) (k : ℕ) (d : Header) (less : k < length headers) where
  pub other_header : is_named (codes "Cookie") (get_or headers k d) ≡ false → cookies_from k headers ≡ cookies_from (k + 1) headers
  other_header misses = ap (λ (hs : List Header). flat_map cookies_in (cookie_values hs)) (drop_more headers k d less) ∙ rw misses refl

  pub cookie_header : is_named (codes "Cookie") (get_or headers k d) ≡ true → cookies_from k headers ≡ cookies_in (get_or headers k d).value ++ cookies_from (k + 1) headers
  cookie_header hits = ap (λ (hs : List Header). flat_map cookies_in (cookie_values hs)) (drop_more headers k d less) ∙ rw hits refl

  -- the cookies so far, and those of the headers that are left, are those of all
  pub next_cookies : (so_far more : List Field) (value : List ℕ) (whole : List Field) → is_named (codes "Cookie") (get_or headers k d) ≡ true → value ≡ (get_or headers k d).value → more ≡ fold with_cookie so_far (cookies_in value)
      → fold with_cookie so_far (cookies_from k headers) ≡ whole → fold with_cookie more (cookies_from (k + 1) headers) ≡ whole
  next_cookies so_far more value whole hits is added all =
      ap (λ (fields : List Field). fold with_cookie fields (cookies_from (k + 1) headers)) (added ∙ ap (λ (v : List ℕ). fold with_cookie so_far (cookies_in v)) is)
      ∙ sym (fold-append with_cookie so_far (cookies_in (get_or headers k d).value) (cookies_from (k + 1) headers))
      ∙ ap (fold with_cookie so_far) (sym (cookie_header hits)) ∙ all

  pub next_header : (so_far more : List Field) (whole : List Field) → is_named (codes "Cookie") (get_or headers k d) ≡ false → more ≡ so_far
      → fold with_cookie so_far (cookies_from k headers) ≡ whole → fold with_cookie more (cookies_from (k + 1) headers) ≡ whole
  next_header so_far more whole misses same all =
      ap (λ (fields : List Field). fold with_cookie fields (cookies_from (k + 1) headers)) same ∙ ap (fold with_cookie so_far) (sym (other_header misses)) ∙ all
