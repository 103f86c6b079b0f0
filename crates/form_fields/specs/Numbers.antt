-- Whole numbers of 64 bits, as a form writes them.
use Rattle.std.specs.Prelude.{ℕ, ◌&&◌, nat_lt, nat_le, ◌^◌, ℤ, pos, neg_ℤ, Bool, List, length, take, drop, Option, Some, None, if◌then◌else◌, codes}
use Rattle.std.specs.Str.{all_ascii_digits, bytes_eq}
use Rattle.std.specs.Str.Parse.{digits_value}

abbrev pub magnitude : List ℕ → Option ℕ
magnitude digits = if nat_lt 0 (length digits) && all_ascii_digits digits then Some (digits_value 10 digits) else None

-- the number, where it fits
abbrev pub within : (ℕ → Bool) → (ℕ → ℤ) → Option ℕ → Option ℤ
within fits value None = None
within fits value (Some n) = if fits n then Some (value n) else None

-- an optional `-` and digits, within 64 bits
unfoldable pub whole_number : List ℕ → Option ℤ
whole_number text =
    if bytes_eq (take 1 text) (codes "-") then within (λ n. nat_le n (2 ^ 63)) (λ n. neg_ℤ (pos n)) (magnitude (drop 1 text))
    else within (λ n. nat_lt n (2 ^ 63)) pos (magnitude text)
