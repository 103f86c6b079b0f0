-- Where a text may be cut: behind a byte that is ASCII.
use Rattle.std.proofs.Common.{◌≡◌, ℕ, zero, suc, ◌+◌, ◌<◌, ◌≤◌, Bool, true, List, length, get_or, subst, arith}
use Rattle.std.specs.List.{prefix_len}
use Rattle.std.specs.Char.{is_ascii_digit}
use Rattle.std.specs.Str.{IsUtf8, IsCharBoundary}
use Rattle.std.proofs.lemmas.Str.{IsCharBoundary-start, IsCharBoundary-after_ascii}
use Rattle.std.proofs.lemmas.List.Sums.{prefix_len_passes, prefix_len-le-length}
use Rattle.std.proofs.lemmas.Bool.Decides.{nat_tests}
use Rattle.dtml_expr.specs.Tokens.{is_name_byte}

behind_run : (p : ℕ → Bool) → ((b : ℕ) → p b ≡ true → b < 128) → (bs : List ℕ) → IsUtf8 bs → (n : ℕ) → n ≤ prefix_len p bs → IsCharBoundary bs n
behind_run p ascii bs utf8 zero le = IsCharBoundary-start bs utf8
behind_run p ascii bs utf8 (suc i) le =
    let lt : i < length bs = omega (arith, prefix_len-le-length p bs) in
    let e : i + 1 ≡ suc i = omega arith in
    subst (λ n. IsCharBoundary bs n) e (IsCharBoundary-after_ascii bs i utf8 lt (ascii (get_or bs i 0) (prefix_len_passes p bs i 0 (omega arith))))

digit_is_ascii : (b : ℕ) → is_ascii_digit b ≡ true → b < 128
digit_is_ascii b e = grind (arith, nat_tests)

name_byte_is_ascii : (b : ℕ) → is_name_byte b ≡ true → b < 128
name_byte_is_ascii b e = grind (arith, nat_tests)

pub behind_digits : (bs : List ℕ) → IsUtf8 bs → IsCharBoundary bs (prefix_len is_ascii_digit bs)
behind_digits bs utf8 = behind_run is_ascii_digit digit_is_ascii bs utf8 _ (omega arith)

pub behind_name : (bs : List ℕ) → IsUtf8 bs → IsCharBoundary bs (prefix_len is_name_byte bs)
behind_name bs utf8 = behind_run is_name_byte name_byte_is_ascii bs utf8 _ (omega arith)
