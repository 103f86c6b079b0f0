-- The digits of numbers and bytes say the same numbers and bytes.
use Rattle.std.proofs.Common.{ℕ, zero, suc, ◌+◌, ◌*◌, ◌/◌, ◌%◌, ◌-◌, ◌^◌, ◌<◌, ◌≡◌, ◌∙◌, refl, sym, ap, arith, true, List, [], ◌∷◌, ◌++◌, nat_lt, add-one, if◌then◌else◌}
use Rattle.std.proofs.lemmas.Bool.Decides.{nat_tests}
use Rattle.std.proofs.lemmas.Grind.{pow_more}
use Rattle.zbase.specs.Hex.{hex_bytes, hex_digit, hex_digits, hex16_text}
use Rattle.catalog.specs.Forms.{IsOid}
use Rattle.catalog.specs.Reading.{bytes_of, digit_of, number_from, number_of}
use Rattle.catalog.proofs.Bytes.{AreBytes}
use Rattle.catalog.proofs.Splits.{Above, above_joined}

-- ---- numbers

plain_back : (d : ℕ) → d < 16 → (if nat_lt (hex_digit d) 58 then hex_digit d - 48 else hex_digit d - 87) ≡ d
plain_back d few = grind (arith, nat_tests)

digit_back : (d : ℕ) → d < 16 → digit_of (hex_digit d) ≡ d
digit_back d few = ap (λ n. n % 16) (plain_back d few) ∙ omega (arith, few)

number_more : (n : ℕ) (ds : List ℕ) (d : ℕ) → number_from n (ds ++ d ∷ []) ≡ number_from n ds % 2 ^ 60 * 16 + digit_of d
number_more n [] d = refl
number_more n (c ∷ cs) d = number_more (n % 2 ^ 60 * 16 + digit_of c) cs d

whole_again : (n : ℕ) → n < 2 ^ 64 → n / 16 % 2 ^ 60 * 16 + n % 16 ≡ n
whole_again n few = let small : n / 16 % 2 ^ 60 ≡ n / 16 = omega (arith, few) in omega (arith, small)

digits_back : (k n : ℕ) → n < 16 ^ k → n < 2 ^ 64 → number_of (hex_digits k n) ≡ n
unfolding hex_digits
digits_back zero n few small = omega (arith, few)
digits_back (suc k) n few small =
    let power : 16 ^ suc k ≡ 16 ^ k * 16 = ap (λ j. 16 ^ j) (sym (add-one k)) ∙ pow_more 16 k in
    let front = digits_back k (n / 16) (omega (arith, few, power)) (omega (arith, small)) in
    let last = digit_back (n % 16) (omega arith) in
    number_more 0 (hex_digits k (n / 16)) (hex_digit (n % 16)) ∙ ap (λ m. m % 2 ^ 60 * 16 + digit_of (hex_digit (n % 16))) front ∙ ap (λ m. n / 16 % 2 ^ 60 * 16 + m) last ∙ whole_again n small

pub oid_back : (n : ℕ) → IsOid n → number_of (hex16_text n) ≡ n
unfolding hex16_text
oid_back n few = digits_back 16 n few few

-- what digits say is of 64 bits
digit_small : (b : ℕ) → digit_of b < 16
digit_small b = omega arith

number_small : (n : ℕ) (ds : List ℕ) → n < 2 ^ 64 → number_from n ds < 2 ^ 64
number_small n [] few = few
number_small n (d ∷ ds) few = let digit = digit_small d in number_small (n % 2 ^ 60 * 16 + digit_of d) ds (omega (arith, digit))

pub oid_small : (ds : List ℕ) → IsOid (number_of ds)
oid_small ds = number_small 0 ds (omega arith)

-- ---- bytes

byte_back : (b : ℕ) → b < 256 → digit_of (hex_digit (b / 16)) * 16 + digit_of (hex_digit (b % 16)) ≡ b
byte_back b few = ap (λ m. m * 16 + digit_of (hex_digit (b % 16))) (digit_back (b / 16) (omega (arith, few))) ∙ ap (λ m. b / 16 * 16 + m) (digit_back (b % 16) (omega arith)) ∙ omega arith

two_lists : (a b : ℕ) (ps qs : List ℕ) → a ≡ b → ps ≡ qs → a ∷ ps ≡ b ∷ qs
two_lists a b ps qs x y = cc

pub bytes_back : (bs : List ℕ) → AreBytes bs → bytes_of (hex_bytes bs) ≡ bs
bytes_back [] all = refl
bytes_back (b ∷ bs) all = two_lists (digit_of (hex_digit (b / 16)) * 16 + digit_of (hex_digit (b % 16))) b (bytes_of (hex_bytes bs)) bs (byte_back b all.0) (bytes_back bs all.1)

-- ---- digits stand above each separator

pub digit_high : (d : ℕ) → nat_lt 47 (hex_digit d) ≡ true
digit_high d = grind (arith, nat_tests)

digits_above : (k n : ℕ) → Above 47 (hex_digits k n)
unfolding hex_digits
digits_above zero n = tt
digits_above (suc k) n = above_joined 47 (hex_digits k (n / 16)) (hex_digit (n % 16) ∷ []) (digits_above k (n / 16)) (digit_high (n % 16), tt)

pub oid_above : (n : ℕ) → Above 47 (hex16_text n)
unfolding hex16_text
oid_above n = digits_above 16 n

pub bytes_above : (bs : List ℕ) → Above 47 (hex_bytes bs)
bytes_above [] = tt
bytes_above (b ∷ bs) = (digit_high (b / 16), (digit_high (b % 16), bytes_above bs))
