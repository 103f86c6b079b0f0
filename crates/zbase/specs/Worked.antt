-- Worked rows: digits of numbers and bytes, numbers in a file, and counts of faults.
use Rattle.std.proofs.Common.{◌≡◌, ◌≤◌, ◌+◌, ℕ, true, false, List, [], ◌∷◌, ◌++◌, map, drop, nat_le, refl, codes, arith}
use Rattle.std.specs.Prelude.{⊤}
use Rattle.std.specs.List.{list_all}
use Rattle.zbase.specs.Hex.{hex16_text, hex_digits, hex_byte}
use Rattle.zbase.specs.Numbers.{be16, be64}
use Rattle.zbase.specs.Faults.{Counter, Counts}

-- 0, the first id of the year 2000, and the greatest
digits_of_ids : map hex16_text (0 ∷ 171 ∷ 230072808112128000 ∷ 18446744073709551615 ∷ []) ≡ codes "0000000000000000" ∷ codes "00000000000000ab" ∷ codes "0331620000000000" ∷ codes "ffffffffffffffff" ∷ []
unfolding hex16_text hex_digits
digits_of_ids = refl

digits_of_bytes : map hex_byte (0 ∷ 9 ∷ 160 ∷ 255 ∷ []) ≡ codes "00" ∷ codes "09" ∷ codes "a0" ∷ codes "ff" ∷ []
digits_of_bytes = refl

-- a byte 255 before the numbers from 1 to 8
abbrev bytes : List ℕ
bytes = 255 ∷ 1 ∷ 2 ∷ 3 ∷ 4 ∷ 5 ∷ 6 ∷ 7 ∷ 8 ∷ []

-- the number of eight bytes that stands at 1 is 0102030405060708 in hexadecimal
eight_bytes : drop 1 bytes ≡ be64 72623859790382856 ++ drop (1 + 8) bytes
unfolding be64
eight_bytes = refl

-- that of two bytes at 0 is ff01
two_bytes : drop 0 bytes ≡ be16 65281 ++ drop (0 + 2) bytes
unfolding be16
two_bytes = refl

-- Before any call a plan can't fail if it is empty, and may where calls 4 and 2 are to fail; behind 4 calls it can't any
-- more.
before_any_call : list_all (λ n. nat_le n 0) [] ≡ true
before_any_call = refl

calls_to_come : list_all (λ n. nat_le n 0) (4 ∷ 2 ∷ []) ≡ false
calls_to_come = refl

behind_the_last : list_all (λ n. nat_le n 4) (4 ∷ 2 ∷ []) ≡ true
behind_the_last = refl

-- two faults are counted
two_faults : (a b c : Counter) → a.count ≡ 0 → Counts a b ⊤ → Counts b c ⊤ → 2 ≤ c.count
two_faults a b c none first second = omega (arith, none, first.cause tt, second.cause tt)
