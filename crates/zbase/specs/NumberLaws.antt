-- A number that fits its bytes has one spelling, and no spelling begins another.
use Rattle.std.proofs.Common.{◌≡◌, ℕ, ◌^◌, ◌<◌, List, ◌++◌, length, refl, sym, ap, ◌∙◌}
use Rattle.std.specs.Int.{w16, w32, w64, from_be_bytes}
use Rattle.std.proofs.lemmas.Nat.{from_be_bytes-to_be_bytes_2, from_be_bytes-to_be_bytes_4, from_be_bytes-to_be_bytes_8}
use Rattle.zbase.specs.HexLaws.{fronts_same}
use Rattle.zbase.specs.Numbers.{be64, be32, be16}

pub length-be64 : (n : ℕ) → length (be64 n) ≡ 8
unfolding be64
length-be64 n = refl

pub length-be32 : (n : ℕ) → length (be32 n) ≡ 4
unfolding be32
length-be32 n = refl

pub length-be16 : (n : ℕ) → length (be16 n) ≡ 2
unfolding be16
length-be16 n = refl

from_be64 : (m n : ℕ) → m < 2 ^ 64 → n < 2 ^ 64 → be64 m ≡ be64 n → m ≡ n
unfolding be64
from_be64 m n p q e = sym (from_be_bytes-to_be_bytes_8 m p) ∙ ap (from_be_bytes w64) e ∙ from_be_bytes-to_be_bytes_8 n q

pub same_be64 : (m n : ℕ) (x y : List ℕ) → m < 2 ^ 64 → n < 2 ^ 64 → be64 m ++ x ≡ be64 n ++ y → (m ≡ n) × (x ≡ y)
same_be64 m n x y p q e =
    let s = fronts_same (be64 m) (be64 n) x y (length-be64 m ∙ sym (length-be64 n)) e in
    (from_be64 m n p q s.0, s.1)

from_be32 : (m n : ℕ) → m < 2 ^ 32 → n < 2 ^ 32 → be32 m ≡ be32 n → m ≡ n
unfolding be32
from_be32 m n p q e = sym (from_be_bytes-to_be_bytes_4 m p) ∙ ap (from_be_bytes w32) e ∙ from_be_bytes-to_be_bytes_4 n q

pub same_be32 : (m n : ℕ) (x y : List ℕ) → m < 2 ^ 32 → n < 2 ^ 32 → be32 m ++ x ≡ be32 n ++ y → (m ≡ n) × (x ≡ y)
same_be32 m n x y p q e =
    let s = fronts_same (be32 m) (be32 n) x y (length-be32 m ∙ sym (length-be32 n)) e in
    (from_be32 m n p q s.0, s.1)

from_be16 : (m n : ℕ) → m < 2 ^ 16 → n < 2 ^ 16 → be16 m ≡ be16 n → m ≡ n
unfolding be16
from_be16 m n p q e = sym (from_be_bytes-to_be_bytes_2 m p) ∙ ap (from_be_bytes w16) e ∙ from_be_bytes-to_be_bytes_2 n q

pub same_be16 : (m n : ℕ) (x y : List ℕ) → m < 2 ^ 16 → n < 2 ^ 16 → be16 m ++ x ≡ be16 n ++ y → (m ≡ n) × (x ≡ y)
same_be16 m n x y p q e =
    let s = fronts_same (be16 m) (be16 n) x y (length-be16 m ∙ sym (length-be16 n)) e in
    (from_be16 m n p q s.0, s.1)
