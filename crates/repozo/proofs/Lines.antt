-- The parts of a row's line: what stands before the first LF, and between its last three spaces.
use Rattle.std.proofs.Common.{◌≡◌, ℕ, suc, ◌<◌, ◌≤◌, ◌^◌, Bool, false, List, [], ◌∷◌, ◌++◌, refl, sym, ap, subst, ◌∙◌, append_assoc, append-nil, arith, true≢false}
use Rattle.std.specs.Prelude.{decimal}
use Rattle.std.specs.Char.{digit_value}
use Rattle.std.specs.List.{AllPass}
use Rattle.std.specs.Str.Parse.{AllDigits}
use Rattle.std.specs.Str.{IsUtf8, IsAscii}
use Rattle.std.proofs.lemmas.Str.{IsUtf8-from_ascii}
use Rattle.std.proofs.lemmas.Fmt.{decimal_is_IsNumeral, decimal_injective, IsAscii-decimal}
use Rattle.std.proofs.lemmas.List.{append_cancel_right}
use Rattle.hex.proofs.HexLemmas.{decode_of-encode_lower, decode_of-ok}
use Rattle.hex.specs.Hex.{encode_lower, is_hex_digit}
use Rattle.repozo.specs.declared.index.PieceRow.{PieceRow}
use Rattle.repozo.specs.BadLines.{GoesOn}
use Rattle.repozo.specs.Index.{HasLine, IsDigest, Lacks, row_text}

-- ---- a byte that stands once

-- a text has one front before the first such byte
pub one_front : (byte : ℕ) (xs ys r s : List ℕ) → Lacks byte xs → Lacks byte ys → xs ++ byte ∷ r ≡ ys ++ byte ∷ s → (xs ≡ ys) × (r ≡ s)
one_front byte [] [] r s p q e = (refl, cc)
one_front byte (x ∷ xs) [] r s p q e = let h : x ≡ byte = cc in absurd (p.0 h)
one_front byte [] (y ∷ ys) r s p q e = let h : y ≡ byte = cc in absurd (q.0 h)
one_front byte (x ∷ xs) (y ∷ ys) r s p q e =
    let tails : xs ++ byte ∷ r ≡ ys ++ byte ∷ s = cc in
    let rest = one_front byte xs ys r s p.1 q.1 tails in
    let heads : x ≡ y = cc in
    let front : xs ≡ ys = rest.0 in
    (cc, rest.1)

-- a text with the byte doesn't lack it
pub has_byte : (byte : ℕ) (xs r : List ℕ) → Lacks byte (xs ++ byte ∷ r) → ⊥
has_byte byte [] r p = p.0 refl
has_byte byte (x ∷ xs) r p = has_byte byte xs r p.1

-- and one rest behind the last
pub one_back : (byte : ℕ) (xs ys r s : List ℕ) → Lacks byte r → Lacks byte s → xs ++ byte ∷ r ≡ ys ++ byte ∷ s → (xs ≡ ys) × (r ≡ s)
one_back byte [] [] r s p q e = (refl, cc)
one_back byte (x ∷ xs) [] r s p q e = let tails : s ≡ xs ++ byte ∷ r = cc in absurd (has_byte byte xs r (subst (Lacks byte) tails q))
one_back byte [] (y ∷ ys) r s p q e = let tails : r ≡ ys ++ byte ∷ s = cc in absurd (has_byte byte ys s (subst (Lacks byte) tails p))
one_back byte (x ∷ xs) (y ∷ ys) r s p q e =
    let tails : xs ++ byte ∷ r ≡ ys ++ byte ∷ s = cc in
    let rest = one_back byte xs ys r s p q tails in
    let heads : x ≡ y = cc in
    let front : xs ≡ ys = rest.0 in
    (cc, rest.1)

lacks_both : (byte : ℕ) (xs ys : List ℕ) → Lacks byte xs → Lacks byte ys → Lacks byte (xs ++ ys)
lacks_both byte [] ys p q = q
lacks_both byte (x ∷ xs) ys p q = (p.0, lacks_both byte xs ys p.1 q)

-- ---- digits

digits_lack : (byte : ℕ) (xs : List ℕ) → 10 ≤ digit_value byte → AllDigits 10 xs → Lacks byte xs
digits_lack byte [] f p = tt
digits_lack byte (x ∷ xs) f p = ((λ e. (let same = ap digit_value e in omega (arith, p.0, f, same))), digits_lack byte xs f p.1)

pub decimal_lacks : (byte n : ℕ) → 10 ≤ digit_value byte → n < 2 ^ 64 → Lacks byte (decimal n)
decimal_lacks byte n f small = digits_lack byte (decimal n) f (decimal_is_IsNumeral n small).0.1

pub IsUtf8-of_decimal : (bs : List ℕ) (n : ℕ) → n < 2 ^ 64 → bs ≡ decimal n → IsUtf8 bs
IsUtf8-of_decimal bs n small e = IsUtf8-from_ascii bs (subst (λ text. IsAscii text) (sym e) (IsAscii-decimal n small))

pass_lacks : (p : ℕ → Bool) (byte : ℕ) (xs : List ℕ) → p byte ≡ false → AllPass p xs → Lacks byte xs
pass_lacks p byte [] off all = tt
pass_lacks p byte (x ∷ xs) off all =
    ((λ (e : x ≡ byte). true≢false (sym (all 0 0 (omega arith)) ∙ ap p e ∙ off)), pass_lacks p byte xs off (λ k d lt. all (suc k) d (omega (arith, lt))))

pub digest_lacks : (byte : ℕ) (digest : List ℕ) → is_hex_digit byte ≡ false → IsDigest digest → Lacks byte (encode_lower digest)
digest_lacks byte digest off is = pass_lacks is_hex_digit byte (encode_lower digest) off (decode_of-ok (encode_lower digest) digest (decode_of-encode_lower digest is.bytes)).1

-- ---- a row's line

-- what stands before its LF
abbrev pub line_of : PieceRow → List ℕ
line_of r = ((r.name ++ 32 ∷ decimal r.start) ++ 32 ∷ decimal r.end) ++ 32 ∷ encode_lower r.md5

pub regroup : (r : PieceRow) (rest : List ℕ) → row_text r ++ rest ≡ line_of r ++ 10 ∷ rest
regroup r rest = simp append_assoc

pub line_is : (line : List ℕ) (r : PieceRow) → line ++ 10 ∷ [] ≡ row_text r → line ≡ line_of r
line_is line r e = append_cancel_right line (line_of r) (10 ∷ []) (e ∙ sym (append-nil (row_text r)) ∙ regroup r [])

pub line_text : (r : PieceRow) → row_text r ≡ line_of r ++ 10 ∷ []
line_text r = sym (append-nil (row_text r)) ∙ regroup r []

pub start_small : (r : PieceRow) → HasLine r → r.start < 2 ^ 64
start_small r line = omega (arith, line.some, line.small)

pub line_lacks : (r : PieceRow) → HasLine r → Lacks 10 (line_of r)
line_lacks r line =
    lacks_both 10 _ _ (lacks_both 10 _ _ (lacks_both 10 _ _ line.one_line ((λ (e : 32 ≡ 10). absurd (omega (arith, e))), decimal_lacks 10 r.start (omega arith) (start_small r line)))
    ((λ (e : 32 ≡ 10). absurd (omega (arith, e))), decimal_lacks 10 r.end (omega arith) line.small))
    ((λ (e : 32 ≡ 10). absurd (omega (arith, e))), digest_lacks 10 r.md5 refl line.digest)

-- the four parts of a line are those of its row
pub parts_of : (name start end digits : List ℕ) (r : PieceRow) → Lacks 32 start → Lacks 32 end → Lacks 32 digits → HasLine r → ((name ++ 32 ∷ start) ++ 32 ∷ end) ++ 32 ∷ digits ≡ line_of r → (name ≡ r.name) × (start ≡ decimal r.start) × (end ≡ decimal r.end) × (digits ≡ encode_lower r.md5)
parts_of name start end digits r p q d line e =
    let one = one_back 32 _ _ digits (encode_lower r.md5) d (digest_lacks 32 r.md5 refl line.digest) e in
    let two = one_back 32 _ _ end (decimal r.end) q (decimal_lacks 32 r.end (omega arith) line.small) one.0 in
    let three = one_back 32 name r.name start (decimal r.start) p (decimal_lacks 32 r.start (omega arith) (start_small r line)) two.0 in
    (three.0, three.1, two.1, one.1)

pub same_start : (a b : PieceRow) → HasLine a → HasLine b → line_of a ≡ line_of b → a.start ≡ b.start
same_start a b p q e =
    let parts = parts_of a.name (decimal a.start) (decimal a.end) (encode_lower a.md5) b (decimal_lacks 32 a.start (omega arith) (start_small a p)) (decimal_lacks 32 a.end (omega arith) p.small) (digest_lacks 32 a.md5 refl p.digest) q e in
    decimal_injective a.start b.start (start_small a p) (start_small b q) parts.1

-- ---- the row that goes on

-- there is an LF
pub goes_on_line : (rows : List PieceRow) (bytes : List ℕ) → GoesOn rows bytes → Lacks 10 bytes → ⊥
goes_on_line rows bytes g lacks = has_byte 10 (line_of g.row) g.rest (subst (Lacks 10) (g.text ∙ regroup g.row g.rest) lacks)

-- and the line before it is the row's
pub goes_on_by : (rows : List PieceRow) (bytes line rest : List ℕ) (g : GoesOn rows bytes) → Lacks 10 line → bytes ≡ line ++ 10 ∷ rest → line ≡ line_of g.row
goes_on_by rows bytes line rest g lacks is = (one_front 10 line (line_of g.row) rest g.rest lacks (line_lacks g.row g.line) (sym is ∙ g.text ∙ regroup g.row g.rest)).0
