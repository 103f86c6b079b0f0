-- Heads field by field, and the heads that bytes begin with.
use Rattle.std.proofs.Common.{◌≡◌, ℕ, ◌+◌, ◌^◌, ◌<◌, ◌≤◌, List, ◌∷◌, ◌++◌, length, get_or, take, drop, refl, sym, ap, subst, ◌∙◌, append_assoc, arith, inl, inr}
use Rattle.std.specs.Prelude.{All}
use Rattle.std.specs.Int.{w16, w64, to_be_bytes, from_be_bytes}
use Rattle.std.proofs.lemmas.Bool.{cases_lt}
use Rattle.std.proofs.lemmas.List.{drop_more, take-append-drop, length-take, length-drop, drop-drop, drop_at, get_or-drop, get_or-take, get_or_past}
use Rattle.std.proofs.lemmas.Nat.{be_bytes_2, be_bytes_8}
use Rattle.zbase.specs.Numbers.{be64, be16}
use Rattle.fs_record.specs.Spelling.{txn_head, data_head}
use Rattle.fs_record.specs.Fits.{FitsTxnHead, FitsDataHead}
use Rattle.fs_record.specs.Reading.{u64_read, u16_read, txn_head_read, data_head_read}
use Rattle.fs_record.specs.declared.heads.TxnHead.{TxnHead}
use Rattle.fs_record.specs.declared.heads.DataHead.{DataHead}

pub txn_head_is : (bytes : List ℕ) (h : TxnHead) → 23 ≤ length bytes
    → bytes ≡ be64 h.tid ++ drop 8 bytes → drop 8 bytes ≡ be64 h.length ++ drop 16 bytes → h.status ≡ get_or bytes 16 0
    → drop 17 bytes ≡ be16 h.user ++ drop 19 bytes → drop 19 bytes ≡ be16 h.description ++ drop 21 bytes → drop 21 bytes ≡ be16 h.extension ++ drop 23 bytes
    → bytes ≡ txn_head h ++ drop 23 bytes
unfolding txn_head
txn_head_is bytes h long a b c d e f =
    let s : drop 16 bytes ≡ h.status ∷ drop 17 bytes = drop_more bytes 16 0 (omega arith) ∙ ap (λ (x : ℕ). x ∷ drop 17 bytes) (sym c) in
    simp append_assoc (a ∙ ap (λ (x : List ℕ). be64 h.tid ++ x) (b ∙ ap (λ (x : List ℕ). be64 h.length ++ x) (s ∙ ap (λ (x : List ℕ). h.status ∷ x) (d ∙ ap (λ (x : List ℕ). be16 h.user ++ x) (e ∙ ap (λ (x : List ℕ). be16 h.description ++ x) f)))))

pub data_head_is : (bytes : List ℕ) (h : DataHead)
    → bytes ≡ be64 h.oid ++ drop 8 bytes → drop 8 bytes ≡ be64 h.tid ++ drop 16 bytes → drop 16 bytes ≡ be64 h.prev ++ drop 24 bytes
    → drop 24 bytes ≡ be64 h.start ++ drop 32 bytes → drop 32 bytes ≡ be16 h.version ++ drop 34 bytes → drop 34 bytes ≡ be64 h.length ++ drop 42 bytes
    → bytes ≡ data_head h ++ drop 42 bytes
unfolding data_head
data_head_is bytes h a b c d e f =
    simp append_assoc (a ∙ ap (λ (x : List ℕ). be64 h.oid ++ x) (b ∙ ap (λ (x : List ℕ). be64 h.tid ++ x) (c ∙ ap (λ (x : List ℕ). be64 h.prev ++ x) (d ∙ ap (λ (x : List ℕ). be64 h.start ++ x) (e ∙ ap (λ (x : List ℕ). be16 h.version ++ x) f)))))

-- ---- lists of bytes

abbrev pub IsBytes : List ℕ → Type 0
IsBytes bytes = (i : ℕ) → get_or bytes i 0 < 256

pub bytes_from_all : (bytes : List ℕ) → All (λ byte. byte < 256) bytes → IsBytes bytes
bytes_from_all bytes all i =
    elim (cases_lt i (length bytes)) [
      | inl lt ↦ all i 0 lt
      | inr le ↦ rw (get_or_past bytes i 0 le) (omega arith)
    ]

pub IsBytes-drop : (n : ℕ) (bytes : List ℕ) → IsBytes bytes → IsBytes (drop n bytes)
IsBytes-drop n bytes h i = rw get_or-drop (h (n + i))

pub IsBytes-take : (n : ℕ) (bytes : List ℕ) → IsBytes bytes → IsBytes (take n bytes)
IsBytes-take n bytes h i =
    elim (cases_lt i n) [
      | inl lt ↦ rw (get_or-take n bytes i 0 lt) (h i)
      | inr le ↦ rw (get_or_past (take n bytes) i 0 (omega (arith, length-take n bytes))) (omega arith)
    ]

pub IsBytes-behind : (front rest bytes : List ℕ) → bytes ≡ front ++ rest → IsBytes bytes → IsBytes rest
IsBytes-behind front rest bytes e h = subst IsBytes (ap (drop (length front)) e ∙ drop_at front rest (length front) refl) (IsBytes-drop (length front) bytes h)

-- ---- numbers that are read

eight_stand : (bytes : List ℕ) (n at : ℕ) → at + 8 ≤ length bytes → IsBytes (take 8 (drop at bytes)) → n ≡ from_be_bytes w64 (take 8 (drop at bytes)) → drop at bytes ≡ be64 n ++ drop (at + 8) bytes
unfolding be64
eight_stand bytes n at long fits e =
    let len : length (take 8 (drop at bytes)) ≡ 8 = omega (arith, length-take 8 (drop at bytes), length-drop at bytes) in
    let front : to_be_bytes w64 n ≡ take 8 (drop at bytes) = be_bytes_8 (take 8 (drop at bytes)) n len fits e in
    sym (take-append-drop 8 (drop at bytes)) ∙ ap (λ (x : List ℕ). x ++ drop 8 (drop at bytes)) (sym front) ∙ ap (λ (x : List ℕ). to_be_bytes w64 n ++ x) (drop-drop 8 at bytes)

pub u64_stands : (at : ℕ) (bytes : List ℕ) → IsBytes bytes → at + 8 ≤ length bytes → drop at bytes ≡ be64 (u64_read at bytes) ++ drop (at + 8) bytes
unfolding u64_read
u64_stands at bytes fits long = eight_stand bytes (u64_read at bytes) at long (IsBytes-take 8 (drop at bytes) (IsBytes-drop at bytes fits)) refl

eight_below : (bytes : List ℕ) → IsBytes bytes → from_be_bytes w64 bytes < 2 ^ 64
eight_below bytes fits = omega (arith, fits 0, fits 1, fits 2, fits 3, fits 4, fits 5, fits 6, fits 7)

pub u64_below : (at : ℕ) (bytes : List ℕ) → IsBytes bytes → u64_read at bytes < 2 ^ 64
unfolding u64_read
u64_below at bytes fits = eight_below (take 8 (drop at bytes)) (IsBytes-take 8 (drop at bytes) (IsBytes-drop at bytes fits))

two_stand : (bytes : List ℕ) (n at : ℕ) → at + 2 ≤ length bytes → IsBytes (take 2 (drop at bytes)) → n ≡ from_be_bytes w16 (take 2 (drop at bytes)) → drop at bytes ≡ be16 n ++ drop (at + 2) bytes
unfolding be16
two_stand bytes n at long fits e =
    let len : length (take 2 (drop at bytes)) ≡ 2 = omega (arith, length-take 2 (drop at bytes), length-drop at bytes) in
    let front : to_be_bytes w16 n ≡ take 2 (drop at bytes) = be_bytes_2 (take 2 (drop at bytes)) n len fits e in
    sym (take-append-drop 2 (drop at bytes)) ∙ ap (λ (x : List ℕ). x ++ drop 2 (drop at bytes)) (sym front) ∙ ap (λ (x : List ℕ). to_be_bytes w16 n ++ x) (drop-drop 2 at bytes)

pub u16_stands : (at : ℕ) (bytes : List ℕ) → IsBytes bytes → at + 2 ≤ length bytes → drop at bytes ≡ be16 (u16_read at bytes) ++ drop (at + 2) bytes
unfolding u16_read
u16_stands at bytes fits long = two_stand bytes (u16_read at bytes) at long (IsBytes-take 2 (drop at bytes) (IsBytes-drop at bytes fits)) refl

two_below : (bytes : List ℕ) → IsBytes bytes → from_be_bytes w16 bytes < 2 ^ 16
two_below bytes fits = omega (arith, fits 0, fits 1)

pub u16_below : (at : ℕ) (bytes : List ℕ) → IsBytes bytes → u16_read at bytes < 2 ^ 16
unfolding u16_read
u16_below at bytes fits = two_below (take 2 (drop at bytes)) (IsBytes-take 2 (drop at bytes) (IsBytes-drop at bytes fits))

-- ---- heads that are read

pub txn_head_stands : (bytes : List ℕ) → IsBytes bytes → 23 ≤ length bytes → bytes ≡ txn_head (txn_head_read bytes) ++ drop 23 bytes
txn_head_stands bytes fits long = txn_head_is bytes (txn_head_read bytes) long (u64_stands 0 bytes fits (omega arith)) (u64_stands 8 bytes fits (omega arith)) refl (u16_stands 17 bytes fits (omega arith)) (u16_stands 19 bytes fits (omega arith)) (u16_stands 21 bytes fits (omega arith))

pub txn_head_fits : (bytes : List ℕ) → IsBytes bytes → FitsTxnHead (txn_head_read bytes)
txn_head_fits bytes fits = record { tid = u64_below 0 bytes fits; length = u64_below 8 bytes fits; user = u16_below 17 bytes fits; description = u16_below 19 bytes fits; extension = u16_below 21 bytes fits }

pub data_head_stands : (bytes : List ℕ) → IsBytes bytes → 42 ≤ length bytes → bytes ≡ data_head (data_head_read bytes) ++ drop 42 bytes
data_head_stands bytes fits long = data_head_is bytes (data_head_read bytes) (u64_stands 0 bytes fits (omega arith)) (u64_stands 8 bytes fits (omega arith)) (u64_stands 16 bytes fits (omega arith)) (u64_stands 24 bytes fits (omega arith)) (u16_stands 32 bytes fits (omega arith)) (u64_stands 34 bytes fits (omega arith))

pub data_head_fits : (bytes : List ℕ) → IsBytes bytes → FitsDataHead (data_head_read bytes)
data_head_fits bytes fits = record { oid = u64_below 0 bytes fits; tid = u64_below 8 bytes fits; prev = u64_below 16 bytes fits; start = u64_below 24 bytes fits; version = u16_below 32 bytes fits; length = u64_below 34 bytes fits }
