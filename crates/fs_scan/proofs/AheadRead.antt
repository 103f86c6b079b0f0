-- Pieces of bytes that were read ahead.
use Rattle.std.proofs.Common.{◌≡◌, ℕ, ◌+◌, ◌-◌, List, length, take, drop, Option, Some, None, IfSome, ap, ◌∙◌, arith}
use Rattle.std.proofs.lemmas.List.{drop-drop, drop-take, length-drop, length-take, take-take}
use Rattle.zdisk.specs.Disk.{Told, bytes_at, content}
use Rattle.fs_scan.specs.Ahead.{Covers, IsAhead, Shown}

shown_piece : (told : Told) (s : Shown) (at size : ℕ) → s.bytes ≡ bytes_at told s.from (length s.bytes) → Covers s at size → take size (drop (at - s.from) s.bytes) ≡ bytes_at told at size
shown_piece told s at size is c =
    let skipped = at - s.from in
    let left = length s.bytes - skipped in
    let all : length s.bytes ≡ skipped + left = omega (arith, c.begins, c.ends) in
    let here : s.from + skipped ≡ at = omega (arith, c.begins) in
    ap (λ (z : List ℕ). take size (drop skipped z)) (is ∙ ap (λ (n : ℕ). take n (drop s.from (content told))) all)
    ∙ ap (take size) (drop-take skipped left (drop s.from (content told)) ∙ ap (take left) (drop-drop skipped s.from (content told) ∙ ap (λ (n : ℕ). drop n (content told)) here))
    ∙ take-take size left (drop at (content told)) (omega (arith, c.begins, c.ends))

-- a piece is what the file has there
pub piece_is : (disk : Option Told) (s : Shown) (at size : ℕ) (piece : List ℕ) → IsAhead disk s → Covers s at size → piece ≡ take size (drop (at - s.from) s.bytes) → IfSome disk (λ told. piece ≡ bytes_at told at size)
piece_is None s at size piece ahead c is = tt
piece_is (Some told) s at size piece ahead c is = is ∙ shown_piece told s at size ahead c

pub piece_long : (s : Shown) (at size : ℕ) (piece : List ℕ) → Covers s at size → piece ≡ take size (drop (at - s.from) s.bytes) → length piece ≡ size
piece_long s at size piece c is = omega (arith, c.begins, c.ends, ap length is, length-take size (drop (at - s.from) s.bytes), length-drop (at - s.from) s.bytes)
