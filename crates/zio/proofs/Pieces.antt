-- A piece moved from a place of a list to the front of a buffer.
use Rattle.std.proofs.Common.{◌≡◌, ℕ, ◌+◌, List, ◌++◌, length, take, drop, sym}
use Rattle.std.proofs.lemmas.List.{take_at, take-append-drop, drop-drop}

-- what was left is the piece, and then what is left
pub moved : (bytes piece tail : List ℕ) (start n : ℕ) → piece ≡ take n (drop start bytes) → length piece ≡ n → drop start bytes ≡ take n (piece ++ tail) ++ drop (start + n) bytes
moved bytes piece tail start n is len = rw (take_at piece tail n len, is, ← drop-drop n start bytes) (sym (take-append-drop n (drop start bytes)))
