-- Keys of names, numbers of 64 bits. Names whose keys differ are different names; that two names have one key is allowed,
-- and rare.
use Rattle.std.specs.Prelude.{ℕ, zero, suc, ◌+◌, ◌*◌, ◌%◌, ◌^◌, ◌/◌, List, length, take, drop, slice_index}
use Rattle.std.specs.Int.{w64, from_be_bytes, rotate_left}

-- The product carries each bit of the word up, and the turn brings the upper bits down.
unfoldable pub mixed : ℕ → ℕ → ℕ
mixed key word = rotate_left w64 ((((key + word) % 2 ^ 64) * 0x9e3779b97f4a7c15) % 2 ^ 64) 29

-- of the length and so many words of eight bytes
unfoldable pub words_key : ℕ → List ℕ → ℕ
words_key zero name = length name
words_key (suc n) name = mixed (words_key n name) (from_be_bytes w64 (take 8 (drop (8 * n) name)))

-- of a key and so many bytes
unfoldable pub bytes_key : ℕ → ℕ → List ℕ → ℕ
bytes_key start zero bytes = start
bytes_key start (suc n) bytes = mixed (bytes_key start n bytes) (slice_index bytes n)

-- of its words, and of the bytes behind them
unfoldable pub name_key : List ℕ → ℕ
name_key name =
    let words = length name / 8 in
    let rest = drop (8 * words) name in
    bytes_key (words_key words name) (length rest) rest
