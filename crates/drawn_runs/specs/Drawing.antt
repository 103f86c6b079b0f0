-- The numbers that a run is drawn from: a linear congruential generator modulo 2^64, with the constants of MMIX
-- (Knuth, The Art of Computer Programming, volume 2, section 3.3.4).
use Rattle.std.specs.Prelude.{ℕ, zero, suc, ◌+◌, ◌*◌, ◌/◌, ◌%◌, ◌^◌}
use Rattle.drawn_runs.specs.declared.drawing.TheConstants.{FACTOR, INCREMENT, LEFT_OUT}

-- the number after a number
abbrev pub after : ℕ → ℕ
after number = (number * FACTOR + INCREMENT) % 2 ^ 64

-- the number that is reached from one in so many drawings
unfoldable pub reached : (number drawings : ℕ) → ℕ
reached number zero = number
reached number (suc drawings) = after (reached number drawings)

-- what is drawn from there on, the first draw being draw 0
abbrev pub draw : (number drawing : ℕ) → ℕ
draw number drawing = reached number (drawing + 1) / 2 ^ LEFT_OUT
