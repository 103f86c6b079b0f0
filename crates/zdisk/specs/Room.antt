-- The room that a disk in memory keeps for the calls that are armed to fail.
use Rattle.std.specs.Prelude.{ℕ, ◌*◌}

-- each of so many calls may cover a buffer of so many bytes
unfoldable pub room_for : ℕ → ℕ → ℕ
room_for calls bytes = calls * bytes
