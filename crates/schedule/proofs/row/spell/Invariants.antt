use Rattle.std.proofs.Common.{◌≡◌, ◌*◌, take}
use Rattle.zbase.specs.Hex.{hex_bytes}
use Rattle.schedule.proofs.row.spell.Given as goal

-- the digits of the bytes so far
abbrev pub invariant-loop-index : goal.invariant-loop-index
invariant-loop-index l = take (2 * l.index) l.digits ≡ hex_bytes (take l.index l.bytes)
