use Rattle.std.proofs.Common.{◌≡◌, take}
use Rattle.zbase.specs.Hex.{hex_bytes}
use Rattle.evaluator.proofs.cells.hex_text.Given as goal

-- the digits of the bytes so far
abbrev pub invariant-loop-byte : goal.invariant-loop-byte
invariant-loop-byte l = l.text ≡ hex_bytes (take l.byte-index l.bytes)
