use Rattle.std.proofs.Common.{sym, subst, ◌∙◌, arith}
use Rattle.std.specs.Str.{IsUtf8}
use Rattle.evaluator.proofs.HexAscii.{hex_byte_is_utf8}
use Rattle.evaluator.proofs.cells.push_hex.Goals as goal

pub unreachable-requires : goal.unreachable-requires
unreachable-requires c = c.in-Err.ensures.cases.0 (subst IsUtf8 (sym (c.as_slice.ensures ∙ c.hex_digits.ensures)) (hex_byte_is_utf8 c.args.byte (omega arith)))
