use Rattle.std.proofs.Common.{sym, subst, ◌∙◌}
use Rattle.std.specs.Str.{IsUtf8}
use Rattle.zbase.proofs.HexAscii.{hex16_is_utf8}
use Rattle.zbase.proofs.text.Text.push_hex16.Goals as goal

pub unreachable-requires : goal.unreachable-requires
unreachable-requires c = c.in-Err.ensures.cases.0 (subst IsUtf8 (sym (c.as_slice.ensures ∙ c.hex16.ensures)) (hex16_is_utf8 c.args.n))
