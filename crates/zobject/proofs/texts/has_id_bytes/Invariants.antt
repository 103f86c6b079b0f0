use Rattle.std.proofs.Common.{◌≡◌, take}
use Rattle.std.specs.List.{list_all}
use Rattle.zobject.specs.Texts.{is_id_byte}
use Rattle.zobject.proofs.texts.has_id_bytes.Given as goal

abbrev pub invariant-loop-byte : goal.invariant-loop-byte
invariant-loop-byte l = l.all ≡ list_all is_id_byte (take l.byte-index l.text)
