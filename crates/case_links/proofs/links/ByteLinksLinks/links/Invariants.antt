use Rattle.std.proofs.Common.{◌≡◌, ◌==◌, ◌++◌, drop}
use Rattle.std.specs.List.{list_any}
use Rattle.case_links.proofs.links.ByteLinksLinks.links.Given as goal

-- the ids so far, with the rest, are the bytes, and an `x` is among the rest if there is one
abbrev pub invariant-loop-byte : goal.invariant-loop-byte
invariant-loop-byte l = record {
  ids : l.oids ++ drop l.byte-index l.bytes ≡ l.fn.bytes;
  some : list_any (λ byte. byte == 120) (drop l.byte-index l.bytes) ≡ list_any (λ byte. byte == 120) l.fn.bytes;
}
