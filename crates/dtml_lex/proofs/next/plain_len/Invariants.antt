use Rattle.std.proofs.Common.{◌≡◌, ◌+◌, drop}
use Rattle.dtml_lex.specs.Reading.{plain_len}
use Rattle.dtml_lex.proofs.next.plain_len.Given as goal

abbrev pub invariant-loop-at : goal.invariant-loop-at
invariant-loop-at l = l.at + plain_len (drop l.at l.fn.text) ≡ plain_len l.fn.text
