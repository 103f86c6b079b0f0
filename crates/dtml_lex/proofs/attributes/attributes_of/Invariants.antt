use Rattle.std.proofs.Common.{length}
use denote.Shadow.{shadow}
use denote.Text.{Utf8}
use Rattle.dtml_lex.proofs.AttributeLoop.{Reading}
use Rattle.dtml_lex.proofs.attributes.attributes_of.Given as goal

abbrev pub invariant-attributes : goal.invariant-attributes
invariant-attributes l = record { reading : Reading l.text l.attributes l.rest; text : shadow (Utf8 l.rest) }

abbrev pub decreases-attributes : goal.decreases-attributes
decreases-attributes l = length l.rest
