use Rattle.std.proofs.Common.{◌≡◌, take}
use Rattle.namespace.specs.Names as spec
use Rattle.namespace.proofs.naming.texts.Given as goal

abbrev pub invariant-loop-line : goal.invariant-loop-line
invariant-loop-line l = l.all ≡ spec.texts (take l.line-index l.lines)
