use Rattle.std.proofs.Common.{◌-◌, vec_len}
use Rattle.std.specs.Io.KnownBytes.{Consumes}
use Rattle.zbase.specs.Faults.{Counts}
use Rattle.zope.proofs.inputs.read_input.Given as goal

-- what was read is the front of what the source had
abbrev pub invariant-reading : goal.invariant-reading
invariant-reading g l = record {
  front : Consumes (g.S.Source.left l.fn.input) (g.S.Source.left l.input) l.text.items;
  counts : Counts (g.S.Source.counter l.fn.input) (g.S.Source.counter l.input) ⊥;
}

abbrev pub decreases-reading : goal.decreases-reading
decreases-reading g l = 67108865 - vec_len l.text
