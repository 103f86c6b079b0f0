use Rattle.std.specs.Prelude.{IsTrue}
use Rattle.std.specs.List.{list_all}
use Rattle.zio.specs.Clocks.{is_tick}
use Rattle.zope_cases.proofs.running.moments_of.Given as goal

abbrev pub invariant-loop-part : goal.invariant-loop-part
invariant-loop-part l = IsTrue (list_all is_tick l.moments.items)
