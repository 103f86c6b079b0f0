use Rattle.std.proofs.Common.{◌≡◌, take}
use Rattle.report_tally.specs.Tallies.{capped}
use Rattle.zope.specs.Drawn.{requests_in}
use Rattle.zope.proofs.generating.requests_in.Given as goal

-- the requests among the items so far
abbrev pub invariant-loop-item : goal.invariant-loop-item
invariant-loop-item l = l.count ≡ capped (requests_in (take l.item-index l.items))
