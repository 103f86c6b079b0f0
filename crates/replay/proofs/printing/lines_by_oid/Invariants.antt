use Rattle.std.proofs.Common.{◌≡◌, ◌++◌, List, length, map}
use Rattle.evaluator.specs.declared.reply.Shown.{Shown}
use Rattle.schedule.specs.Causes.{by_oid}
use Rattle.replay.specs.ShownInOrder.{entry_of}
use Rattle.replay.proofs.printing.lines_by_oid.Given as goal

-- the objects behind those that are left are in the map
abbrev pub invariant-placing : goal.invariant-placing
invariant-placing l = record {
  placed : (done : List Shown) × (l.fn.shown ≡ l.left.items ++ done) × (l.lines.entries ≡ map (entry_of l.worker) (by_oid done));
}

abbrev pub decreases-placing : goal.decreases-placing
decreases-placing l = length l.left.items
