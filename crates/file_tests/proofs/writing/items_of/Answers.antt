use Rattle.std.proofs.Common.{arith, [], ◌∷◌}
use Rattle.std.proofs.lemmas.List.Elements.{All-push}
use Rattle.std.proofs.lemmas.List.Sums.{sum_by-append, sum_by-cons}
use Rattle.fs_record.specs.Sizes.{record_size}
use Rattle.fs_record.specs.Written.{HasBody}
use Rattle.file_tests.proofs.writing.items_of.Goals as goal

pub loop-each-preserved : goal.loop-each-preserved
loop-each-preserved c = record {
  bodies = rw c.in_ok-push.ensures.items (All-push HasBody c.loop-each.items.items c.in_ok-item.item c.loop-each.invariant.bodies c.in_ok-item.ensures.body);
  size = rw c.in_ok-push.ensures.items (omega (arith, sum_by-append record_size c.loop-each.items.items (c.in_ok-item.item ∷ []), sum_by-cons record_size c.in_ok-item.item [], c.loop-each.invariant.size, c.in_ok-item.ensures.size));
}
