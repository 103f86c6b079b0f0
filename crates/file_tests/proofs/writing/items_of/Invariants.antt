use Rattle.std.proofs.Common.{◌≤◌, ◌*◌}
use Rattle.std.specs.List.{All}
use Rattle.fs_record.specs.Sizes.{records_size}
use Rattle.fs_record.specs.Written.{HasBody}
use Rattle.file_tests.proofs.writing.items_of.Given as goal

abbrev pub invariant-loop-each : goal.invariant-loop-each
invariant-loop-each l = record { bodies : All HasBody l.items.items; size : records_size l.items.items ≤ 100 * l.each-index }
