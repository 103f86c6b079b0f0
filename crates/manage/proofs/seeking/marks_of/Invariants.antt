use Rattle.std.proofs.Common.{◌≡◌, drop, length}
use Rattle.manage.specs.declared.seeking.TheConstants.{MARKS}
use Rattle.manage.proofs.Marks.{AreMarkedBut}
use Rattle.manage.proofs.seeking.marks_of.Given as goal

abbrev pub invariant-loop-text : goal.invariant-loop-text
invariant-loop-text l = record { long : length l.marks.items ≡ MARKS; set_so_far : AreMarkedBut (drop l.text-index l.texts) l.texts l.marks.items }
