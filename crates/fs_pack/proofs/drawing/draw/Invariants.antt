use Rattle.std.proofs.Common.{◌≡◌, ◌≤◌, ◌-◌, ℕ, List, length, take}
use Rattle.zbase.specs.History.{Value}
use Rattle.fs_pack.specs.Chosen.{marks_of}
use Rattle.fs_pack.specs.Marked.{is_in}
use Rattle.fs_pack.specs.Numbered.{AreNumbered, oids_of}
use Rattle.fs_pack.proofs.drawing.draw.Given as goal

-- the marks of the first objects are drawn
abbrev pub invariant-kept : goal.invariant-kept
invariant-kept l = record {
  drawn : (rs : List (ℕ × Value)) → l.records ≡ length (oids_of rs) → AreNumbered l.newest (oids_of rs) → l.marks.items ≡ marks_of (is_in (take l.next l.kept)) rs;
  within : l.next ≤ length l.kept;
}

abbrev pub decreases-kept : goal.decreases-kept
decreases-kept l = length l.kept - l.next
