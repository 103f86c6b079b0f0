use Rattle.std.proofs.Common.{◌≡◌, ◌-◌, None, true}
use Rattle.zcodec.specs.Reading.{items_at, last_one}
use Rattle.zcodec.specs.Given.{any_child_at}
use Rattle.zcodec.proofs.Loop.{with_front, last_of}
use Rattle.zcodec.proofs.Told.{HaveRisen}
use Rattle.zcodec.proofs.parts.any_children_of.Given as goal

abbrev pub invariant-loop : goal.invariant-loop
invariant-loop l = (with_front l.children (items_at any_child_at last_one (l.count - l.counter) (last_of l.children) l.rest) ≡ items_at any_child_at last_one l.count None l.bytes)
    × (l.rising ≡ true → HaveRisen l.children)
