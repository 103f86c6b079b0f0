-- Worked rows: what the arming rule says of short reports.
use Rattle.std.proofs.Common.{◌≡◌, [], ◌∷◌, Some, None, refl}
use Rattle.schedule.specs.declared.item.Item2.{Item2}
use Rattle.schedule.specs.declared.line.Line.{Line}
use Rattle.schedule.specs.Armed.{after_item, after_lines, nothing_armed}
use Rattle.schedule.specs.Entries.{faults}

-- `stop 4`: the vote's two calls don't reach it, the finish does
stop_in_finish : after_lines (Some (after_item nothing_armed (Item2.Stop 4 0))) (Line.Vote 0 1 ∷ Line.Stop ∷ Line.Lost 0 ∷ Line.Restart 1 2 ∷ []) ≡ Some nothing_armed
stop_in_finish = refl

-- `stop 2` can't come behind a vote
stop_too_late : after_lines (Some (after_item nothing_armed (Item2.Stop 2 0))) (Line.Vote 0 1 ∷ Line.Stop ∷ []) ≡ None
stop_too_late = refl

-- `stop 4` and `stop 1`: the second is hit by the opening
stop_in_opening : after_lines (Some (after_item (after_item nothing_armed (Item2.Stop 4 0)) (Item2.Stop 1 1))) (Line.Vote 0 1 ∷ Line.Stop ∷ Line.Lost 0 ∷ Line.Stop ∷ Line.Restart 1 2 ∷ []) ≡ Some nothing_armed
stop_in_opening = refl

-- `fail 4` can't license a stop
wrong_kind : after_lines (Some (after_item nothing_armed (Item2.Fail 4 0))) (Line.Stop ∷ []) ≡ None
wrong_kind = refl

three_faults : faults (Line.Stop ∷ Line.OpenFault ∷ Line.Restart 1 2 ∷ Line.Unknown 0 3 ∷ []) ≡ 3
three_faults = refl
