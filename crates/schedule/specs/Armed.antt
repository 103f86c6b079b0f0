-- The arming rule: which faults and stops a report may show, and by when.
use Rattle.std.specs.Prelude.{ℕ, ◌+◌, Bool, true, false, List, [], ◌∷◌, ◌++◌, length, Option, Some, None, IsSome, nat_lt, if◌then◌else◌}
use Rattle.schedule.specs.declared.item.Item2.{Item2}
use Rattle.schedule.specs.declared.line.Line.{Line}
use Rattle.schedule.specs.Courses.{Place}

-- a stop or a failure that an item of the schedule armed, at its count of device calls
pub record Arm : Type 0 where
  pub stops : Bool
  pub calls : ℕ

-- The armed items that have no fault line yet, in order. Since: twice the vote lines and commit replies since the count of the first began
pub record Queue : Type 0 where
  pub arms : List Arm
  pub since : ℕ

abbrev pub nothing_armed : Queue
nothing_armed = record { arms = []; since = 0 }

abbrev pub armed : Queue → Arm → Queue
armed k a = record { arms = k.arms ++ a ∷ []; since = if nat_lt 0 (length k.arms) then k.since else 0 }

abbrev pub after_item : Queue → Item2 → Queue
after_item k (Item2.Stop n seed) = armed k (record { stops = true; calls = n })
after_item k (Item2.Fail n seed) = armed k (record { stops = false; calls = n })
after_item k _ = k

-- a fault line takes the first, which is of its kind
abbrev pub hit : Bool → List Arm → Option Queue
hit stops [] = None
hit true (a ∷ as') = if a.stops then Some (record { arms = as'; since = 0 }) else None
hit false (a ∷ as') = if a.stops then None else Some (record { arms = as'; since = 0 })

-- two calls more; the first isn't hit by them
abbrev pub called : List Arm → ℕ → Option Queue
called [] since = Some (record { arms = []; since = 0 })
called (a ∷ as') since = if nat_lt (since + 2) a.calls then Some (record { arms = a ∷ as'; since = since + 2 }) else None

abbrev pub after_line : Queue → Line → Option Queue
after_line k Line.Stop = hit true k.arms
after_line k (Line.DiskFault w) = hit false k.arms
after_line k (Line.Unknown w t) = hit false k.arms
after_line k Line.OpenFault = hit false k.arms
after_line k Line.PackFault = hit false k.arms
after_line k (Line.Vote w t) = called k.arms k.since
after_line k (Line.ReplyCommit w t bytes) = called k.arms k.since
after_line k _ = Some k

abbrev pub after_lines : Option Queue → List Line → Option Queue
after_lines None lines = None
after_lines (Some k) [] = Some k
after_lines (Some k) (line ∷ lines) = after_lines (after_line k line) lines

abbrev pub after_place : {R : Type 0} → Option Queue → Place R → Option Queue
after_place None p = None
after_place (Some k) p = after_lines (Some (after_item k p.item)) p.lines

abbrev pub after_places : {R : Type 0} → Option Queue → List (Place R) → Option Queue
after_places k [] = k
after_places k (p ∷ ps) = after_places (after_place k p) ps

-- each fault line is that of an armed item of its kind, and comes no later than the item says
abbrev pub IsArmed : {R : Type 0} → List (Place R) → Type 0
IsArmed trace = IsSome (after_places (Some nothing_armed) trace)
