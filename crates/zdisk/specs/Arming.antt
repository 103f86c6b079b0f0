-- The entries that are armed on a disk in memory, and what its calls meet of them.
--
-- They stand in one queue, and only the first is counted: from when it was armed, where none waited, else from when the one
-- before it was hit, but on a stopped disk from when it goes on.
use Rattle.std.specs.Prelude.{ℕ, ◌-◌, not, Bool, true, false, List, [], ◌∷◌, ◌++◌, length, nat_lt, if◌then◌else◌}
use Rattle.zbase.specs.declared.faults.Arm.{Arm}
use Rattle.zbase.specs.Faults.{Arms, Counter, begun, hit}
use Rattle.zdisk.specs.Disk.{counted}
use Rattle.zdisk.specs.declared.queue.Met.{Met}

-- a disk that isn't stopped, and on which no entry waits, can't fail
abbrev pub is_calm : List Arm → Bool → Bool
is_calm [] stopped = not stopped
is_calm (x ∷ xs) stopped = false

-- with so many faults and calls
abbrev pub counter_of : ℕ → ℕ → Arms → Counter
counter_of count calls a = record { count = count; sound = is_calm a.queue a.stopped; calls = calls; arms = a }

abbrev pub left_with : List Arm → ℕ → ℕ → ℕ
left_with [] left calls = calls
left_with (x ∷ xs) left calls = left

-- one entry more
abbrev pub armed : Counter → Arm → Counter
armed c e = counter_of c.count c.calls (record { queue = c.arms.queue ++ e ∷ []; left = left_with c.arms.queue c.arms.left e.calls; hits = c.arms.hits; stopped = c.arms.stopped })

-- no entry waits any more
abbrev pub disarmed : Counter → Counter
disarmed c = counter_of c.count c.calls (begun [] c.arms.hits c.arms.stopped)

-- the disk goes on after a stop, as one that has failed at each hit and not since
abbrev pub resumed : Counter → Counter
resumed c = counter_of (length c.arms.hits) c.calls (begun c.arms.queue c.arms.hits false)

-- what waits on another disk, and what was hit there, in the place of the own: the entries stay with their counts as they stand
abbrev pub taking : Counter → Counter → Counter
taking own from = counter_of (length from.arms.hits) own.calls from.arms

-- the seed of the last of these, 0 where there is none
abbrev pub last_seed : List Arm → ℕ
last_seed [] = 0
last_seed (x ∷ []) = x.seed
last_seed (x ∷ y ∷ xs) = last_seed (y ∷ xs)

-- ---- one call

abbrev pub met_first : Arm → Met
met_first e = if e.stops then Met.Stop e.seed else Met.Failure e.seed

-- by whether the disk is stopped
abbrev pub met_of : Bool → List Arm → ℕ → Met
met_of true queue left = Met.Stopped
met_of false [] left = Met.Nothing
met_of false (x ∷ xs) left = if nat_lt 1 left then Met.Nothing else met_first x

-- what the next call meets: the first entry is hit by the last of the calls that are left to it
abbrev pub met : Arms → Met
met a = met_of a.stopped a.queue a.left

-- one call less is left
abbrev pub spent : Arms → Arms
spent a = record { queue = a.queue; left = a.left - 1; hits = a.hits; stopped = a.stopped }

abbrev pub failed : Counter → Counter
failed c = counter_of (counted c.count) (counted c.calls) (hit c.arms)

-- the counts after a call that met this
abbrev pub called_by : Met → Counter → Counter
called_by Met.Nothing c = counter_of c.count (counted c.calls) (spent c.arms)
called_by (Met.Failure seed) c = failed c
called_by (Met.Stop seed) c = failed c
called_by Met.Stopped c = failed c

abbrev pub called : Counter → Counter
called c = called_by (met c.arms) c
