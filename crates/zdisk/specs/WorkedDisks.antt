-- Worked rows: queues of armed entries, and the images that seeds name.
use Rattle.std.proofs.Common.{◌≡◌, ℕ, zero, suc, true, false, List, [], ◌∷◌, refl}
use Rattle.zbase.specs.declared.faults.Arm.{Arm}
use Rattle.zbase.specs.Faults.{Counter, no_arms}
use Rattle.zdisk.specs.Arming.{armed, called, counter_of, disarmed, met, resumed, taking}
use Rattle.zdisk.specs.Seeds.{image_of, takes_new}
use Rattle.zdisk.specs.Undoing.{lowest_since}
use Rattle.zdisk.specs.declared.queue.Met.{Met}
use Rattle.zdisk.specs.declared.record.Entry.TheVariants as entries

-- ---- queues

abbrev stop : ℕ → ℕ → Arm
stop calls seed = record { stops = true; calls = calls; seed = seed }

abbrev failure : ℕ → ℕ → Arm
failure calls seed = record { stops = false; calls = calls; seed = seed }

abbrev fresh : Counter
fresh = counter_of 0 0 no_arms

abbrev after : ℕ → Counter → Counter
after zero c = c
after (suc n) c = after n (called c)

abbrev meets : ℕ → Counter → List Met
meets zero c = []
meets (suc n) c = met c.arms ∷ meets n (called c)

-- an entry is hit at its own number of calls, and the one behind it begins to count then
one_behind_another : meets 6 (armed (armed fresh (failure 2 8)) (failure 3 9)) ≡ Met.Nothing ∷ Met.Failure 8 ∷ Met.Nothing ∷ Met.Nothing ∷ Met.Failure 9 ∷ Met.Nothing ∷ []
one_behind_another = refl

both_are_kept : (after 6 (armed (armed fresh (failure 2 8)) (failure 3 9))).arms.hits ≡ failure 2 8 ∷ failure 3 9 ∷ []
both_are_kept = refl

-- one that was armed late begins to count where it was armed
armed_late : meets 3 (armed (after 5 fresh) (failure 2 8)) ≡ Met.Nothing ∷ Met.Failure 8 ∷ Met.Nothing ∷ []
armed_late = refl

-- behind a stop every call fails, and none counts for the next entry
stopped_for_good : meets 4 (armed (armed fresh (stop 2 7)) (failure 1 8)) ≡ Met.Nothing ∷ Met.Stop 7 ∷ Met.Stopped ∷ Met.Stopped ∷ []
stopped_for_good = refl

goes_on : meets 2 (resumed (after 4 (armed (armed fresh (stop 2 7)) (failure 2 8)))) ≡ Met.Nothing ∷ Met.Failure 8 ∷ []
goes_on = refl

-- an entry that was armed on the stopped disk begins to count where it goes on
armed_while_stopped : meets 2 (resumed (after 3 (armed (after 1 (armed fresh (stop 1 7))) (failure 2 8)))) ≡ Met.Nothing ∷ Met.Failure 8 ∷ []
armed_while_stopped = refl

-- the stop and three calls more failed, and five calls were made; once it goes on, the disk has failed at the stop alone
counts_of_a_stop : (after 5 (armed fresh (stop 2 7))).count ≡ 4
counts_of_a_stop = refl

counts_of_a_disk_that_goes_on : resumed (after 5 (armed fresh (stop 2 7))) ≡ counter_of 1 5 (record { queue = []; left = 0; hits = stop 2 7 ∷ []; stopped = false })
counts_of_a_disk_that_goes_on = refl

disarmed_in_time : meets 3 (disarmed (after 1 (armed fresh (stop 2 7)))) ≡ Met.Nothing ∷ Met.Nothing ∷ Met.Nothing ∷ []
disarmed_in_time = refl

-- one of the three calls was made on another disk; this one had four calls of its own
goes_on_elsewhere : meets 3 (taking (after 4 fresh) (after 1 (armed fresh (failure 3 8)))) ≡ Met.Nothing ∷ Met.Failure 8 ∷ Met.Nothing ∷ []
goes_on_elsewhere = refl

-- what was hit there is told here
hit_elsewhere : taking (after 4 fresh) (after 1 (armed fresh (failure 1 8))) ≡ counter_of 1 4 (record { queue = []; left = 0; hits = failure 1 8 ∷ []; stopped = false })
hit_elsewhere = refl

-- ---- the least place at which a file may differ from what was last synced

-- two bytes were written behind a synced file of eight; what was written before that counts no more
written_behind : lowest_since 10 (entries.Write 8 2 0 8 ∷ entries.Sync ∷ entries.Write 0 3 3 8 ∷ []) ≡ 8
written_behind = refl

-- a file of eight was cut to five, and nine bytes were written from its fifth on
cut_and_written : lowest_since 14 (entries.Write 5 9 3 5 ∷ entries.Cut 8 ∷ entries.Failed ∷ []) ≡ 5
cut_and_written = refl

-- a file of eight was written over from its second byte on, and cut to seven
written_over : lowest_since 7 (entries.Cut 8 ∷ entries.Write 1 4 4 8 ∷ []) ≡ 1
written_over = refl

-- ---- seeds

-- The multiples of the constant from 0 to 7 have the top bits 0, 1, 0, 1, 0, 0, 1, 0; those of 2^64 - 6 and 2^64 - 7 have 0 and 1. So the
-- seed 5 takes the old length, and of the places from 0 to 3 only the last byte of the new content.
seed_five : image_of 5 (1 ∷ 1 ∷ 1 ∷ 1 ∷ []) (2 ∷ 2 ∷ 2 ∷ 2 ∷ 2 ∷ 2 ∷ []) ≡ 1 ∷ 1 ∷ 1 ∷ 2 ∷ []
unfolding takes_new
seed_five = refl

-- the seed 6 takes the new length, and of the places from 0 to 5 the first and the last; the old content has no fifth byte
seed_six : image_of 6 (1 ∷ 1 ∷ 1 ∷ 1 ∷ []) (2 ∷ 2 ∷ 2 ∷ 2 ∷ 2 ∷ 2 ∷ []) ≡ 2 ∷ 1 ∷ 1 ∷ 1 ∷ 0 ∷ 2 ∷ []
unfolding takes_new
seed_six = refl

-- a cut: 6 takes the length of what was cut, 5 that of what was there, with no byte where it takes one that was cut off
cut_by_five : image_of 5 (1 ∷ 1 ∷ 1 ∷ 1 ∷ 1 ∷ []) (1 ∷ 1 ∷ []) ≡ 1 ∷ 1 ∷ 1 ∷ 0 ∷ 0 ∷ []
unfolding takes_new
cut_by_five = refl

cut_by_six : image_of 6 (1 ∷ 1 ∷ 1 ∷ 1 ∷ 1 ∷ []) (1 ∷ 1 ∷ []) ≡ 1 ∷ 1 ∷ []
unfolding takes_new
cut_by_six = refl
