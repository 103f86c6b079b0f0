-- Crash-safe: what a stop at any moment of a run leaves opens to what stands, with one transaction more at most.
use Rattle.std.specs.Prelude.{◌≡◌, ◌⊎◌, ℕ, List, [], ◌∷◌, Option}
use Rattle.zbase.specs.History.{History, IsPrefixOf, Transaction, added}
use Rattle.zdisk.specs.Crashes.{LeavesFrom}
use Rattle.zdisk.specs.Disk.{Told}
use Rattle.fs_store.specs.Moments.{OpensTo}
use Rattle.schedule.specs.StepLaws.{TellsLast}
use Rattle.zserve.specs.Happened.{Happening}

-- the bytes open to the history, or to that with one transaction more
abbrev pub OpensNear : History → List ℕ → Type 0
OpensNear h bytes = ((end : ℕ) × OpensTo bytes h end) ⊎ ((t : Transaction) × (end : ℕ) × OpensTo bytes (added h t) end)

-- Item by item, from what the disk told, and the history that stood for sure, to what it tells: each image that a stop at any
-- moment of an item might leave opens to the history that stood before it, or to that with one transaction more; a history
-- only grows, and ends with a commit's transaction from its reply on.
abbrev pub IsSafe : Option Told → History → List Happening → Option Told → History → Type 0
IsSafe told standing [] new last = (new ≡ told) × (last ≡ standing)
IsSafe told standing (h ∷ more) new last =
    (mid : Option Told) × (next : History) × LeavesFrom told mid (λ file image. OpensNear standing image) × IsPrefixOf standing next × TellsLast h.1 next × IsSafe mid next more new last
