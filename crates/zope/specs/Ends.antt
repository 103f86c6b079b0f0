-- How a run ends: with 0, or with the status of its cause.
use Rattle.std.specs.Prelude.{◌≡◌, ◌⊎◌, ◌≤◌, ℕ, List}
use Rattle.zope.specs.declared.refusal.Refusal.{Refusal}
use Rattle.zope.specs.Causes.{Comes, Did}
use Rattle.zope.specs.Outside.{OutsideView, SinkFailed}

-- the status of a refusal
abbrev pub status_of : Refusal → ℕ
status_of Refusal.Usage = 2
status_of Refusal.NotLegible = 10
status_of (Refusal.Damaged kind place) = 3
status_of (Refusal.BadLine n) = 4
status_of Refusal.Disk = 5
status_of Refusal.Input = 6
status_of Refusal.Output = 6
status_of Refusal.Memory = 7
status_of Refusal.Missing = 8
status_of Refusal.Exists = 11
status_of Refusal.InputTooLarge = 9
status_of (Refusal.FileTooLarge n) = 9
status_of (Refusal.TooLong n) = 12
status_of (Refusal.Unreadable oid) = 13
status_of Refusal.PackExists = 11
status_of (Refusal.Full need limit) = 14
status_of Refusal.MissingIndex = 8
status_of (Refusal.BadIndex n) = 15
status_of (Refusal.BadPiece name) = 16
status_of Refusal.NamesSpent = 17

-- The command did what its words ask for; or a refusal comes, and this is its status; or the sink failed; or memory was
-- wanting.
abbrev pub Ends : List (List ℕ) → OutsideView → OutsideView → ℕ → Type 0
Ends words old new status =
    ((status ≡ 0) × Did words old new)
    ⊎ (((e : Refusal) × (status ≡ status_of e) × Comes words old new e)
    ⊎ (((status ≡ 6) × SinkFailed old new)
    ⊎ (status ≡ 7)))

-- the statuses that there are
abbrev pub IsStatus : ℕ → Type 0
IsStatus status = (status ≡ 0) ⊎ ((2 ≤ status) × (status ≤ 17))
