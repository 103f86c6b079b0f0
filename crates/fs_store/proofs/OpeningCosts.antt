-- What an opening has cost.
use Rattle.std.proofs.Common.{ℕ, ◌+◌, ◌≤◌, List, [], Option, Some, None, IfSome, arith}
use Rattle.zdisk.specs.Calls.{Follows}
use Rattle.zdisk.specs.Disk.{Told, content}
use Rattle.fs_scan.specs.Scanned.{CostsScan}
use Rattle.fs_store.specs.Opened.{CostsOpening, Synced}
use Rattle.fs_store.proofs.Tellings.{on_told}
use Rattle.fs_store.proofs.Tidying.{content_before}

-- nothing was read yet
pub costs_begin : (o : Option Told) (calls more : ℕ) → more ≤ calls + 4 → IfSome o (λ told. CostsOpening (content told) calls more)
costs_begin None calls more le = tt
costs_begin (Some told) calls more le = record { pieces = 0; apart = omega arith; backs = []; rise = tt; point = tt; within = omega (arith, le) }

further : (bytes : List ℕ) (calls from now more : ℕ) → CostsScan bytes from now → from ≤ calls + 2 → more ≤ now + 5 → CostsOpening bytes calls more
further bytes calls from now more c early late = record { pieces = c.pieces; apart = c.apart; backs = c.backs; rise = c.rise; point = c.point; within = omega (arith, c.within, early, late) }

-- behind the sync the file was scanned
pub costs_read : (old synced : Option Told) (calls from now more : ℕ) → Follows old synced Synced → IfSome synced (λ told. CostsScan (content told) from now) → from ≤ calls + 2 → more ≤ now + 5 → IfSome old (λ told. CostsOpening (content told) calls more)
costs_read old synced calls from now more call costs early late =
    on_told old (λ told. CostsScan (content told) from now) (λ told. CostsOpening (content told) calls more) (λ told c. further (content told) calls from now more c early late)
    (content_before (λ bytes. CostsScan bytes from now) old synced call costs)
