use Rattle.std.proofs.Common.{◌≡◌, ◌<◌, drop, length, IfSome}
use Rattle.permissions.specs.Verdicts as spec
use Rattle.permissions.proofs.verdicts.allowed.Given as goal

-- the best place is that of the roles from this one on, and one of theirs
abbrev pub invariant-loop-place : goal.invariant-loop-place
invariant-loop-place l = (spec.at_place l.roles l.best ≡ spec.least_common l.mine (drop l.place l.roles)) × IfSome l.best (λ place. place < length l.roles)
