use Rattle.std.proofs.Common.{◌≡◌, drop, find}
use Rattle.http_in.specs.Headers.{is_named}
use Rattle.http_in.proofs.placed.Headers.first_value.Given as goal

-- the first of that name is the first of those that are left
abbrev pub invariant-loop-at : goal.invariant-loop-at
invariant-loop-at l = find (is_named l.name) l.self ≡ find (is_named l.name) (drop l.at l.self)
