use Rattle.std.proofs.Common.{◌≤◌, length}
use Rattle.net_hub.proofs.client.write_some.Given as goal

-- no more was sent than there is
abbrev pub invariant-loop : goal.invariant-loop
invariant-loop l = l.sent ≤ length l.bytes
