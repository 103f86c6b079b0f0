-- Connections that a server has met, by what came of them.
use Rattle.std.specs.Prelude.{ℕ, nat_lt, List, ◌++◌, if◌then◌else◌}
use Rattle.zio.specs.Hubs.{Connection}

-- a connection that a server has met: what its reads gave, and how the hub tells it in the end
pub record Client : Type 0 where
  pub given : List ℕ
  pub end : Connection

-- the bytes that the hub held for it when it was accepted
abbrev pub held : Client → List ℕ
held c = c.given ++ c.end.left

-- Its bytes: those that the hub held for it; where a read of it failed, those that it gave before.
abbrev pub heard : Client → List ℕ
heard c = if nat_lt 0 c.end.read_faults then c.given else held c
