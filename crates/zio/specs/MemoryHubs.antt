-- Connections in memory as a hub tells them: the number of each is its place.
use Rattle.std.specs.Prelude.{ℕ, ◌+◌, List, [], ◌∷◌, Option}
use Rattle.zbase.specs.Faults.{Counter}
use Rattle.zio.specs.declared.memory_connection.MemoryConnection.{MemoryConnection}
use Rattle.zio.specs.Hubs.{Connection, Peers}

abbrev pub connection : ℕ → MemoryConnection → Connection
connection n c = record { number = n; left = c.left; written = c.written; open_ = c.is_open; read_faults = c.read_faults; write_faults = c.write_faults }

-- the first of them has the number k
abbrev pub connections_from : ℕ → List MemoryConnection → List Connection
connections_from k [] = []
connections_from k (c ∷ cs) = connection k c ∷ connections_from (k + 1) cs

abbrev pub peers_of : Option ℕ → List MemoryConnection → List (List ℕ) → Peers
peers_of port accepted coming = record { port = port; accepted = connections_from 0 accepted; coming = coming }

-- what contracts see of a hub in memory
pub record Seen : Type 0 where
  pub peers : Peers
  pub counter : Counter
  pub listening : Counter
  pub streaming : Counter
