-- What a hub tells: the port that it listens on, its connections in the order in which they were accepted, and the
-- bytes of those that are going to come.
use Rattle.std.specs.Prelude.{◌≡◌, ℕ, ◌==◌, ◌&&◌, Bool, true, false, List, [], ◌∷◌, ◌++◌, map, length, nat_lt, Option, None, Some, if◌then◌else◌}
use Rattle.std.specs.List.{list_any}

-- A connection that was accepted: its number, the bytes that reads will give, the bytes that were written,
-- whether it is open, and how often its reads and its writes have failed.
pub record Connection : Type 0 where
  pub number : ℕ
  pub left : List ℕ
  pub written : List ℕ
  pub open_ : Bool
  pub read_faults : ℕ
  pub write_faults : ℕ

-- the port that was listened on last, the connections that were accepted, and the bytes of those that are going to come
pub record Peers : Type 0 where
  pub port : Option ℕ
  pub accepted : List Connection
  pub coming : List (List ℕ)

abbrev pub has_number : ℕ → Connection → Bool
has_number n c = c.open_ && (c.number == n)

-- the open connection of that number is changed so
abbrev pub change_at : ℕ → (Connection → Connection) → Peers → Peers
change_at n change peers = record { port = peers.port; accepted = map (λ c. if has_number n c then change c else c) peers.accepted; coming = peers.coming }

-- an open connection has that number
abbrev pub is_open : ℕ → Peers → Bool
is_open n peers = list_any (has_number n) peers.accepted

-- the bytes that reads of it will give
abbrev pub left_at : ℕ → List Connection → List ℕ
left_at n [] = []
left_at n (c ∷ cs) = if has_number n c then c.left else left_at n cs

abbrev pub opened : ℕ → List ℕ → Connection
opened n bytes = record { number = n; left = bytes; written = []; open_ = true; read_faults = 0; write_faults = 0 }

-- what an accept answers, and leaves
abbrev pub Accepts : Peers → Peers → Option ℕ → Type 0
Accepts old new None = (old.coming ≡ []) × (new ≡ old)
Accepts old new (Some n) = (bytes : List ℕ) × (old.coming ≡ bytes ∷ new.coming) × (is_open n old ≡ false) × (new.accepted ≡ old.accepted ++ opened n bytes ∷ []) × (new.port ≡ old.port)

-- whether a further connection is going to come
abbrev pub IsWaiting : Bool → Peers → Type 0
IsWaiting waits peers = waits ≡ nat_lt 0 (length peers.coming)
