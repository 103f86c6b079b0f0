-- A connection that is being read, as the hub tells it.
use Rattle.std.specs.Prelude.{◌≡◌, ◌⊎◌, ℕ, true, false, List, [], ◌∷◌, ◌++◌, take, MatchOption, Option, Some, None, option_map}
use Rattle.std.specs.List.{list_any}
use Rattle.http_in.specs.Messages.{asked}
use Rattle.zio.specs.Hubs.{Connection, Peers, change_at, has_number, is_open, left_at}
use Rattle.zio.specs.HubCalls.{with_left, with_read_fault}
use Rattle.http_clients.specs.Clients.{Client, heard, held}

-- the bytes of the message that bytes begin with
abbrev pub message_front : List ℕ → Option (List ℕ)
message_front bytes = option_map (λ x. take x.1 bytes) (asked bytes)

-- The last connection that was accepted: it is open under this number, under which none before it is; it held these bytes at
-- first, of which reads gave a front; nothing was written on it, and no call on it failed.
pub record Hearing (peers : Peers) (before : List Connection) (n : ℕ) (bytes given : List ℕ) : Type 0 where
  pub connection : Connection
  pub last : peers.accepted ≡ before ++ connection ∷ []
  pub number : connection.number ≡ n
  pub open_still : connection.open_ ≡ true
  pub held : bytes ≡ given ++ connection.left
  pub unwritten : connection.written ≡ []
  pub calm : (connection.read_faults ≡ 0) × (connection.write_faults ≡ 0)
  pub alone : list_any (has_number n) before ≡ false

-- the hub tells other peers, whose port and whose coming connections are the same
abbrev pub TellsStill : Option Peers → Option Peers → (Peers → Peers → Type 0) → Type 0
TellsStill old new R = MatchOption old (new ≡ None) (λ p. (q : Peers) × (new ≡ Some q) × (q.port ≡ p.port) × (q.coming ≡ p.coming) × R p q)

-- ---- reading

-- a front of what the connection has left came
abbrev pub Comes : ℕ → List ℕ → Peers → Peers → Type 0
Comes n given old new = (rest : List ℕ) × (left_at n old.accepted ≡ given ++ rest) × (new ≡ change_at n (with_left rest) old)

-- nothing is left of it, or a read of it failed
abbrev pub Stops : ℕ → Peers → Peers → Type 0
Stops n old new = ((left_at n old.accepted ≡ []) × (new ≡ change_at n (with_left []) old)) ⊎ (new ≡ change_at n with_read_fault old)

-- whatever the connection held, these bytes of it came, and it is open
abbrev pub HearsOn : ℕ → List ℕ → Peers → Peers → Type 0
HearsOn n given old new = (is_open n new ≡ true) × ((before : List Connection) (bytes : List ℕ) → Hearing old before n bytes [] → Hearing new before n bytes given)

-- these came, and then no more
abbrev pub HearsAll : ℕ → List ℕ → Peers → Peers → Type 0
HearsAll n given old new = (mid : Peers) × HearsOn n given old mid × Stops n mid new

-- ---- what came of a connection

-- it is open, and its bytes begin with this message
abbrev pub IsAsking : Peers → List Connection → ℕ → List ℕ → List ℕ → Type 0
IsAsking peers before n bytes message = (given : List ℕ) × Hearing peers before n bytes given × (message_front bytes ≡ Some message)

-- it is closed, and nothing was written on it
pub record IsPast (peers : Peers) (before : List Connection) (bytes : List ℕ) : Type 0 where
  pub client : Client
  pub last : peers.accepted ≡ before ++ client.end ∷ []
  pub held_is : bytes ≡ held client
  pub silent : client.end.written ≡ []
  pub shut : client.end.open_ ≡ false

-- whatever the connection held, its bytes begin with this message
abbrev pub AsksFor : ℕ → List ℕ → Peers → Peers → Type 0
AsksFor n message old new = (before : List Connection) (bytes : List ℕ) → Hearing old before n bytes [] → IsAsking new before n bytes message

-- it is closed
abbrev pub Passes : ℕ → Peers → Peers → Type 0
Passes n old new = (before : List Connection) (bytes : List ℕ) → Hearing old before n bytes [] → IsPast new before bytes

-- and its bytes began with no message
abbrev pub PassesUnheard : ℕ → Peers → Peers → Type 0
PassesUnheard n old new = (before : List Connection) (bytes : List ℕ) → Hearing old before n bytes [] → (past : IsPast new before bytes) × (message_front (heard past.client) ≡ None)
