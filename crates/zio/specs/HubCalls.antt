-- What a call of a hub makes of the connection that it names.
use Rattle.std.specs.Prelude.{◌≡◌, ℕ, ◌+◌, ◌<◌, min, true, false, List, [], ◌++◌, length, take, Option, None, Some, MatchOption}
use Rattle.std.specs.Option.{ForSome}
use Rattle.zbase.specs.Limits.{greatest_number}
use Rattle.zio.specs.Hubs.{Connection, Peers, Accepts, change_at, is_open, left_at}

-- the hub listens on that port
abbrev pub listening_on : ℕ → Peers → Peers
listening_on port p = record { port = Some port; accepted = p.accepted; coming = p.coming }

-- the connection is open, where the hub tells
abbrev pub WasOpen : ℕ → Option Peers → Type 0
WasOpen n peers = ForSome peers (λ p. is_open n p ≡ true)

-- what an accept answers, where the hub tells; one that doesn't tell goes on so
abbrev pub Accepted : Option Peers → Option Peers → Option ℕ → Type 0
Accepted old new next = MatchOption old (new ≡ None) (λ p. (q : Peers) × (new ≡ Some q) × Accepts p q next)

abbrev pub with_left : List ℕ → Connection → Connection
with_left left c = record { number = c.number; left = left; written = c.written; open_ = c.open_; read_faults = c.read_faults; write_faults = c.write_faults }

abbrev pub with_more : List ℕ → Connection → Connection
with_more bytes c = record { number = c.number; left = c.left; written = c.written ++ bytes; open_ = c.open_; read_faults = c.read_faults; write_faults = c.write_faults }

abbrev pub with_read_fault : Connection → Connection
with_read_fault c = record { number = c.number; left = c.left; written = c.written; open_ = c.open_; read_faults = min (c.read_faults + 1) greatest_number; write_faults = c.write_faults }

abbrev pub with_write_fault : Connection → Connection
with_write_fault c = record { number = c.number; left = c.left; written = c.written; open_ = c.open_; read_faults = c.read_faults; write_faults = min (c.write_faults + 1) greatest_number }

abbrev pub without_peer : Connection → Connection
without_peer c = record { number = c.number; left = c.left; written = c.written; open_ = false; read_faults = c.read_faults; write_faults = c.write_faults }

-- n bytes were read: the front of what was left; none for a buffer that isn't empty only at the end
abbrev pub Reads : ℕ → ℕ → List ℕ → Option Peers → Option Peers → Type 0
Reads conn n buf old new = MatchOption old (new ≡ None) (λ p. (rest : List ℕ) × (left_at conn p.accepted ≡ take n buf ++ rest) × (n ≡ 0 → 0 < length buf → rest ≡ []) × (new ≡ Some (change_at conn (with_left rest) p)))

abbrev pub ReadFails : ℕ → Option Peers → Option Peers → Type 0
ReadFails conn old new = MatchOption old (new ≡ None) (λ p. new ≡ Some (change_at conn with_read_fault p))

abbrev pub Writes : ℕ → List ℕ → Option Peers → Option Peers → Type 0
Writes conn bytes old new = MatchOption old (new ≡ None) (λ p. new ≡ Some (change_at conn (with_more bytes) p))

abbrev pub WriteFails : ℕ → List ℕ → Option Peers → Option Peers → Type 0
WriteFails conn bytes old new = MatchOption old (new ≡ None) (λ p. (front : List ℕ) × (rest : List ℕ) × (bytes ≡ front ++ rest) × (new ≡ Some (change_at conn (λ c. with_write_fault (with_more front c)) p)))

abbrev pub closed : ℕ → Peers → Peers
closed conn p = change_at conn without_peer p
