-- The connections of a round, while it is under way.
use Rattle.std.specs.Prelude.{◌≡◌, ℕ, ◌+◌, true, false, List, [], ◌∷◌, ◌++◌, slice_get, MatchOption, Option, None, Some}
use Rattle.std.specs.Option.{ForSome}
use Rattle.zio.specs.Hubs.{Connection, Peers, change_at, is_open}
use Rattle.http_clients.specs.Numbers.{Among, Distinct}

-- ---- how connections end

-- what is done to a connection closes it, and takes nothing of what it sent
pub record Shuts (end : Connection → Connection) : Type 0 where
  pub number : (c : Connection) → (end c).number ≡ c.number
  pub left : (c : Connection) → (end c).left ≡ c.left
  pub read_faults : (c : Connection) → (end c).read_faults ≡ c.read_faults
  pub shut : (c : Connection) → (end c).open_ ≡ false

-- of a connection on which nothing was written it makes one with the reply, which is cut short only where a write failed
abbrev pub Sends : List ℕ → (Connection → Connection) → Type 0
Sends reply end = (c : Connection) → c.written ≡ [] → c.write_faults ≡ 0 → (rest : List ℕ) × (reply ≡ (end c).written ++ rest) × ((end c).write_faults ≡ 0 → rest ≡ [])

-- it sends the reply that is kept for the worker
abbrev pub SendsReply : List (Option (List ℕ)) → ℕ → (Connection → Connection) → Type 0
SendsReply replies w end = (reply : List ℕ) × (slice_get replies w ≡ Some (Some reply)) × Sends reply end

-- the connection of that number is ended so, where the hub tells
abbrev pub Ends : ℕ → ((Connection → Connection) → Type 0) → Option Peers → Option Peers → Type 0
Ends n Q old new = MatchOption old (new ≡ None) (λ p. (end : Connection → Connection) × Shuts end × Q end × (new ≡ Some (change_at n end p)))

-- those of these numbers are ended, one after another, each so as it is for its worker
abbrev pub EndsEach : (ℕ → (Connection → Connection) → Type 0) → ℕ → List ℕ → Peers → Peers → Type 0
EndsEach Q w [] old new = new ≡ old
EndsEach Q w (n ∷ ns) old new = (end : Connection → Connection) × Shuts end × Q w end × EndsEach Q (w + 1) ns (change_at n end old) new

abbrev pub EndsAll : (ℕ → (Connection → Connection) → Type 0) → List ℕ → Option Peers → Option Peers → Type 0
EndsAll Q ns old new = MatchOption old (new ≡ None) (λ p. (q : Peers) × (new ≡ Some q) × EndsEach Q 0 ns p q)

-- all of these are open, each under a number of its own
pub record AreOpen (ns : List ℕ) (peers : Peers) : Type 0 where
  pub distinct : Distinct ns
  pub open_each : (n : ℕ) → Among n ns → is_open n peers ≡ true

abbrev pub WereOpen : List ℕ → Option Peers → Type 0
WereOpen ns peers = ForSome peers (AreOpen ns)
