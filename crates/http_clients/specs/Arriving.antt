-- The connections of a round, from their arrival to their end.
use Rattle.std.specs.Prelude.{◌≡◌, ◌⊎◌, ℕ, true, false, List, [], ◌∷◌, ◌++◌, length, map, MatchOption, Option, None, Some}
use Rattle.std.specs.List.{AllByRecursion, list_any}
use Rattle.http_in.specs.Messages.{one_message}
use Rattle.zio.specs.Hubs.{Peers, has_number, is_open}
use Rattle.http_clients.specs.declared.asked.Asked.{Asked}
use Rattle.http_clients.specs.Hearing.{IsAsking, IsPast, message_front}
use Rattle.http_clients.specs.Clients.{Client, heard, held}
use Rattle.http_clients.specs.Numbers.{Among, Distinct}

-- the bytes of the messages that came
abbrev pub bytes_of : List Asked → List (List ℕ)
bytes_of asked = map (λ a. a.bytes) asked

-- each message is what its bytes are
abbrev pub AreMessages : List Asked → Type 0
AreMessages asked = AllByRecursion (λ a. one_message a.bytes ≡ Some a.message) asked

-- ---- while they are served

-- its bytes begin with no message, and it is closed without a word
pub record IsSilent (c : Client) : Type 0 where
  pub unheard : message_front (heard c) ≡ None
  pub unwritten : c.end.written ≡ []
  pub shut : c.end.open_ ≡ false

-- it is open under this number, its bytes begin with this message, and nothing was written on it
pub record IsOpen (n : ℕ) (message : List ℕ) (c : Client) : Type 0 where
  pub asks : message_front (heard c) ≡ Some message
  pub number : c.end.number ≡ n
  pub open_still : c.end.open_ ≡ true
  pub unwritten : c.end.written ≡ []
  pub calm : c.end.write_faults ≡ 0

-- each of these is silent, or open under the next of the numbers, with the next of the messages
abbrev pub Stands : List ℕ → List (List ℕ) → List Client → Type 0
Stands ns ms [] = (ns ≡ []) × (ms ≡ [])
Stands ns ms (c ∷ cs) = (IsSilent c × Stands ns ms cs) ⊎ ((n : ℕ) × (rest : List ℕ) × (m : List ℕ) × (more : List (List ℕ)) × (ns ≡ n ∷ rest) × (ms ≡ m ∷ more) × IsOpen n m c × Stands rest more cs)

-- So many connections came, one after another; those that are open, under numbers of their own, sent these messages.
pub record Arrived (old new : Peers) (ns : List ℕ) (ms : List (List ℕ)) (count : ℕ) : Type 0 where
  pub clients : List Client
  pub port : new.port ≡ old.port
  pub came : old.coming ≡ map held clients ++ new.coming
  pub accepted : new.accepted ≡ old.accepted ++ map (λ c. c.end) clients
  pub stands : Stands ns ms clients
  pub distinct : Distinct ns
  pub apart : (n : ℕ) → Among n ns → list_any (has_number n) old.accepted ≡ false
  pub many : length clients ≡ count

-- where the hub tells, it tells other peers, which stand so to those before
abbrev pub Tells : Option Peers → Option Peers → (Peers → Peers → Type 0) → Type 0
Tells old new R = MatchOption old (new ≡ None) (λ p. (q : Peers) × (new ≡ Some q) × R p q)

-- ---- the next connection

-- it came, and sent this message
abbrev pub Enters : ℕ → List ℕ → Peers → Peers → Type 0
Enters n message old new = (bytes : List ℕ) × (old.coming ≡ bytes ∷ new.coming) × (new.port ≡ old.port) × (is_open n old ≡ false) × IsAsking new old.accepted n bytes message

-- it came and was closed; its bytes began with no message
abbrev pub LeavesUnheard : Peers → Peers → Type 0
LeavesUnheard old new = (bytes : List ℕ) × (old.coming ≡ bytes ∷ new.coming) × (new.port ≡ old.port) × ((past : IsPast new old.accepted bytes) × (message_front (heard past.client) ≡ None))

-- none came, or one that was closed
abbrev pub Leaves : Peers → Peers → Type 0
Leaves old new = (new ≡ old) ⊎ ((bytes : List ℕ) × (old.coming ≡ bytes ∷ new.coming) × (new.port ≡ old.port) × IsPast new old.accepted bytes)

-- some came, and behind them none, or one that was closed
abbrev pub ArrivedBut : List ℕ → List (List ℕ) → Peers → Peers → Type 0
ArrivedBut ns ms old new = (count : ℕ) × (mid : Peers) × Arrived old mid ns ms count × Leaves mid new

-- it is open among those that are, and its message is among the messages; or all is as it was
abbrev pub Admits : List ℕ → List ℕ → List Asked → List Asked → Option Peers → Option Peers → Type 0
Admits open_ open_' asked asked' old new =
    ((open_' ≡ open_) × (asked' ≡ asked) × Tells old new LeavesUnheard)
    ⊎ ((n : ℕ) × (a : Asked) × (open_' ≡ open_ ++ n ∷ []) × (asked' ≡ asked ++ a ∷ []) × (one_message a.bytes ≡ Some a.message) × Tells old new (Enters n a.bytes))
