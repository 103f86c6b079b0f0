-- What the loop over rounds keeps.
use Rattle.std.specs.Prelude.{◌≡◌, ℕ, List, [], ◌++◌, false, flat_map, length, map, slice_get, Option, Some, None}
use Rattle.std.specs.List.{AllByRecursion}
use Rattle.zbase.specs.Faults.{Counter}
use Rattle.zdisk.specs.Disk.{Told}
use Rattle.zio.specs.Clocks.{Tick}
use Rattle.zio.specs.Hubs.{Peers}
use Rattle.evaluator.specs.Exec.{Eval}
use Rattle.http_clients.specs.Arriving.{Tells}
use Rattle.http_clients.specs.Clients.{Client, held}
use Rattle.http_clients.specs.Hearing.{message_front}
use Rattle.schedule.specs.Items.{item_text}
use Rattle.txn_core.specs.Cores.{CoreView}
use Rattle.zserve.specs.Happened.{Happening, items}
use Rattle.zserve.specs.Rounds.{RoundDone, round_of}
use Rattle.zserve.specs.Stamped.{Stamps}
use Rattle.zserve.specs.Tapes.{Carries, IsRound, Round, Takes, clients_of, messages, sizes}
use Rattle.zserve.specs.Going.{Goes}
use Rattle.zserve.specs.Taping.{Continues, Leaves}

-- what is written on a connection is the reply that is kept for its worker; nothing, where it has none
abbrev pub AnsweredBy : List (Option (List ℕ)) → Client × Option ℕ → Type 0
AnsweredBy replies (c, None) = c.end.written ≡ []
AnsweredBy replies (c, Some w) = (reply : List ℕ) × (slice_get replies w ≡ Some (Some reply)) × Carries reply c

-- The rounds so far, and how many connections are left: each took as many as it could, and whatever rounds follow of those that are
-- left, all together are rounds of all.
pub record RoundsSoFar (begins : List ℕ → Option (List ℕ)) (connections most : ℕ) (old new : Peers) (rounds : List Round) (left : ℕ) : Type 0 where
  pub came : old.coming ≡ map held (clients_of rounds) ++ new.coming
  pub accepted : new.accepted ≡ old.accepted ++ map (λ c. c.end) (clients_of rounds)
  pub sized : (last : Peers) (more : List ℕ) → Takes most left (last.coming ≡ []) more → Takes most connections (last.coming ≡ []) (sizes rounds ++ more)
  pub each : AllByRecursion (IsRound begins) rounds

-- ---- one round

-- A round with these messages is done: the clock was read, the tape has its items, and these are its replies.
pub record RoundTaped {E R S : Type 0} (takes : List ℕ → Option R) (eval : Eval R) (old new : CoreView E R S) (ticks : Option (List Tick)) (counter : Counter) (ticks' : Option (List Tick)) (counter' : Counter) (tape tape' : Option Told) (ms : List (List ℕ)) (stamp : ℕ) (turns : List (List Happening)) (replies : List (Option (List ℕ))) : Type 0 where
  pub done : (since : ℕ) → RoundDone takes eval old new since stamp ms turns replies
  pub stamps : Stamps ticks counter stamp ticks' counter'
  pub taped : Continues tape (items (round_of ms stamp turns)) tape'

-- What the hub tells of a round with these messages: so many connections came, of which the messages are; each that sent one has
-- its reply, and all are closed.
pub record RoundTold (ms : List (List ℕ)) (stamp : ℕ) (turns : List (List Happening)) (count : ℕ) (old new : Peers) : Type 0 where
  pub clients : List Client
  pub port : new.port ≡ old.port
  pub came : old.coming ≡ map held clients ++ new.coming
  pub accepted : new.accepted ≡ old.accepted ++ map (λ c. c.end) clients
  pub many : length clients ≡ count
  pub asked : messages message_front clients ≡ ms
  pub is : IsRound message_front (record { clients = clients; stamp = stamp; turns = turns })

-- none came
abbrev pub ArrivesNone : Peers → Peers → Type 0
ArrivesNone old new = (new ≡ old) × (old.coming ≡ [])

-- some connections came, of which only is said that they are closed
pub record AllShut (old new : Peers) : Type 0 where
  pub clients : List Client
  pub port : new.port ≡ old.port
  pub came : old.coming ≡ map held clients ++ new.coming
  pub accepted : new.accepted ≡ old.accepted ++ map (λ c. c.end) clients
  pub shut : AllByRecursion (λ c. c.end.open_ ≡ false) clients

-- A round was served: so many connections came, and so many of them sent a message.
pub record RoundServed {E R S : Type 0} (takes : List ℕ → Option R) (eval : Eval R) (old new : CoreView E R S) (ticks : Option (List Tick)) (counter : Counter) (ticks' : Option (List Tick)) (counter' : Counter) (tape tape' : Option Told) (hub hub' : Option Peers) (count answered : ℕ) : Type 0 where
  pub ms : List (List ℕ)
  pub stamp : ℕ
  pub turns : List (List Happening)
  pub replies : List (Option (List ℕ))
  pub taped : RoundTaped takes eval old new ticks counter ticks' counter' tape tape' ms stamp turns replies
  pub many : length ms ≡ answered
  pub told : Tells hub hub' (RoundTold ms stamp turns count)

-- A round was refused: the core went by something, of which the tape has nothing or all, or a torn piece where it failed.
abbrev pub RoundLost : {E R S : Type 0} → (failed : Type 0) → (List ℕ → Option R) → Eval R → CoreView E R S → ℕ → CoreView E R S → Option Told → Option Told → Type 0
RoundLost failed takes eval old since new tape tape' = (all : List Happening) × (now : ℕ) × Goes takes eval old since all new now × Leaves failed tape [] (flat_map item_text (items all)) tape'
