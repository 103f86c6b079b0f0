-- What a server did: a whole run, or what came before it was refused.
use Rattle.std.specs.Prelude.{◌≡◌, ◌⊎◌, ℕ, ◌+◌, List, [], flat_map, length, map, Option, Some}
use Rattle.zbase.specs.Faults.{Counter}
use Rattle.zdisk.specs.Disk.{Told}
use Rattle.zio.specs.Clocks.{Tick}
use Rattle.zio.specs.Hubs.{Peers}
use Rattle.evaluator.specs.Exec.{Eval}
use Rattle.http_clients.specs.Arriving.{Tells}
use Rattle.http_clients.specs.Hearing.{message_front}
use Rattle.txn_core.specs.Cores.{CoreView}
use Rattle.zserve.specs.Going.{Goes}
use Rattle.zserve.specs.Happened.{Happening, items}
use Rattle.zserve.specs.Serving.{RoundsSoFar}
use Rattle.zserve.specs.Stamped.{AreStamps}
use Rattle.zserve.specs.Sweeping.{Waits}
use Rattle.zserve.specs.Tapes.{AreRounds, IsWhole, RefusedRounds, Round, happened, messages, sizes, total}
use Rattle.zserve.specs.Taping.{Continues}

-- how many messages the connections of some rounds sent
abbrev pub replies_of : List Round → ℕ
replies_of rounds = length (flat_map (λ r. messages message_front r.clients) rounds)

-- What the hub tells of the rounds so far, behind which so many connections are left: each took as many as it could, or the last
-- one found no more.
pub record ToldSoFar (connections most : ℕ) (all : List Happening) (ticks : Option (List Tick)) (counter : Counter) (ticks' : Option (List Tick)) (counter' : Counter) (left replies : ℕ) (old new : Peers) : Type 0 where
  pub rounds : List Round
  pub is : all ≡ happened message_front rounds
  pub port : new.port ≡ old.port
  pub kept : RoundsSoFar message_front connections most old new rounds left ⊎ (AreRounds message_front connections most old new rounds × (new.coming ≡ []))
  pub stamps : AreStamps ticks counter (map (λ r. r.stamp) rounds) ticks' counter'
  pub count : total (sizes rounds) + left ≡ connections
  pub replied : replies_of rounds ≡ replies

-- Rounds so far: the core went by what happened, and the tape has that behind what it had.
pub record RoundsGone {E R S : Type 0} (takes : List ℕ → Option R) (eval : Eval R) (connections most : ℕ) (old new : CoreView E R S) (ticks : Option (List Tick)) (counter : Counter) (ticks' : Option (List Tick)) (counter' : Counter) (tape tape' : Option Told) (hub hub' : Option Peers) (left replies : ℕ) : Type 0 where
  pub all : List Happening
  pub now : ℕ
  pub goes : Goes takes eval old 0 all new now
  pub idle : Waits new []
  pub taped : Continues tape (items all) tape'
  pub told : Tells hub hub' (ToldSoFar connections most all ticks counter ticks' counter' left replies)

-- What the hub tells of a whole run: on the port, rounds of so many connections in all, which are what happened.
pub record RunTold (port connections most : ℕ) (all : List Happening) (ticks : Option (List Tick)) (counter : Counter) (ticks' : Option (List Tick)) (counter' : Counter) (accepted replies : ℕ) (old new : Peers) : Type 0 where
  pub port_is : new.port ≡ Some port
  pub rounds : List Round
  pub is : all ≡ happened message_front rounds
  pub are : AreRounds message_front connections most old new rounds
  pub whole : IsWhole connections new rounds
  pub stamps : AreStamps ticks counter (map (λ r. r.stamp) rounds) ticks' counter'
  pub many : accepted ≡ total (sizes rounds)
  pub replied : replies ≡ replies_of rounds

-- ---- refused

-- What the hub tells of a run that was refused: it listened on the port, unless it refused that; then whole rounds, which are what
-- happened, and the connections of the round in which the run was refused.
pub record RefusedTold (port connections most : ℕ) (all : List Happening) (ticks : Option (List Tick)) (counter : Counter) (old new : Peers) : Type 0 where
  pub port_is : (new ≡ old) ⊎ (new.port ≡ Some port)
  pub rounds : List Round
  pub is : all ≡ happened message_front rounds
  pub are : RefusedRounds message_front connections most old new rounds
  pub stamps : (ticks' : Option (List Tick)) × (counter' : Counter) × AreStamps ticks counter (map (λ r. r.stamp) rounds) ticks' counter'

-- A run that was refused: the core went by all that happened in whole rounds, and from there by what happened in the round in which
-- the run was refused.
pub record RefusedRun {E R S : Type 0} (takes : List ℕ → Option R) (eval : Eval R) (port connections most : ℕ) (old new : CoreView E R S) (ticks : Option (List Tick)) (counter : Counter) (hub hub' : Option Peers) : Type 0 where
  pub all : List Happening
  pub served : CoreView E R S
  pub now : ℕ
  pub goes : Goes takes eval old 0 all served now
  pub more : List Happening
  pub later : ℕ
  pub went : Goes takes eval served now more new later
  pub told : Tells hub hub' (RefusedTold port connections most all ticks counter)
