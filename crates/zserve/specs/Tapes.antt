-- The tape of a server: a schedule that says again what came to it, and in which order it was served.
use Rattle.std.specs.Prelude.{◌≡◌, ◌⊎◌, ℕ, ◌+◌, ◌-◌, ◌<◌, ◌≤◌, min, Bool, true, false, List, [], ◌∷◌, ◌++◌, length, map, flat_map, Option, Some, None, if◌then◌else◌}
use Rattle.std.specs.List.{AllByRecursion, filter_map}
use Rattle.schedule.specs.declared.item.Item2.{Item2}
use Rattle.schedule.specs.declared.line.Line.{Line}
use Rattle.zio.specs.Hubs.{Peers}
use Rattle.http_clients.specs.Clients.{Client, heard, held}
use Rattle.zserve.specs.Happened.{Happening}
use Rattle.zserve.specs.Turns.{AreTurns, all_in, lines_in, reply_among}

-- ---- rounds

-- a round: the connections that it took, in order, the stamp of its clock, and its turns
pub record Round : Type 0 where
  pub clients : List Client
  pub stamp : ℕ
  pub turns : List (List Happening)

-- the messages that the connections' bytes begin with
abbrev pub messages : (List ℕ → Option (List ℕ)) → List Client → List (List ℕ)
messages begins clients = filter_map (λ c. begins (heard c)) clients

-- the requests, to workers from w on
abbrev pub given_from : ℕ → List (List ℕ) → List Happening
given_from w [] = []
given_from w (m ∷ ms) = (Item2.Request w m, []) ∷ given_from (w + 1) ms

-- their workers
abbrev pub workers_from : ℕ → List (List ℕ) → List ℕ
workers_from w [] = []
workers_from w (m ∷ ms) = w ∷ workers_from (w + 1) ms

-- what happens in a round: its requests are given, the clock is read, and the workers step in turns
abbrev pub happened_in : (List ℕ → Option (List ℕ)) → Round → List Happening
happened_in begins r = given_from 0 (messages begins r.clients) ++ (Item2.Clock r.stamp, []) ∷ all_in r.turns

-- ---- replies

abbrev pub is_message : Option (List ℕ) → Bool
is_message None = false
is_message (Some m) = true

-- each connection, with the worker to which its message was given
abbrev pub assigned : (List ℕ → Option (List ℕ)) → ℕ → List Client → List (Client × Option ℕ)
assigned begins w [] = []
assigned begins w (c ∷ cs) = if is_message (begins (heard c)) then (c, Some w) ∷ assigned begins (w + 1) cs else (c, None) ∷ assigned begins w cs

-- the bytes, cut short only where a write of the connection failed
abbrev pub Carries : List ℕ → Client → Type 0
Carries reply c = (rest : List ℕ) × (reply ≡ c.end.written ++ rest) × (c.end.write_faults ≡ 0 → rest ≡ [])

-- what is written on a connection is its worker's reply; nothing, where it has no worker
abbrev pub IsAnswered : List Line → Client × Option ℕ → Type 0
IsAnswered lines (c, None) = c.end.written ≡ []
IsAnswered lines (c, Some w) = (reply : List ℕ) × (reply_among w lines ≡ Some reply) × Carries reply c

pub record IsRound (begins : List ℕ → Option (List ℕ)) (r : Round) : Type 0 where
  pub turns : AreTurns (workers_from 0 (messages begins r.clients)) r.turns
  pub answered : AllByRecursion (IsAnswered (lines_in (all_in r.turns))) (assigned begins 0 r.clients)
  pub closed : AllByRecursion (λ c. c.end.open_ ≡ false) r.clients

-- ---- the whole tape

-- How many connections each round took: the least of `most` and what is left, and at least one. It took fewer only where there were no
-- more, and then it is the last.
abbrev pub Takes : (most left : ℕ) → Type 0 → List ℕ → Type 0
Takes most left no_more [] = Unit {0}
Takes most left no_more (k ∷ ks) = (1 ≤ k) × (k ≤ min most left) × (k < min most left → no_more × (ks ≡ [])) × Takes most (left - k) no_more ks

abbrev pub total : List ℕ → ℕ
total [] = 0
total (k ∷ ks) = k + total ks

abbrev pub sizes : List Round → List ℕ
sizes rounds = map (λ r. length r.clients) rounds

abbrev pub clients_of : List Round → List Client
clients_of rounds = flat_map (λ r. r.clients) rounds

abbrev pub happened : (List ℕ → Option (List ℕ)) → List Round → List Happening
happened begins rounds = flat_map (happened_in begins) rounds

-- The rounds of a run over a hub, which told these peers at first and tells those in the end; of `connections` at most, so many a
-- round.
pub record AreRounds (begins : List ℕ → Option (List ℕ)) (connections most : ℕ) (old new : Peers) (rounds : List Round) : Type 0 where
  pub came : old.coming ≡ map held (clients_of rounds) ++ new.coming
  pub accepted : new.accepted ≡ old.accepted ++ map (λ c. c.end) (clients_of rounds)
  pub sized : Takes most connections (new.coming ≡ []) (sizes rounds)
  pub each : AllByRecursion (IsRound begins) rounds

-- the last round ended at `connections`, or where the hub had no more
abbrev pub IsWhole : ℕ → Peers → List Round → Type 0
IsWhole connections new rounds = (total (sizes rounds) ≡ connections) ⊎ (new.coming ≡ [])

-- A run that was refused: whole rounds, and then the connections of the round in which it was refused, of which nothing is said but
-- that they are closed.
pub record RefusedRounds (begins : List ℕ → Option (List ℕ)) (connections most : ℕ) (old new : Peers) (rounds : List Round) : Type 0 where
  pub others : List Client
  pub came : old.coming ≡ map held (clients_of rounds ++ others) ++ new.coming
  pub accepted : new.accepted ≡ old.accepted ++ map (λ c. c.end) (clients_of rounds ++ others)
  pub sized : Takes most connections (new.coming ≡ []) (sizes rounds)
  pub each : AllByRecursion (IsRound begins) rounds
  pub shut : AllByRecursion (λ c. c.end.open_ ≡ false) others
