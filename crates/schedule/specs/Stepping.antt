-- Stepped rightly: what a step of a worker prints, and the moment after it.
use Rattle.std.specs.Prelude.{ℕ, ◌≡◌, ◌+◌, ◌-◌, ◌==◌, ◌&&◌, ◌⊎◌, Bool, true, false, List, [], ◌∷◌, ◌++◌, length, map, min, Option, Some, None, nat_lt, if◌then◌else◌}
use Rattle.evaluator.specs.declared.fact.Fact.{Fact}
use Rattle.evaluator.specs.declared.reply.Reply.{Reply}
use Rattle.evaluator.specs.declared.draft.Draft.{Draft}
use Rattle.evaluator.specs.declared.outcome.Outcome.{Outcome}
use Rattle.zbase.specs.Limits.{greatest_number}
use Rattle.zbase.specs.History.{History}
use Rattle.zbase.specs.Values.{last, next, serial, upto}
use Rattle.evaluator.specs.Facts.{fact, look}
use Rattle.evaluator.specs.Settle.{settle, size}
use Rattle.evaluator.specs.Change.{made}
use Rattle.zbase.specs.declared.ids.Clash.{Clash}
use Rattle.schedule.specs.declared.line.Line.{Line}
use Rattle.evaluator.specs.declared.reply.Mark.{Mark}
use Rattle.schedule.specs.Moments.{Terms, Attempt, Doing, Free, Waiting, Asking, Computed, Vote, Moment, doing, turned, holding, dropped, stood, emptied, lost_lines}
use Rattle.schedule.specs.Causes.{conflict_reply, tids_reply, oids_reply, full_reply, fault_reply, memory_reply, unknown_reply, shown_lines, denied_line}

-- what a step prints, and the moment after it
abbrev pub Told : Type 0 → Type 0
Told R = List Line × Moment R

-- the reply `none`, which ends the request
abbrev pub ended : {R : Type 0} → Terms R → Moment R → ℕ → List Line → Reply → Told R
ended terms m w lines x = (lines ++ Line.ReplyNone w (terms.answer x Mark.Empty) ∷ [], turned m w Free)

-- the clash of a fetched object that has a later serial now
abbrev pub clash_of : History → Fact → Option Clash
clash_of h (Fact.Object o v s) = if nat_lt s (serial h o) then Some (record { oid = o; seen = s; found = serial h o }) else None
clash_of h (Fact.Transaction t ps) = None
clash_of h (Fact.Log rs) = None

abbrev pub sooner : Option Clash → Option Clash → Option Clash
sooner (Some c) second = Some c
sooner None second = second

-- the first clash, in the order of the fetch lines
abbrev pub first_clash : History → List Fact → Option Clash
first_clash h [] = None
first_clash h (f ∷ fs) = sooner (clash_of h f) (first_clash h fs)

abbrev pub vote_tid : {R : Type 0} → Moment R → ℕ
vote_tid m = if nat_lt (last m.standing) m.clock then m.clock else last m.standing + 1

abbrev pub need : {R : Type 0} → Moment R → Draft → ℕ
need m d = min (m.end + size d) greatest_number

-- validated: spent in this order, or a vote
abbrev pub votes : {R : Type 0} → Terms R → Moment R → ℕ → Reply → Draft → Told R
votes terms m w x d =
    if last m.standing == greatest_number then ended terms m w (Line.SpentTids w ∷ []) tids_reply
    else if nat_lt 0 (made d) && nat_lt greatest_number (next m.standing + made d) then ended terms m w (Line.SpentOids w (next m.standing - 1) (made d) ∷ []) oids_reply
    else if nat_lt terms.limit (need m d) then ended terms m w (Line.SpentFull w (need m d) terms.limit ∷ []) (full_reply (need m d) terms.limit)
    else (Line.Vote w (vote_tid m) ∷ [], holding m (record { holder = w; reply = x; transaction = settle m.standing d (vote_tid m); size = size d }))

-- the attempt ends; at the fourth conflict the request does
abbrev pub conflicts : {R : Type 0} → Terms R → Moment R → ℕ → Attempt R → Clash → Told R
conflicts terms m w a c =
    if nat_lt (length a.clashes) 3 then (Line.Conflict w c ∷ [], turned m w (Waiting a.request (a.clashes ++ c ∷ [])))
    else ended terms m w (Line.Conflict w c ∷ Line.GivenUp w (a.clashes ++ c ∷ []) ∷ []) (conflict_reply c.oid)

abbrev pub validated : {R : Type 0} → Terms R → Moment R → ℕ → Attempt R → Reply → Draft → Option Clash → Told R
validated terms m w a x d (Some c) = conflicts terms m w a c
validated terms m w a x d None = votes terms m w x d

abbrev pub commits : {R : Type 0} → Terms R → Moment R → ℕ → Vote → Told R
commits terms m w v = (Line.ReplyCommit w v.transaction.tid (terms.answer v.reply (Mark.Commit v.transaction.tid)) ∷ shown_lines w v.reply, turned (stood m v) w Free)

abbrev pub from_computed : {R : Type 0} → Terms R → Moment R → ℕ → Attempt R → Reply → Draft → Option Vote → Told R
from_computed terms m w a x d (Some v) = if v.holder == w then commits terms m w v else (Line.Busy w v.holder ∷ [], m)
from_computed terms m w a x d None = validated terms m w a x d (first_clash m.standing a.facts)

abbrev pub from_asking : {R : Type 0} → Terms R → Moment R → ℕ → Attempt R → Outcome → Told R
from_asking terms m w a (Outcome.Need ask) =
    (Line.Fetch w ask ∷ [], turned m w (Asking (record { request = a.request; clashes = a.clashes; snapshot = a.snapshot; facts = a.facts ++ fact (upto m.standing a.snapshot) ask ∷ [] })))
from_asking terms m w a (Outcome.Answer x) =
    (Line.ReplyRead w a.snapshot (terms.answer x (Mark.Read a.snapshot)) ∷ (shown_lines w x ++ denied_line w x.denied), turned m w Free)
from_asking terms m w a (Outcome.Change x d) = (Line.Computed w ∷ [], turned m w (Computed a x d))

abbrev pub from_doing : {R : Type 0} → Terms R → Moment R → ℕ → Option (Doing R) → Told R
from_doing terms m w None = ([], m)
from_doing terms m w (Some Free) = (Line.Idle w ∷ [], m)
from_doing terms m w (Some (Waiting q cs)) = (Line.Begin w (last m.standing) ∷ [], turned m w (Asking (record { request = q; clashes = cs; snapshot = last m.standing; facts = [] })))
from_doing terms m w (Some (Asking a)) = from_asking terms m w a (terms.eval (look a.facts) a.request)
from_doing terms m w (Some (Computed a x d)) = from_computed terms m w a x d m.vote

-- the table: a step in which nothing fails
abbrev pub told : {R : Type 0} → Terms R → Moment R → ℕ → Told R
told terms m w = from_doing terms m w (doing m w)

-- What may go wrong in a step. Of a transaction whose finish was cut off the trouble says whether it stands;
-- of a stop also what met the openings after it.
pub data Opening : Type 0 where
  Stops : Opening
  Faults : Opening

pub data Trouble : Type 0 where
  Wants_memory : Trouble
  Disk_fails : Trouble
  Is_unknown : (stands : Bool) → Trouble
  Is_stopped : (stands : Bool) → (openings : List Opening) → Trouble

abbrev pub has_request : {R : Type 0} → Option (Doing R) → Bool
has_request None = false
has_request (Some Free) = false
has_request (Some (Waiting q cs)) = true
has_request (Some (Asking a)) = true
has_request (Some (Computed a x d)) = true

-- the vote that the worker holds
abbrev pub held_by : ℕ → Option Vote → Option Vote
held_by w None = None
held_by w (Some v) = if v.holder == w then Some v else None

-- the vote that this worker held is settled, and any other is dropped
abbrev pub settled : {R : Type 0} → Moment R → Option Vote → Bool → Moment R
settled m (Some v) true = stood m v
settled m (Some v) false = dropped m
settled m None stands = dropped m

abbrev pub opening_line : Opening → Line
opening_line Stops = Line.Stop
opening_line Faults = Line.OpenFault

abbrev pub restarted : {R : Type 0} → List Line → List Opening → Moment R → Told R
restarted lost openings m = (Line.Stop ∷ (lost ++ map opening_line openings ++ Line.Restart (last m.standing) (length m.standing.transactions) ∷ []), emptied m)

-- what such a step prints in place of its lines; a worker that has voted meets no want of memory and no
-- disk fault, and only it meets an unknown outcome
abbrev pub fails : {R : Type 0} → Terms R → Moment R → ℕ → Option Vote → Trouble → Option (Told R)
fails terms m w None Wants_memory = Some (ended terms m w (Line.Memory w ∷ []) memory_reply)
fails terms m w None Disk_fails = Some (ended terms m w (Line.DiskFault w ∷ []) fault_reply)
fails terms m w (Some v) (Is_unknown stands) = Some (ended terms (settled m (Some v) stands) w (Line.Unknown w v.transaction.tid ∷ []) (unknown_reply v.transaction.tid))
fails terms m w held (Is_stopped stands openings) = Some (restarted (lost_lines m) openings (settled m held stands))
fails terms m w (Some v) Wants_memory = None
fails terms m w (Some v) Disk_fails = None
fails terms m w None (Is_unknown stands) = None

abbrev pub troubled : {R : Type 0} → Terms R → Moment R → ℕ → Trouble → Option (Told R)
troubled terms m w trouble = if has_request (doing m w) then fails terms m w (held_by w m.vote) trouble else None

-- A step of the worker may print these lines, and this is the moment after it.
abbrev pub Steps : {R : Type 0} → Terms R → Moment R → ℕ → List Line → Moment R → Type 0
Steps terms old w lines new = (told terms old w ≡ (lines, new)) ⊎ ((trouble : Trouble) × (troubled terms old w trouble ≡ Some (lines, new)))
