-- What the disk holds that a run hands back, by the lines of its report.
use Rattle.std.specs.Prelude.{◌≡◌, ◌⊎◌, ℕ, ◌≤◌, List, [], ◌∷◌, ◌++◌, length, Option, Some}
use Rattle.zbase.specs.History.{History}
use Rattle.zbase.specs.Values.{last, upto}
use Rattle.zdisk.specs.Crashes.{IsSynced, Piles}
use Rattle.zdisk.specs.Disk.{Held, Told, content}
use Rattle.zdisk.specs.Images.{moment}
use Rattle.schedule.specs.declared.line.Line.{Line}
use Rattle.fs_store.specs.Moments.{OpensTo}

-- the bytes open to the history, wherever its file ends
abbrev pub OpensToHistory : List ℕ → History → Type 0
OpensToHistory bytes h = (end : ℕ) × OpensTo bytes h end

-- ---- moments of a disk

-- this was held at that moment, counted from the first, which is 0; newest first
abbrev pub HeldAt : List Held → ℕ → Held → Type 0
HeldAt [] k held = ⊥
HeldAt (h ∷ hs) k held = ((k ≡ length hs) × (held ≡ h)) ⊎ HeldAt hs k held

-- what was held at all moments, newest first
abbrev pub moments : Told → List Held
moments told = told.now ∷ told.earlier

-- at that moment the one image of the disk opened to the history
abbrev pub OpenedAt : Told → ℕ → History → Type 0
OpenedAt told k h = (held : Held) × HeldAt (moments told) k held × (held.before ≡ []) × OpensToHistory held.now h

-- ---- what a report acknowledges

-- a line acknowledges a commit; a restart begins anew, and so does a pack, with another disk
abbrev pub with_line : List ℕ → Line → List ℕ
with_line ts (Line.ReplyCommit w t bytes) = ts ++ t ∷ []
with_line ts (Line.Restart t n) = []
with_line ts (Line.Packed t n) = []
with_line ts _ = ts

-- the transactions of the commit replies that neither a restart nor a pack follows, in order, behind these
abbrev pub acknowledged : List ℕ → List Line → List ℕ
acknowledged ts [] = ts
acknowledged ts (l ∷ ls) = acknowledged (with_line ts l) ls

-- Where a disk's moments begin: with the bytes that were given, with what a restart found, whose last transaction is this, or
-- with what a pack wrote.
pub data Beginning : Type 0 where
  As_given : Beginning
  At_restart : (t : ℕ) → Beginning
  At_pack : Beginning

abbrev pub begun_anew : Beginning → Line → Beginning
begun_anew b (Line.Restart t n) = At_restart t
begun_anew b (Line.Packed t n) = At_pack
begun_anew b _ = b

-- behind these lines: by the last restart or pack, where there is one
abbrev pub begun_at : Beginning → List Line → Beginning
begun_at b [] = b
begun_at b (l ∷ ls) = begun_at (begun_anew b l) ls

-- for each of the transactions the disk has a moment at which its one image opened to the history up to it, and these
-- moments come one after another
abbrev pub HasMoments : Told → History → ℕ → List ℕ → Type 0
HasMoments told h from [] = Unit {0}
HasMoments told h from (t ∷ ts) = (k : ℕ) × (from ≤ k) × (k ≤ moment told) × (t ≤ last h) × OpenedAt told k (upto h t) × HasMoments told h k ts

-- at its first moment the disk's one image was the file that was given, or opened to what the last restart found; of a disk to
-- which a pack wrote nothing is said
abbrev pub BeginsWith : Told → List ℕ → History → Beginning → Type 0
BeginsWith told given h As_given = HeldAt (moments told) 0 (record { now = given; before = [] })
BeginsWith told given h (At_restart t) = (t ≤ last h) × OpenedAt told 0 (upto h t)
BeginsWith told given h At_pack = Unit {0}

-- What a report says of the disk that is handed back, its lines being these and its last history this: each commit reply
-- that neither a restart nor a pack follows has its moment, and the first moment is the given bytes or what the last restart found.
pub record Acknowledges (told : Told) (given : List ℕ) (h : History) (lines : List Line) : Type 0 where
  pub commits : HasMoments told h 0 (acknowledged [] lines)
  pub first : BeginsWith told given h (begun_at As_given lines)

-- the same where the disk tells
abbrev pub AcknowledgesWhereTold : Option Told → List ℕ → History → List Line → Type 0
AcknowledgesWhereTold disk given h lines = (told : Told) → disk ≡ Some told → Acknowledges told given h lines

-- what a disk has told of earlier moments is told still
abbrev pub PilesWhereTold : Option Told → Option Told → Type 0
PilesWhereTold old new = (told : Told) → new ≡ Some told → (before : Told) × (old ≡ Some before) × Piles before told

-- the disk is synced, and what it reads opens to the history
abbrev pub HoldsWhereTold : Option Told → History → Type 0
HoldsWhereTold disk h = (told : Told) → disk ≡ Some told → IsSynced told × OpensToHistory (content told) h
