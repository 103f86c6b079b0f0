-- What a command meets of the outside, at a moment: what the shelf, the source, the sink, the hub and the clock tell, and how often each
-- has failed.
use Rattle.std.specs.Prelude.{◌⊎◌, ℕ, List, Option}
use Rattle.zbase.specs.Faults.{Counter, Rose}
use Rattle.zio.specs.Clocks.{Tick}
use Rattle.zio.specs.Hubs.{Peers}
use Rattle.zio.specs.Shelves.{Entry}

pub record OutsideView : Type 1 where
  -- the files of the shelf, where it tells, and whether none of the disks that it hands out can fail
  pub files : Option (List Entry)
  pub sound_disks : Type 0
  -- a stop at any later moment leaves the file of that name as the shelf tells it, where it tells
  pub lasts : List ℕ → Type 0
  pub shelf : Counter
  -- what the source has left, where it tells
  pub input : Option (List ℕ)
  pub source : Counter
  -- what the sink was given, where it tells
  pub written : Option (List ℕ)
  pub sink : Counter
  -- what the hub tells of its connections, where it tells, and how often it failed to listen or to accept one
  pub peers : Option Peers
  pub hub : Counter
  -- the moments that the clock is going to tell, where it tells
  pub ticks : Option (List Tick)
  pub clock : Counter

abbrev pub outside : Option (List Entry) → Type 0 → (List ℕ → Type 0) → Counter → Option (List ℕ) → Counter → Option (List ℕ) → Counter → Option Peers → Counter → Option (List Tick) → Counter → OutsideView
outside files sound_disks lasts shelf input source written sink peers hub ticks clock = record {
  files = files;
  sound_disks = sound_disks;
  lasts = lasts;
  shelf = shelf;
  input = input;
  source = source;
  written = written;
  sink = sink;
  peers = peers;
  hub = hub;
  ticks = ticks;
  clock = clock;
}

-- the moment, with this written and this count of the sink's faults
abbrev pub told : OutsideView → Option (List ℕ) → Counter → OutsideView
told at written sink = outside at.files at.sound_disks at.lasts at.shelf at.input at.source written sink at.peers at.hub at.ticks at.clock

-- the source's count rose from one moment to the other
abbrev pub SourceFailed : OutsideView → OutsideView → Type 0
SourceFailed old new = Rose old.source new.source

abbrev pub SinkFailed : OutsideView → OutsideView → Type 0
SinkFailed old new = Rose old.sink new.sink

-- the count of the hub's failures to listen and to accept rose
abbrev pub HubFailed : OutsideView → OutsideView → Type 0
HubFailed old new = Rose old.hub new.hub

abbrev pub ShelfFailed : OutsideView → OutsideView → Type 0
ShelfFailed old new = Rose old.shelf new.shelf

-- the shelf's count rose, or that of a disk which it handed out: such a disk is gone by then
abbrev pub DiskFailed : OutsideView → OutsideView → Type 0
DiskFailed old new = ShelfFailed old new ⊎ (old.sound_disks → ⊥)
