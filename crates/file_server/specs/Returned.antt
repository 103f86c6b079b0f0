-- What a server did over the disks of the site and of the tape, and how they were given back to a shelf.
use Rattle.std.specs.Prelude.{◌≡◌, ◌⊎◌, ℕ, List, Option, is_some}
use Rattle.zbase.specs.Faults.{Counter}
use Rattle.zdisk.specs.Disk.{Told}
use Rattle.zio.specs.Clocks.{Tick}
use Rattle.zio.specs.Hubs.{Peers}
use Rattle.zio.specs.Shelves.{Entry}
use Rattle.evaluator.specs.Exec.{Eval}
use Rattle.file_server.specs.Running.{DiskRefused, DiskServed}
use Rattle.file_server.specs.Shelved.{TakesBoth, TakesOne}
use Rattle.file_server.specs.declared.refusal.FileRefusal.{FileRefusal}

-- it did what its plan says, and both were taken back
pub record BackServed {R : Type 0} (sound : Type 0) (takes : List ℕ → Option R) (eval : Eval R) (file record_ : List ℕ) (port connections most : ℕ) (files files' : Option (List Entry)) (disk tape : Option Told) (ticks : Option (List Tick)) (counter : Counter) (ticks' : Option (List Tick)) (counter' : Counter) (hub hub' : Option Peers) (accepted replies : ℕ) : Type 0 where
  pub disk' : Option Told
  pub tape' : Option Told
  pub served : DiskServed sound takes eval port connections most disk disk' tape' ticks counter ticks' counter' hub hub' accepted replies
  pub tells : is_some tape' ≡ is_some tape
  pub back : TakesBoth file record_ files disk' tape' files'

-- it was refused at first for this: so it is answered where both were taken back, and else with want of memory
abbrev pub IsBack : (file record_ : List ℕ) → Option (List Entry) → Option Told → Option Told → Option (List Entry) → (first refusal : FileRefusal) → Type 0
IsBack file record_ files disk tape files' first refusal =
    ((refusal ≡ first) × TakesBoth file record_ files disk tape files') ⊎ ((refusal ≡ FileRefusal.Memory) × TakesOne file record_ files disk tape files')

pub record BackRefused {R : Type 0} (sound : Type 0) (takes : List ℕ → Option R) (eval : Eval R) (file record_ : List ℕ) (port connections most : ℕ) (files files' : Option (List Entry)) (disk tape : Option Told) (ticks : Option (List Tick)) (counter : Counter) (hub hub' : Option Peers) (refusal : FileRefusal) : Type 0 where
  pub disk' : Option Told
  pub tape' : Option Told
  pub first : FileRefusal
  pub refused : DiskRefused sound takes eval port connections most disk disk' tape' ticks counter hub hub' first
  pub tells : is_some tape' ≡ is_some tape
  pub back : IsBack file record_ files disk' tape' files' first refusal
