-- What a disk holds once a run is over.
use Rattle.std.specs.Prelude.{◌≡◌, Option, Some, IfSome}
use Rattle.zbase.specs.History.{History}
use Rattle.zdisk.specs.Crashes.{IsSynced}
use Rattle.zdisk.specs.Disk.{Told, content}
use Rattle.fs_record.specs.File.{Front, IsFile}

-- what the disk reads is its one image, a file of this history
abbrev pub HoldsFile : Option Told → History → Type 0
HoldsFile disk h = IfSome disk (λ told. IsSynced told × ((front : Front) × IsFile (content told) front × (front.history ≡ h)))

-- the disk tells, and what it reads is a file of this history
abbrev pub TellsFile : Option Told → History → Type 0
TellsFile disk h = (told : Told) × (disk ≡ Some told) × ((front : Front) × IsFile (content told) front × (front.history ≡ h))
