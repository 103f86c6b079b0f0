-- The refusals of the parts, as those of the server of a file, and by when each comes.
use Rattle.std.specs.Prelude.{◌⊎◌}
use Rattle.fs_store.specs.declared.opening.OpenRefusal.{OpenRefusal}
use Rattle.zio.specs.declared.refusal.ShelfRefusal.{ShelfRefusal}
use Rattle.zserve.specs.declared.refusal.ServeRefusal.{ServeRefusal}
use Rattle.file_server.specs.declared.refusal.FileRefusal.{FileRefusal}

abbrev pub of_open : OpenRefusal → FileRefusal
of_open (OpenRefusal.Damaged kind place) = FileRefusal.Damaged kind place
of_open OpenRefusal.Disk = FileRefusal.Disk
of_open (OpenRefusal.TooLong n) = FileRefusal.TooLong n
of_open OpenRefusal.Memory = FileRefusal.Memory

-- a fault of the tape is one of a disk
abbrev pub of_serve : ServeRefusal → FileRefusal
of_serve ServeRefusal.Hub = FileRefusal.Hub
of_serve ServeRefusal.Tape = FileRefusal.Disk
of_serve ServeRefusal.Memory = FileRefusal.Memory

abbrev pub of_shelf : ShelfRefusal → FileRefusal
of_shelf ShelfRefusal.Missing = FileRefusal.Missing
of_shelf ShelfRefusal.Exists = FileRefusal.Exists
of_shelf ShelfRefusal.Failed = FileRefusal.Disk
of_shelf ShelfRefusal.Memory = FileRefusal.Memory

-- What is left is by when the refusal came: before there was a tape, while the file was opened, or while it was served. Only want of
-- memory and a fault of a disk may come at any time.
abbrev pub Comes : FileRefusal → (before opening serving : Type 0) → Type 0
Comes FileRefusal.Missing before opening serving = before
Comes FileRefusal.Exists before opening serving = before
Comes (FileRefusal.TooLong n) before opening serving = opening
Comes (FileRefusal.Damaged kind place) before opening serving = opening
Comes FileRefusal.Hub before opening serving = serving
Comes FileRefusal.Disk before opening serving = before ⊎ (opening ⊎ serving)
Comes FileRefusal.Memory before opening serving = before ⊎ (opening ⊎ serving)
