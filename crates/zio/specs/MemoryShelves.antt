-- Files in memory as a shelf tells them.
use Rattle.std.specs.Prelude.{◌≡◌, List, None, All, map}
use Rattle.zio.specs.declared.memory_shelf.MemoryFile.{MemoryFile}
use Rattle.zio.specs.Shelves.{Entry}

abbrev pub entry : MemoryFile → Entry
entry file = (file.name, file.bytes)

abbrev pub entries : List MemoryFile → List Entry
entries files = map entry files

-- no call of a disk over the file is to fail
abbrev pub NeverFails : MemoryFile → Type 0
NeverFails file = file.failing ≡ None

abbrev pub HaveSoundDisks : List MemoryFile → Type 0
HaveSoundDisks files = All NeverFails files
