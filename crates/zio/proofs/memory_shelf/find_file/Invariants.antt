use Rattle.std.proofs.Common.{◌≡◌, drop}
use Rattle.zio.specs.Shelves.{file_at}
use Rattle.zio.specs.MemoryShelves.{entries}
use Rattle.zio.proofs.memory_shelf.find_file.Given as goal

-- what is left has what all have
abbrev pub invariant-loop-file : goal.invariant-loop-file
invariant-loop-file l = file_at (entries (drop l.file-index l.files)) l.name ≡ file_at (entries l.files) l.name
