use Rattle.std.proofs.Common.{◌≡◌, filter, take}
use Rattle.zio.specs.Shelves.{is_other}
use Rattle.zio.specs.MemoryShelves.{HaveSoundDisks, entries}
use Rattle.zio.proofs.memory_shelf.copies_of_others.Given as goal

-- the others among the files so far were copied
abbrev pub invariant-loop-file : goal.invariant-loop-file
invariant-loop-file l =
    (entries l.others.items ≡ filter (is_other l.one l.two) (entries (take l.file-index l.files)))
    × (HaveSoundDisks l.files → HaveSoundDisks l.others.items)
