use Rattle.std.proofs.Common.{rules, ◌≡◌, ◌++◌, [], ◌∷◌, Some}
use Rattle.zio.specs.Shelves.{file_at}
use Rattle.zio.specs.MemoryShelves.{entries}
use Rattle.zio.proofs.Shelves.{one_behind}
use Rattle.zio.proofs.memory_shelf.MemoryShelfShelf.replace.Goals as goal

pub returns-in-Ok-clause-replaced : goal.returns-in-Ok-clause-replaced
returns-in-Ok-clause-replaced c =
    let found : file_at (entries c.args.self.now.files.items) c.args.new.now ≡ Some c.in-Some.file.now.bytes = search rules in
    let pushed : c.push.new.self.items ≡ c.in_ok-files.files.items ++ c.in_ok-moved.moved ∷ [] = search rules in
    (c.in-Some.file.now.bytes, found, one_behind c.in_ok-files.files.items c.push.new.self.items c.in_ok-moved.moved _ _ pushed (search rules) c.in_ok-moved.ensures.entry)
