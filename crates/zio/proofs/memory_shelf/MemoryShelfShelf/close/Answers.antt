use Rattle.std.proofs.Common.{rules, ◌≡◌, get_or, None, Some}
use Rattle.std.specs.List.{position}
use Rattle.std.specs.Str.{bytes_eq}
use Rattle.zio.specs.declared.memory_shelf.MemoryFile.{MemoryFile}
use Rattle.zio.proofs.Shelves.{put_first, put_nowhere}
use Rattle.zio.proofs.memory_shelf.MemoryShelfShelf.close.Goals as goal

pub returns-in-Some-clause-closed : goal.returns-in-Some-clause-closed
returns-in-Some-clause-closed c =
    let found : position (λ (f : MemoryFile). bytes_eq f.name c.args.name.now) c.args.self.now.files.items ≡ Some c.in-Some.place = search rules in
    let is : get_or c.args.self.now.files.items c.in-Some.place c.index_mut.result.now ≡ c.index_mut.result.now = search rules in
    put_first c.args.self.now.files.items c.args.name.now c.in_ok-bytes.bytes _ c.in-Some.place c.index_mut.result.now found is c.in_ok-bytes.ensures

pub returns-in_default-clause-closed : goal.returns-in_default-clause-closed
returns-in_default-clause-closed c =
    let found : position (λ (f : MemoryFile). bytes_eq f.name c.args.name.now) c.args.self.now.files.items ≡ None = search rules in
    put_nowhere c.args.self.now.files.items c.args.name.now _ found
