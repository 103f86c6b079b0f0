use Rattle.std.proofs.Common.{◌≡◌, ℕ, drop}
use Rattle.fs_index.specs.Places.{place_of}
use Rattle.fs_pack.specs.Output.{noted}
use Rattle.fs_pack.proofs.writing.note.Given as goal

-- with the rest it is what all note
abbrev pub invariant-loop-item : goal.invariant-loop-item
invariant-loop-item l = (o : ℕ) → noted o (place_of l.newest o) l.place (drop l.item-index l.items) ≡ noted o (place_of l.fn.newest o) l.fn.first l.items
