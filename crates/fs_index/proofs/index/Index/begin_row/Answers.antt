use Rattle.std.proofs.Common.{◌/◌, refl, sym}
use Rattle.fs_index.specs.Places.{Slots}
use Rattle.fs_index.proofs.Rows.{row_begun}
use Rattle.fs_index.proofs.index.Index.begin_row.Goals as goal

pub returns-in-Ok : goal.returns-in-Ok
returns-in-Ok c =
    let s : Slots = record { rows = c.self.inside.rows.entries; few = c.self.inside.few.entries } in
    let new : Slots = record { rows = c.insert.new.self.entries; few = c.self.inside.few.entries } in
    rw (← c.self.view_is) (row_begun s new (c.args.id / 65536) (sym c.in-None.ensures.value) refl (λ m. rw c.new.ensures at (c.in-Ok.ensures.updates.0 m)))
