use Rattle.std.proofs.Common.{◌/◌, IsSome, refl, sym, subst}
use Rattle.fs_index.specs.Places.{Slots}
use Rattle.fs_index.proofs.Rows.{row_kept}
use Rattle.fs_index.proofs.index.Index.lengthen.Goals as goal

pub returns-in-Some : goal.returns-in-Some
returns-in-Some c =
    let row = c.in-Some.row.now in
    let found = c.in-Some.ensures.value in
    let s : Slots = record { rows = c.self.inside.rows.entries; few = c.self.inside.few.entries } in
    let new : Slots = record { rows = (c.get_mut.follows.lender c.lengthen.new.self).entries; few = c.lengthen.new.few.entries } in
    let there = (c.get_mut.follows.holds c.lengthen.new.self).3 (subst IsSome found refl) in
    rw (← c.self.view_is) (row_kept s new row c.lengthen.new.self (c.args.id / 65536) (sym found) (λ m. there.0 m) c.lengthen.ensures)
