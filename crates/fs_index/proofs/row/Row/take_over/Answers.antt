use Rattle.fs_index.proofs.Rows.{taken_over}
use Rattle.fs_index.proofs.row.Row.take_over.Goals as goal

pub returns : goal.returns
returns c =
    let is = rw c.len.ensures at c.place_among.ensures.place in
    let gone = rw c.len.ensures at c.remove.ensures.updates.0 in
    record { keeps = rw c.in_ok-push.ensures.ok (taken_over c.args.number c.place_among.result c.args.self.now c.args.few.now.entries c.remove.new.self.entries c.requires.short is gone) }
