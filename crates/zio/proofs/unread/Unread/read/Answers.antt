use Rattle.std.proofs.Common.{◌≡◌, drop, length, ◌+◌, ◌-◌, ◌∙◌, sym, arith}
use Rattle.std.proofs.lemmas.List.{length-take}
use Rattle.zio.proofs.Pieces.{moved}
use Rattle.zio.proofs.unread.Unread.read.Goals as goal

pub returns-clause-moved : goal.returns-clause-moved
returns-clause-moved c =
    let all : c.self.inside.taken + c.min-count.result - c.self.inside.taken ≡ c.min-count.result = omega arith in
    let piece = rw (all, c.as_slice-bytes.ensures) at c.copy_from_slice.ensures.after in
    let len : length c.copy_from_slice.new.self ≡ c.min-count.result = omega (arith, c.copy_from_slice.ensures.len, length-take c.min-count.result c.args.buf.now) in
    sym c.self.view_is ∙ moved c.self.inside.bytes c.copy_from_slice.new.self (drop c.min-count.result c.args.buf.now) c.self.inside.taken c.min-count.result piece len
