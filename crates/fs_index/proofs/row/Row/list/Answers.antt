use Rattle.std.proofs.Common.{ℕ, List, arith, get_or, ap, ◌∙◌, length}
use Rattle.std.proofs.lemmas.List.{get_or_read, length-take}
use Rattle.fs_index.proofs.Listing.{place_listed}
use Rattle.fs_index.proofs.row.Row.list.Goals as goal

pub overflow_add-first : goal.overflow_add-first
overflow_add-first c = omega (arith, c.requires, c.loop-number-test.true, c.reach-number-end.ensures, length-take 65536 c.args.self.now)

pub index-requires : goal.index-requires
index-requires c = omega (arith, c.loop-number-test.true, c.reach-number-end.ensures, length-take 65536 c.args.self.now, ap (λ (ps : List ℕ). length ps) c.self.view_is)

pub loop-number-preserved : goal.loop-number-preserved
loop-number-preserved c = place_listed c.args.first c.loop-number.number c.number.result c.args.self.now c.args.rows.now c.loop-number.rows c.add_known.new.rows (omega (arith, c.loop-number-test.true, c.reach-number-end.ensures)) (c.number.ensures.number ∙ get_or_read c.self.inside.places.items c.loop-number.number c.index.result.now (omega (arith, c.loop-number-test.true, c.reach-number-end.ensures, length-take 65536 c.args.self.now, ap (λ (ps : List ℕ). length ps) c.self.view_is)) c.index.ensures 0 ∙ ap (λ (ps : List ℕ). get_or ps c.loop-number.number 0) c.self.view_is) c.loop-number.invariant c.in_ok-add_known.ensures
