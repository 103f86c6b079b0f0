use Rattle.std.proofs.Common.{◌<◌, ◌≤◌, ◌≡◌, ◌∙◌, length, sym, arith}
use Rattle.dtml_expr.specs.Trees as trees
use Rattle.dtml_expr.specs.ViewLaws.{view_and}
use Rattle.dtml_expr.proofs.ViewLemmas.{joined_many, joined_one, joined_none}
use Rattle.dtml_expr.proofs.making.one_and.Goals as goal

pub returns-then-len-gt1 : goal.returns-then-len-gt1
returns-then-len-gt1 c =
    let many : 1 < length c.args.operands.items = omega (arith, c.args.operands.ok.0) in
    view_and (record { items = c.args.operands }) ∙ sym (joined_many trees.And c.args.operands.items many)

pub returns-in-Some : goal.returns-in-Some
returns-in-Some c =
    let one : length c.args.operands.items ≤ 1 = omega (arith, c.args.operands.ok.0) in
    sym (joined_one trees.And c.args.operands.items c.pop.new.self.items c.in-Some.only one c.in-Some.ensures.items)

pub returns-in-None : goal.returns-in-None
returns-in-None c =
    let none : length c.args.operands.items ≡ 0 = omega (arith, c.args.operands.ok.0, c.in-None.ensures.len, c.in-None.ensures.cases.0) in
    view_and (record { items = c.pop.new.self }) ∙ sym (joined_none trees.And c.args.operands.items c.pop.new.self.items none c.in-None.ensures.items)
