use Rattle.std.proofs.Common.{◌≡◌, ◌∙◌, length, arith}
use Rattle.std.proofs.lemmas.Bool.Decides.{nat_tests}
use Rattle.acquisition.proofs.Joining.{joined_behind, all_are_put}
use Rattle.acquisition.proofs.join.join_by_marks.Goals as goal

pub returns : goal.returns
returns c =
    let none : length c.loop-rest.rest.now ≡ 0 = grind (arith, nat_tests, c.is_empty.ensures, c.loop-rest-test.false) in
    c.from_vec.ensures ∙ joined_behind c.args.path.now c.args.order.now c.loop-rest.out.items c.requires (all_are_put c.args.path.now c.loop-rest.out.items c.loop-rest.rest.now _ none c.loop-rest.invariant)
