use Rattle.std.proofs.Common.{◌≡◌, drop, length, arith}
use Rattle.fs_pack.proofs.Picks.{all_picked}
use Rattle.fs_pack.proofs.choosing.picked.Goals as goal

pub returns : goal.returns
returns c =
    let rest = c.loop-value.value-iterator.rest in
    let none : length rest.items ≡ 0 = omega (arith, rest.ok.0, c.in-None.ensures.steps.0) in
    all_picked c.loop-value.stay rest.items (drop c.loop-value.number c.args.marks.now) _ none c.loop-value.invariant
