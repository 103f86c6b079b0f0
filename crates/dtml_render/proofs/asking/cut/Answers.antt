use Rattle.std.proofs.Common.{◌≡◌, ◌∙◌, ◌<◌, ◌-◌, ap, length, arith}
use Rattle.namespace.specs.Names.{Space}
use Rattle.dtml_render.proofs.Steps.{cut_step, cut_end, popped_length}
use Rattle.dtml_render.proofs.asking.cut.Goals as goal

pub loop-stack-smaller : goal.loop-stack-smaller
loop-stack-smaller c =
    let more : c.args.depth < length c.loop-stack.stack.scope.layers = omega (arith, c.loop-stack-test.true, c.depth.ensures) in
    let fewer : length c.pop.new.self.scope.layers ≡ length c.loop-stack.stack.scope.layers - 1 = ap (λ (s : Space). length s.scope.layers) c.pop.ensures ∙ popped_length c.loop-stack.stack.scope.layers (omega (arith, more)) in
    omega (arith, more, fewer)

pub loop-stack-preserved : goal.loop-stack-preserved
loop-stack-preserved c =
    let more : c.args.depth < length c.loop-stack.stack.scope.layers = omega (arith, c.loop-stack-test.true, c.depth.ensures) in
    let fewer : length c.pop.new.self.scope.layers ≡ length c.loop-stack.stack.scope.layers - 1 = ap (λ (s : Space). length s.scope.layers) c.pop.ensures ∙ popped_length c.loop-stack.stack.scope.layers (omega (arith, more)) in
    record {
      known = ap (λ (s : Space). s.known) c.pop.ensures ∙ c.loop-stack.invariant.known;
      scope = cut_step c.args.stack.now c.loop-stack.stack c.pop.new.self c.args.depth c.loop-stack.invariant.scope more c.pop.ensures;
      shown = ap (λ (s : Space). s.shown) c.pop.ensures ∙ c.loop-stack.invariant.shown;
      deep = omega (arith, more, fewer);
    }

pub returns-clause-scope : goal.returns-clause-scope
returns-clause-scope c =
    cut_end c.args.stack.now c.loop-stack.stack c.args.depth c.loop-stack.invariant.scope (omega (arith, c.loop-stack-test.false, c.depth.ensures, c.loop-stack.invariant.deep))
