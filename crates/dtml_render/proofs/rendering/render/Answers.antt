use Rattle.std.proofs.Common.{ℕ, ◌≡◌, ◌≤◌, ◌∙◌, refl, sym, ap, subst, arith, List, Result}
use Rattle.evaluator.specs.declared.reply.Shown.{Shown}
use Rattle.zbase.specs.Query.{Halt}
use Rattle.zknown.specs.Seen.{objects}
use Rattle.dtml_parse.specs.Views.{view}
use Rattle.namespace.specs.Looks.{Fault, looked}
use Rattle.namespace.specs.Names.{Space}
use Rattle.namespace.specs.Told.{Begins, Shows}
use Rattle.dtml_values.specs.Values.{Left}
use Rattle.dtml_values.specs.Told.{told, left_of}
use Rattle.dtml_values.specs.declared.budget.Budget.{Budget}
use Rattle.dtml_render.specs.Frames.{comes_to, place_of}
use Rattle.dtml_render.specs.Rendering.{tree_text}
use Rattle.dtml_render.specs.ResumeLaws.{begins}
use Rattle.dtml_render.proofs.PageLaws.{used_so, granted_so, denied_so}
use Rattle.dtml_render.proofs.Walking.{back_again, begun_stands, inside_long}
use Rattle.dtml_render.proofs.rendering.render.Goals as goal

pub cut-requires : goal.cut-requires
cut-requires c =
    let stands = begun_stands c.args.stack.now c.args.budget.now (view c.args.tree.now) (place_of c.in_ok-page.page c.args.stack.now) c.in_ok-page.ensures in
    let long = inside_long c.args.stack.now.scope c.go_on-result.new.stack.scope (c.go_on-result.ensures.inside c.args.stack.now.scope stands) in
    let deep = c.depth-depth.ensures in
    omega (arith, long, deep)

pub returns : goal.returns
returns c =
    let k = objects c.args.stack.now.known in
    let tree = view c.args.tree.now in
    let text = tree_text c.args.budget.now.renders c.args.stack.now.scope tree (left_of c.args.budget.now) in
    let page = place_of c.in_ok-page.page c.args.stack.now in
    let stands = begun_stands c.args.stack.now c.args.budget.now tree page c.in_ok-page.ensures in
    let same : comes_to k page ≡ looked k c.args.stack.now.shown text =
    ap (comes_to k) c.in_ok-page.ensures ∙ sym (begins k c.args.budget.now.renders c.args.stack.now.scope tree (left_of c.args.budget.now) c.args.stack.now.shown k (λ o seen e. e)) in
    let shown : c.act-acted.new.self.shown ≡ c.go_on-result.new.stack.shown = ap (λ (s : Space). s.shown) c.act-acted.ensures.set ∙ c.cut.ensures.shown in
    let left : left_of c.go_on-result.new.self.budget ≡ record { tags = c.budget-left.result.tags; output = c.budget-left.result.output } = ap left_of (sym c.budget-left.ensures) in
    let is : Shows {A = List ℕ × Left} told (λ t. (t, record { tags = c.budget-left.result.tags; output = c.budget-left.result.output })) c.act-acted.new.self.shown c.go_on-result.result (looked k c.args.stack.now.shown text) =
    subst (λ (s : List Shown). Shows {A = List ℕ × Left} told (λ t. (t, record { tags = c.budget-left.result.tags; output = c.budget-left.result.output })) s c.go_on-result.result (looked k c.args.stack.now.shown text)) (sym shown)
    (subst (λ (l : Left). Shows {A = List ℕ × Left} told (λ t. (t, l)) c.go_on-result.new.stack.shown c.go_on-result.result (looked k c.args.stack.now.shown text)) left
    (subst (λ (r : Result ((List ℕ × Left) × List Shown) (Halt ℕ Fault)). Shows {A = List ℕ × Left} told (λ t. (t, left_of c.go_on-result.new.self.budget)) c.go_on-result.new.stack.shown c.go_on-result.result r) same c.go_on-result.ensures.is)) in
    let spent = ap (λ (b : Budget). b.tags) c.budget-left.ensures in
    let put = ap (λ (b : Budget). b.output) c.budget-left.ensures in
    let fewer : c.go_on-result.new.self.budget.tags ≤ c.args.budget.now.tags = (let t = c.go_on-result.ensures.tags in let b = ap (λ p. p.state.left.tags) c.in_ok-page.ensures in omega (arith, t, b)) in
    let shorter : c.go_on-result.new.self.budget.output ≤ c.args.budget.now.output = (let t = c.go_on-result.ensures.output in let b = ap (λ p. p.state.left.output) c.in_ok-page.ensures in omega (arith, t, b)) in
    let later : Left = record { tags = c.budget-left.result.tags; output = c.budget-left.result.output } in
    record {
      is = is;
      keeps = record {
        known = ap (λ (s : Space). s.known) c.act-acted.ensures.set ∙ c.cut.ensures.known ∙ c.go_on-result.ensures.known;
        scope = back_again c.args.stack.now.scope c.go_on-result.new.stack.scope c.cut.new.stack.scope c.act-acted.new.self.scope c.depth-depth.result c.in_ok-acting.acting
            (c.go_on-result.ensures.inside c.args.stack.now.scope stands) c.depth-depth.ensures c.cut.ensures.scope (ap (λ (s : Space). s.scope) c.act-acted.ensures.set) c.in_ok-acting.ensures;
        shown = subst (Begins c.args.stack.now.shown) (sym shown) c.go_on-result.ensures.shown;
        renders = refl;
        tags = omega (arith, spent, fewer);
        output = omega (arith, put, shorter);
      };
      used = used_so k c.args.stack.now.shown c.act-acted.new.self.shown c.args.budget.now.renders c.args.stack.now.scope tree (left_of c.args.budget.now) later c.go_on-result.result is;
      granted = granted_so k c.args.stack.now.shown c.act-acted.new.self.shown c.args.budget.now.renders c.args.stack.now.scope tree (left_of c.args.budget.now) later c.go_on-result.result is;
      denied = denied_so k c.args.stack.now.shown c.act-acted.new.self.shown c.args.budget.now.renders c.args.stack.now.scope tree (left_of c.args.budget.now) later c.go_on-result.result is;
    }
