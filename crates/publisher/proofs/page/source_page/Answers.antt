use Rattle.std.proofs.Common.{◌∙◌, ◌∷◌, ap, sym, [], length, Option}
use Rattle.permissions.specs.declared.who.Who.{Who}
use Rattle.dtml_parse.specs.TreeReading.{template}
use Rattle.dtml_parse.specs.Trees.{Items}
use Rattle.dtml_parse.specs.Views.{view}
use Rattle.dtml_render.specs.Frames.{place}
use Rattle.dtml_render.specs.Resuming.{Rest}
use Rattle.namespace.specs.Names.{act}
use Rattle.publisher.proofs.PageSteps.{source_begins}
use Rattle.publisher.proofs.page.source_page.Goals as goal

pub returns-clause-begins : goal.returns-clause-begins
returns-clause-begins c =
    let old = c.args.stack.now in
    let new = c.act-former.new.self in
    source_begins old new c.args.oid c.args.object.now c.in_ok-page.page c.whole_budget.result (view c.in_ok-tree.tree.value) (ap template (sym c.source_of.ensures) ∙ c.in_ok-tree.ensures.read)
    (c.act-former.ensures.set ∙ ap (λ (w : Option Who). record old { scope = act w old.scope }) c.in_ok-acting.ensures.is) c.whole_budget.ensures.renders c.whole_budget.ensures.left
    c.in_ok-page.ensures
