use Rattle.std.proofs.Common.{◌≡◌, List, subst}
use Rattle.std.specs.Prelude.{OnOk}
use Rattle.namespace.specs.Names.{Space, push}
use Rattle.namespace.specs.declared.val.Layer.TheVariants as layer
use Rattle.namespace.specs.declared.val.Named.{Named}
use Rattle.dtml_render.specs.Rendering.{item_pushed}
use Rattle.dtml_render.proofs.turns.push_turn.Goals as goal

pub returns-clause-ok : goal.returns-clause-ok
returns-clause-ok c =
    subst (λ (ns : List Named). OnOk c.push_item.result (c.push_item.new.stack ≡ record c.args.stack.now { scope = item_pushed c.args.item.now (push (layer.Names ns) c.args.stack.now.scope) })) c.in_ok-names.ensures
    (subst (λ (space : Space). OnOk c.push_item.result (c.push_item.new.stack ≡ record space { scope = item_pushed c.args.item.now space.scope })) c.in_ok-push_names.ensures.ok c.push_item.ensures.ok)
