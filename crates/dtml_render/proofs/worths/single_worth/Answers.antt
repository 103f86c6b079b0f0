use Rattle.std.proofs.Common.{rules, ◌∙◌, refl, ap, Some, Ok}
use Rattle.zknown.specs.Seen.{objects}
use Rattle.namespace.specs.declared.val.Single.TheVariants as single
use Rattle.namespace.specs.declared.val.Val.TheVariants as val
use Rattle.dtml_render.specs.Rendering.{rendered_if}
use Rattle.dtml_render.proofs.WorthLaws.{name_found}
use Rattle.dtml_render.proofs.worths.single_worth.Goals as goal

pub returns-in-Text-clause-is : goal.returns-in-Text-clause-is
unfolding rendered_if
returns-in-Text-clause-is c = λ name before at left found inside.
    name_found (objects c.args.stack.now.known) before c.args.stack.now.scope name inside at left (val.Single (single.Text c.in-Text.text)) c.args.stack.now.shown (found ∙ ap (λ v. Ok (Some (val.Single v), c.args.stack.now.shown)) c.in-Text.is) refl

pub returns-in-Int-clause-is : goal.returns-in-Int-clause-is
unfolding rendered_if
returns-in-Int-clause-is c = λ name before at left found inside.
    name_found (objects c.args.stack.now.known) before c.args.stack.now.scope name inside at left (val.Single (single.Int c.in-Int.number)) c.args.stack.now.shown (found ∙ ap (λ v. Ok (Some (val.Single v), c.args.stack.now.shown)) c.in-Int.is) refl
    ∙ ap (λ n. Ok ((Some (val.Single (single.Int n)), left), c.args.stack.now.shown)) (search rules)
