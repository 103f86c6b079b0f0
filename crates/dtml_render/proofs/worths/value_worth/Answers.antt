use Rattle.std.proofs.Common.{◌∙◌, refl, ap, Some, Ok}
use Rattle.zknown.specs.Seen.{objects}
use Rattle.namespace.specs.declared.val.Val.TheVariants as val
use Rattle.dtml_render.specs.Rendering.{rendered_if}
use Rattle.dtml_render.proofs.WorthLaws.{name_found}
use Rattle.dtml_render.proofs.worths.value_worth.Goals as goal

pub returns-in-Seq-clause-is : goal.returns-in-Seq-clause-is
unfolding rendered_if
returns-in-Seq-clause-is c = λ name before at left found inside.
    name_found (objects c.args.stack.now.known) before c.args.stack.now.scope name inside at left (val.Seq c.in-Seq.items) c.args.stack.now.shown (found ∙ ap (λ v. Ok (Some v, c.args.stack.now.shown)) c.in-Seq.is) refl
