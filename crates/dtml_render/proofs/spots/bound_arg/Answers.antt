use Rattle.std.proofs.Common.{◌∙◌, ap, sym, Some, arith}
use Rattle.dtml_parse.specs.Views.{arg_view}
use Rattle.dtml_parse.specs.declared.tree.Binding.{Binding}
use Rattle.dtml_render.proofs.SpotLaws.{bound_argument, bound_argument_none}
use Rattle.dtml_render.proofs.spots.bound_arg.Goals as goal

pub returns-then-part-bindings : goal.returns-then-part-bindings
returns-then-part-bindings c = λ block. let test = c.if-part-bindings.true in ap (λ (b : Binding). Some (c.args.at, arg_view b.arg)) (sym c.index-bindings-part.is) ∙ bound_argument c.args.bindings.now c.args.at c.args.part c.index-bindings-part.result block (omega (arith, test)) c.index-bindings-part.is

pub returns-else-part-bindings : goal.returns-else-part-bindings
returns-else-part-bindings c = λ block. let test = c.if-part-bindings.false in bound_argument_none c.args.bindings.now c.args.at c.args.part block (omega (arith, test))
