use Rattle.std.proofs.Common.{◌++◌, ◌∙◌, sym, ap}
use Rattle.acquisition.proofs.Joining.{all_others}
use Rattle.acquisition.proofs.join.put_others.Goals as goal

pub returns : goal.returns
returns c = c.in_ok-extend_from_slice.ensures.items ∙ ap (λ ys. c.args.out.now.items ++ ys) (sym (all_others c.args.marks.now c.args.path.now c.args.block.now c.requires (sym c.any_is_marked.ensures ∙ c.if-any_is_marked.false)))
