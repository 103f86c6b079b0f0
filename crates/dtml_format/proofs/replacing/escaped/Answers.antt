use Rattle.std.proofs.Common.{◌==◌, ◌||◌}
use Rattle.std.specs.Char.{is_ascii_alphanumeric}
use Rattle.percent_encoding.specs.AsciiSet.{contains}
use Rattle.dtml_format.proofs.Escapes.{one_more, others_at_first}
use Rattle.dtml_format.proofs.replacing.escaped.Goals as goal

pub returns : goal.returns
returns c =
    let at_1 = one_more _ (contains c.remove.result) is_ascii_alphanumeric 95 c.remove.ensures.removed c.remove.ensures.others others_at_first in
    let at_2 = one_more _ (contains c.remove-2.result) (λ b. is_ascii_alphanumeric b || b == 95) 45 c.remove-2.ensures.removed c.remove-2.ensures.others at_1 in
    let at_3 = one_more _ (contains c.remove-3.result) (λ b. (is_ascii_alphanumeric b || b == 95) || b == 45) 46 c.remove-3.ensures.removed c.remove-3.ensures.others at_2 in
    one_more _ (contains c.remove-4.result) (λ b. ((is_ascii_alphanumeric b || b == 95) || b == 45) || b == 46) 47 c.remove-4.ensures.removed c.remove-4.ensures.others at_3
