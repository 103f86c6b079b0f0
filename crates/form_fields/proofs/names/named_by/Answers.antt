use Rattle.std.proofs.Common.{◌∙◌, suc, ◌+◌, false, length, ap, sym, arith, option_map}
use Rattle.form_fields.specs.Names.{named_by}
use Rattle.form_fields.specs.Views.{named_view}
use Rattle.form_fields.proofs.Suffixes.{enough, none_less, one_less, shorter_less}
use Rattle.form_fields.proofs.names.named_by.Goals as goal

pub suffixes-init : goal.suffixes-init
unfolding named_by
suffixes-init c = λ n fits. enough n (length c.args.name.now) (record { name = c.args.name.now; is_int = false; is_list = false }) fits (omega arith)

pub suffixes-smaller : goal.suffixes-smaller
suffixes-smaller c = shorter_less (named_view c.suffixes.named) (named_view c.in-Some.next) (sym c.in-Some.ensures)

pub suffixes-preserved : goal.suffixes-preserved
suffixes-preserved c = λ n fits.
    sym (one_less n (named_view c.suffixes.named) (named_view c.in-Some.next) (sym c.in-Some.ensures) fits)
    ∙ c.suffixes.invariant (suc (n + length c.suffixes.named.name.now)) (omega arith)

pub returns : goal.returns
returns c =
    sym (none_less (named_view c.suffixes.named) (sym c.shorter.ensures ∙ ap (option_map named_view) c.in_default.is))
    ∙ c.suffixes.invariant (suc (length c.suffixes.named.name.now)) (omega arith)
