use Rattle.std.proofs.Common.{◌≡◌, None, ◌∙◌, sym, refl}
use Rattle.std.specs.List.{take_while}
use Rattle.std.specs.Char.{is_ascii_digit}
use Rattle.dtml_expr.proofs.Cuts.{behind_digits}
use Rattle.dtml_expr.specs.Tokens.{number_at}
use Rattle.dtml_expr.proofs.Digits.{unread_digits}
use Rattle.dtml_expr.proofs.token.number_at.Goals as goal

pub split_at-requires : goal.split_at-requires
split_at-requires c = rw (c.digits_len.ensures, c.as_bytes.ensures.value) (behind_digits c.args.text.now c.utf8.text)

pub returns-in_err-value : goal.returns-in_err-value
returns-in_err-value c =
    let digits : c.split_at.result.0.now ≡ take_while is_ascii_digit c.args.text.now = rw (c.split_at.ensures.front, c.digits_len.ensures, c.as_bytes.ensures.value) refl in
    let none : number_at c.args.text.now ≡ None =
    unread_digits c.args.text.now c.split_at.result.0.now c.parse.result digits c.requires c.parse.ensures.value.0 (sym c.ok.ensures.value ∙ c.in_err-value.was) in
    rw (c.from_residual.ensures, none) refl
