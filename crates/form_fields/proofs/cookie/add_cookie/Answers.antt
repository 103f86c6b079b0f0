use Rattle.std.proofs.Common.{◌∙◌, sym}
use Rattle.form_fields.specs.Grouping.{names}
use Rattle.form_fields.proofs.Adding.{as_many, grown, none_from, on_ok}
use Rattle.form_fields.proofs.cookie.add_cookie.Goals as goal

pub returns-clause-places : goal.returns-clause-places
returns-clause-places c =
    let none = sym (c.place_of.ensures (names c.args.cookies.now) c.requires) ∙ none_from c.place_of.result (sym c.is_some.ensures ∙ c.if-is_some.false) in
    let put = c.in_ok-put_name.ensures (names c.args.cookies.now) c.requires none (as_many c.args.cookies.now c.len.result c.len.ensures) in
    on_ok c.push.result _ _ (λ e. grown c.args.cookies.now c.push.new.self _ c.args.name.now c.put_name.new.places e c.in_ok-name.ensures put) c.push.ensures.ok
