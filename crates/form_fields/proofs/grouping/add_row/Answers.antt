use Rattle.std.proofs.Common.{◌∙◌, sym, ap, subst, arith}
use Rattle.form_fields.specs.Firsts.{AreAt}
use Rattle.form_fields.specs.Grouping.{names}
use Rattle.form_fields.proofs.Adding.{added_at, as_many, grown, names_kept, on_ok}
use Rattle.form_fields.proofs.grouping.add_row.Goals as goal

pub returns-in-Some-clause-fields : goal.returns-in-Some-clause-fields
returns-in-Some-clause-fields c =
    let at = rw c.as_str.ensures at (sym (c.place_of.ensures (names c.args.fields.now.items) c.requires) ∙ c.in-Some.is) in
    on_ok c.add_value.result _ _ (λ e. added_at c.args.fields.now.items c.args.row c.in-Some.place c.index_mut.result.now c.add_value.new.field at c.index_mut.ensures.value e) c.add_value.ensures

pub returns-in-Some-clause-places : goal.returns-in-Some-clause-places
returns-in-Some-clause-places c =
    let at = sym (c.place_of.ensures (names c.args.fields.now.items) c.requires) ∙ c.in-Some.is in
    on_ok c.add_value.result _ _ (λ e. subst (λ ns. AreAt ns c.args.places.now) (sym (names_kept c.args.fields.now.items c.args.row.value c.as_str.result.now c.in-Some.place c.index_mut.result.now c.add_value.new.field at c.index_mut.ensures.value e)) c.requires) c.add_value.ensures

pub returns-in_ok-push-in-None-clause-places : goal.returns-in_ok-push-in-None-clause-places
returns-in_ok-push-in-None-clause-places c =
    let none = rw c.as_str.ensures at (sym (c.place_of.ensures (names c.args.fields.now.items) c.requires) ∙ c.in-None.is) in
    let put = rw c.as_str-in-None.ensures at (c.in_ok-put_name-in-None.ensures (names c.args.fields.now.items) c.requires) in
    grown c.args.fields.now.items c.push.new.self.items c.in_ok-field_by-in-None.field-0 c.args.row.name c.put_name.new.places c.in_ok-push-in-None.ensures.items (ap (λ f. f.name) c.in_ok-field_by-in-None.ensures) (put none (as_many c.args.fields.now.items c.len.result (omega (arith, c.len.ensures, c.args.fields.now.ok))))
